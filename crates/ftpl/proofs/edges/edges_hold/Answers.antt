use Rattle.ftpl.proofs.Marked.{edges}
use Rattle.ftpl.proofs.edges.edges_hold.Goals as goal

pub returns : goal.returns
returns c = edges
