use Rattle.std.proofs.Common.{rules}
use Rattle.host.specs.Names.{same_name}
use Rattle.host.proofs.names.same_name.Goals as goal

pub returns : goal.returns
unfolding same_name
returns c = search rules
