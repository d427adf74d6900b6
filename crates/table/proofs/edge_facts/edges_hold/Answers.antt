use Rattle.table.proofs.Edges.{set_to_hi, set_past_hi, add_to_itself}
use Rattle.table.proofs.edge_facts.edges_hold.Goals as goal

pub returns : goal.returns
returns c = record { set_to_hi = set_to_hi; set_past_hi = set_past_hi; add_to_itself = add_to_itself }
