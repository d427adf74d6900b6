use Rattle.std.proofs.Common.{bit_or, ap, ◌∙◌}
use Rattle.monitor.specs.Layout.{set_of}
use Rattle.monitor.proofs.Masks.{with_small, set_with}
use Rattle.monitor.proofs.sets.LeafSet.with.Goals as goal

pub invariant_of-result : goal.invariant_of-result
invariant_of-result c = record { small = rw c.weight.ensures (with_small c.args.j c.args.self.number c.args.self.small) }

pub returns : goal.returns
returns c = ap (λ w. set_of (bit_or c.args.self.number w)) c.weight.ensures ∙ set_with c.args.j c.args.self.number c.args.self.small
