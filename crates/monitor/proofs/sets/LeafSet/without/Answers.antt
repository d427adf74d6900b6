use Rattle.std.proofs.Common.{◌-◌, bit_and, ap, ◌∙◌}
use Rattle.monitor.specs.Layout.{set_of}
use Rattle.monitor.proofs.Masks.{set_without}
use Rattle.monitor.proofs.sets.LeafSet.without.Goals as goal

pub returns : goal.returns
returns c = ap (λ w. set_of (bit_and c.args.self.number (18446744073709551615 - w))) c.weight.ensures ∙ set_without c.args.j c.args.self.number c.args.self.small
