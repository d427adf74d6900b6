use Rattle.std.proofs.Common.{◌<◌, length, sym, refl, ap, ◌∙◌, subst, arith}
use Rattle.host.specs.Bays.{part, Outside}
use Rattle.host.proofs.Parts.{inner, part_set, outside, write_part}
use Rattle.host.proofs.bays.BayHost.write.Goals as goal

pub returns-then-place-capacity : goal.returns-then-place-capacity
returns-then-place-capacity g c =
    let s = c.args.self.now in
    let t = g.H.Host.rows s.below in
    let p = c.args.place in
    let h : p < length (part t s.first s.count) = omega (arith, c.capacity.ensures) in
    let k = (inner t s.first s.count p h).0 in
    let w = c.write.ensures in
    record {
      told = write_part t s.first s.count p h c.write.result w.told;
      rows = ap (λ u. part u s.first s.count) w.rows ∙ part_set t s.first s.count p c.args.row k;
      held = (w.held, refl, refl, subst (Outside s.first s.count t) (sym w.rows) (outside t s.first s.count p c.args.row k));
    }
