use Rattle.std.proofs.Common.{length, vec_items, sym, ap, ◌∙◌, arith}
use Rattle.std.specs.List.{list_any}
use Rattle.ftpl.specs.declared.formulas.Formula.{Formula}
use Rattle.ftpl.proofs.Numbered.{numbered_none}
use Rattle.monitor.specs.Boards.{names}
use Rattle.monitor.proofs.Filled.{unnamed}
use Rattle.monitor.proofs.working.needed_value.Goals as goal
use Rattle.monitor.proofs.working.needed_value.Goals.{else-from-properties-via-then-from-properties+else-is_named, else-from-properties-via-else-from-properties}

pub returns-else-from-properties : goal.returns-else-from-properties
returns-else-from-properties g c i f j st e =
    c.bottom.ensures
    ∙ sym
    (elim c.else-from-properties.branch [
      | else-from-properties-via-then-from-properties+else-is_named w ↦
          absurd (unnamed j (ap (list_any (λ (x : Formula). names x.leaves c.args.number)) (sym w.as_slice.ensures.value) ∙ sym w.if-is_named.ensures) st e)
      | else-from-properties-via-else-from-properties w ↦
          numbered_none g.S.Scale.ops (g.H.Host.rows c.args.host.now) (vec_items c.args.book.now.properties) c.args.number (omega (arith, ap length c.as_slice-properties.ensures.value))
    ])
