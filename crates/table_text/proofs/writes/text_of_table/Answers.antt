use Rattle.std.proofs.Common.{◌++◌, sym, ap, ◌∙◌, arith}
use Rattle.table_text.proofs.Tables.{text_on}
use Rattle.table_text.proofs.writes.text_of_table.Goals as goal

pub loop-place-preserved : goal.loop-place-preserved
loop-place-preserved g c =
    let t = g.H.Host.rows c.args.host.now in
    let bytes = c.deref.result.now in
    c.in_ok-extend_from_slice.ensures.items ∙ ap (λ f. f ++ bytes) c.loop-place.invariant ∙ sym (text_on t c.loop-place.place (omega (arith, c.capacity-place-end.ensures)) bytes c.row_at.result (c.deref.ensures.0 ∙ c.spell_row.ensures) c.row_at.ensures)
