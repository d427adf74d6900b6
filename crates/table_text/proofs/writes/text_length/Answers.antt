use Rattle.std.proofs.Common.{arith}
use Rattle.table_text.proofs.Tables.{length_on}
use Rattle.table_text.proofs.writes.text_length.Goals as goal

pub loop-place-preserved : goal.loop-place-preserved
loop-place-preserved g c =
    let t = g.H.Host.rows c.args.host.now in
    let s = c.spell_row in
    let more = length_on t c.loop-place.place (omega (arith, c.capacity-place-end.ensures)) s.result.items c.row_at.result s.ensures c.row_at.ensures in
    (omega (arith, more, c.loop-place.invariant.0, c.len-sum.ensures.value), omega (arith, c.loop-place.invariant.1, c.len-sum.ensures.fits))
