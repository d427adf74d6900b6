use Rattle.std.proofs.Common.{◌+◌, ◌*◌, ◌<◌, ◌≤◌, ◌++◌, ◌⊎◌, ⊎_elim, length, sym, ap, ◌∙◌, arith, rules}
use Rattle.table_text.specs.Lines.{text_of_table}
use Rattle.table_text.proofs.Joins.{drop_further}
use Rattle.table_text.proofs.Tables.{text_on, length_on, text_front}
use Rattle.table_text.proofs.writes.write_table.Goals as goal

pub put_bytes-at-requires : goal.put_bytes-at-requires
put_bytes-at-requires g c =
    let t = g.H.Host.rows c.args.host.now in
    let i = c.loop-place.place in
    let s = c.spell_row in
    let more = length_on t i (omega (arith, c.capacity-place-end.ensures)) s.result.items c.row_at.result s.ensures c.row_at.ensures in
    let room : (162 * length t ≤ length c.args.buf.now) ⊎ (length (text_of_table t) ≤ length c.args.buf.now) = c.fits.ensures.0 (search rules) in
    ⊎_elim
    (λ a. omega (arith, a, ap length c.deref.ensures.0, c.capacity-place-end.ensures, c.loop-place.invariant.1, c.loop-place.auto.buf))
    (λ b. omega (arith, b, more, ap length c.deref.ensures.0, text_front t (i + 1), c.loop-place.invariant.0, c.loop-place.auto.buf))
    room

pub loop-place-preserved : goal.loop-place-preserved
loop-place-preserved g c =
    let t = g.H.Host.rows c.args.host.now in
    let i = c.loop-place.place in
    let h : i < length t = omega (arith, c.capacity-place-end.ensures) in
    let s = c.spell_row in
    let spelt = c.deref.ensures.0 ∙ s.ensures in
    let bytes = c.deref.result.now in
    let p = c.put_bytes-at.ensures.puts in
    let at = c.loop-place.at in
    let to = c.put_bytes-at.result in (
      p.ends ∙ ap (λ n. n + length bytes) c.loop-place.invariant.0 ∙ sym (length_on t i h bytes c.row_at.result spelt c.row_at.ensures),
      omega (arith, p.ends, c.loop-place.invariant.1, ap length c.deref.ensures.0),
      p.written ∙ ap (λ f. f ++ bytes) c.loop-place.invariant.2 ∙ sym (text_on t i h bytes c.row_at.result spelt c.row_at.ensures),
      c.put_bytes-at.ensures.rest ∙ drop_further at to c.loop-place.buf c.args.buf.now (omega (arith, p.ends)) c.loop-place.invariant.3,
    )
