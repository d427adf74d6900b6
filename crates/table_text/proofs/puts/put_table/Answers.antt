use Rattle.std.proofs.Common.{◌≡◌, ◌++◌, map, length, set, ap, ◌∙◌, subst, arith, drop, length-append, length-drop}
use Rattle.std.specs.List.{range_with_len}
use Rattle.std.proofs.lemmas.List.{append-nil, drop_all}
use Rattle.std.proofs.lemmas.List.FromFn.{length-map-range_with_len}
use Rattle.host.specs.Tables.{row_at}
use Rattle.table_text.specs.Lines.{text_of_table}
use Rattle.table_text.specs.Placed.{Within}
use Rattle.table_text.proofs.Tables.{fill_more, text_placed}
use Rattle.table_text.proofs.puts.put_table.Goals as goal

pub loop-place-preserved : goal.loop-place-preserved
loop-place-preserved g c =
    let t = c.args.table.now in
    let u = g.H.Host.rows c.args.host.now in
    let i = c.loop-place.place in
    let w = c.write.ensures in (
      w.rows ∙ (λ j. set (c.loop-place.invariant.0 j) i (c.row_or_empty.ensures j)) ∙ fill_more (row_at t) u i (omega (arith, c.capacity-capacity.ensures)),
      g.H.Host.onward c.args.host.now c.loop-place.host c.write.new.self c.loop-place.invariant.1 w.held,
    )

pub returns : goal.returns
returns g c =
    let t = c.args.table.now in
    let u = g.H.Host.rows c.args.host.now in
    let i = c.loop-place.place in
    let n : i ≡ length u = omega (arith, c.capacity-capacity.ensures, c.loop-place.auto.place-end) in
    let within = subst (Within t) c.capacity-capacity.ensures (c.is_within.ensures.0 c.if-not-is_within.false) in
    let rows = c.loop-place.invariant.0 ∙ ap (λ s. map (row_at t) (range_with_len 0 i) ++ s) (drop_all i u (omega (arith, n))) ∙ append-nil (map (row_at t) (range_with_len 0 i)) ∙ ap (λ k. map (row_at t) (range_with_len 0 k)) n in
    record {
      rows = (within, rows);
      text = ap text_of_table rows ∙ text_placed t (length u) within;
      held = c.loop-place.invariant.1;
    }

pub returns-in_err-write-clause-rows : goal.returns-in_err-write-clause-rows
returns-in_err-write-clause-rows g c =
    let t = c.args.table.now in
    let u = g.H.Host.rows c.args.host.now in
    let i = c.loop-place.place in
    let n = ap length c.loop-place.invariant.0 ∙ length-append (map (row_at t) (range_with_len 0 i)) (drop i u) in
    absurd (omega (arith, c.in_err-write.ensures.told.0, c.capacity-capacity.ensures, n, length-map-range_with_len (row_at t) 0 i, length-drop i u))
