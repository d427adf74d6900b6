use Rattle.std.proofs.Common.{◌≡◌, ◌*◌, ◌≤◌, length, take, drop}
use Rattle.table_text.specs.Lines.{text_of_table}
use Rattle.table_text.proofs.writes.write_table.Given as goal

abbrev pub invariant-loop-place : goal.invariant-loop-place
invariant-loop-place g l =
    let s = text_of_table (take l.place (g.H.Host.rows l.host)) in
    (l.at ≡ length s) × (l.at ≤ 162 * l.place) × (take l.at l.buf ≡ s) × (drop l.at l.buf ≡ drop l.at l.initial.buf)
