use Rattle.std.proofs.Common.{◌≡◌, ◌*◌, ◌≤◌, length, take}
use Rattle.table_text.specs.Lines.{text_of_table}
use Rattle.table_text.proofs.writes.text_length.Given as goal

abbrev pub invariant-loop-place : goal.invariant-loop-place
invariant-loop-place g l = (l.sum ≡ length (text_of_table (take l.place (g.H.Host.rows l.host)))) × (l.sum ≤ 162 * l.place)
