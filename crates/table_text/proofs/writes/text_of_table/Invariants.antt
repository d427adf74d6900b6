use Rattle.std.proofs.Common.{◌≡◌, take}
use Rattle.table_text.specs.Lines.{text_of_table}
use Rattle.table_text.proofs.writes.text_of_table.Given as goal

abbrev pub invariant-loop-place : goal.invariant-loop-place
invariant-loop-place g l = l.text.items ≡ text_of_table (take l.place (g.H.Host.rows l.host))
