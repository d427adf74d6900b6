use Rattle.std.proofs.Common.{◌-◌, length}
use Rattle.table_text.proofs.Lifted.{ReadSoFar}
use Rattle.table_text.proofs.reads.read_table.Given as goal

abbrev pub invariant-loop-at : goal.invariant-loop-at
invariant-loop-at l = ReadSoFar l.text l.at l.table l.next

abbrev pub decreases-loop-at : goal.decreases-loop-at
decreases-loop-at l = length l.text - l.at
