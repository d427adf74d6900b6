use Rattle.std.proofs.Common.{◌≡◌, ◌≤◌, length, take}
use Rattle.std.specs.List.{flat_map}
use Rattle.table_text.specs.Keys.{Fits}
use Rattle.table_text.specs.Lines.{ended, order}
use Rattle.table_text.proofs.reads.read_line.Given as goal

abbrev pub invariant-loop-key : goal.invariant-loop-key
invariant-loop-key l = Fits l.next l.line × (l.at ≤ length l.rest) × (take l.at l.rest ≡ flat_map (ended l.line) (take l.key-index order))
