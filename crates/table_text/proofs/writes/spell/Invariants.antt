use Rattle.std.proofs.Common.{◌≡◌, ◌*◌, ◌≤◌, take}
use Rattle.std.specs.List.{flat_map}
use Rattle.arrayvec.specs.ArrayVec.{array_vec_len}
use Rattle.table_text.specs.Lines.{ended, order}
use Rattle.table_text.proofs.writes.spell.Given as goal

abbrev pub invariant-loop-key : goal.invariant-loop-key
invariant-loop-key l = (array_vec_len l.text ≤ 18 * l.key-index) × (l.text.items ≡ flat_map (ended l.line) (take l.key-index order))
