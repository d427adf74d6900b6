use Rattle.std.proofs.Common.{rules}
use Rattle.table.proofs.Telling.{both_by_second}
use Rattle.table.proofs.refusing.is_sound.Goals as goal

pub returns-then-is_name : goal.returns-then-is_name
returns-then-is_name c = both_by_second _ (c.is_name.ensures.0 c.if-is_name.true) (search rules)
