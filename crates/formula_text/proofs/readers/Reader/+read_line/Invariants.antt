use Rattle.std.proofs.Common.{◌-◌}
use Rattle.formula_text.proofs.readers.Reader.+read_line.Given as goal

-- the lists that may still follow fall
abbrev pub decreases-read_line : goal.decreases-read_line
decreases-read_line l = 3 - l.lists
