use Rattle.std.proofs.Common.{◌+◌, ◌-◌, ◌*◌}
use Rattle.formula_text.proofs.readers.Reader.+both_either_plain.Given as goal

-- the parentheses that may still be opened fall, and within them the leaves that may still follow
abbrev pub decreases-either : goal.decreases-either
decreases-either l = 32 * l.spot.depth + 4 * (4 - l.spot.count) + 2

abbrev pub decreases-both : goal.decreases-both
decreases-both l = 32 * l.spot.depth + 4 * (4 - l.spot.count) + 1

abbrev pub decreases-plain : goal.decreases-plain
decreases-plain l = 32 * l.spot.depth + 4 * (4 - l.spot.count)
