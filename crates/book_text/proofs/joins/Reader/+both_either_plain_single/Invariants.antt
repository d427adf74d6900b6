use Rattle.std.proofs.Common.{◌+◌, ◌-◌, ◌*◌}
use Rattle.book_text.proofs.joins.Reader.+both_either_plain_single.Given as goal

-- the parentheses that may still be opened fall, and within them the tests that may still follow
abbrev pub decreases-either : goal.decreases-either
decreases-either l = 128 * l.place.depth + 4 * (16 - l.place.count) + 3

abbrev pub decreases-both : goal.decreases-both
decreases-both l = 128 * l.place.depth + 4 * (16 - l.place.count) + 2

abbrev pub decreases-single : goal.decreases-single
decreases-single l = 128 * l.place.depth + 4 * (16 - l.place.count) + 1

abbrev pub decreases-plain : goal.decreases-plain
decreases-plain l = 128 * l.place.depth + 4 * (16 - l.place.count)
