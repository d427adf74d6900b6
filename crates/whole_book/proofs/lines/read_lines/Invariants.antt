use Rattle.std.proofs.Common.{◌-◌, ◌≤◌, length, take}
use Rattle.book_words.specs.Cuts.{words_of}
use Rattle.whole_book.specs.Books.{BookSays}
use Rattle.whole_book.proofs.lines.read_lines.Given as goal

abbrev pub invariant-loop-at : goal.invariant-loop-at
invariant-loop-at l = (l.at ≤ length l.tokens) × BookSays l.book (take l.at (words_of l.tokens))

abbrev pub decreases-loop-at : goal.decreases-loop-at
decreases-loop-at l = length l.tokens - l.at
