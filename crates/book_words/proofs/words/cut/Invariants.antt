use Rattle.std.proofs.Common.{◌-◌, ◌≤◌, length, vec_items}
use Rattle.book_words.specs.Cuts.{Cut, Ended}
use Rattle.book_words.proofs.words.cut.Given as goal

abbrev pub invariant-loop-found : goal.invariant-loop-found
invariant-loop-found l = Cut l.text (vec_items l.tokens) l.end l.class × (l.end ≤ length l.text) × Ended l.class l.text l.end

abbrev pub decreases-loop-found : goal.decreases-loop-found
decreases-loop-found l = length l.text - l.end
