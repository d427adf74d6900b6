-- A text cut as far as it goes.
use Rattle.std.specs.Prelude.{◌≡◌, ℕ, ◌<◌, ◌≤◌, ◌⊎◌, List, length, vec_items}
use Rattle.book_words.specs.declared.words.Words.{Words}
use Rattle.book_words.specs.Cuts.{words_of, Cut, Misplaced}
use Rattle.book_words.specs.Layout.{Laid}
use Rattle.book_words.specs.declared.bytes.Class.TheVariants.{Line}

-- the tokens of s, up to its end or to a misplaced blank
pub record Cutting (s : List ℕ) (w : Words) : Type 0 where
  pub cut : Cut s (vec_items w.tokens) w.end w.class
  pub inside : w.end ≤ length s
  pub stop : (w.end ≡ length s) ⊎ Misplaced w.class s w.end
  -- then these are the tokens that are laid out in the text
  pub whole : w.end ≡ length s → Laid Line (words_of (vec_items w.tokens)) s
  -- or none are
  pub broken : w.end < length s → (p : List (List ℕ)) → Laid Line p s → ⊥
