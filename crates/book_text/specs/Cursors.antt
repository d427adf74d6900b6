-- A step from a word to the next.
use Rattle.std.specs.Prelude.{◌≡◌, ℕ, ◌+◌, [], List, slice_index_or}
use Rattle.book_words.specs.declared.tokens.Token.{Token}
use Rattle.book_text.specs.declared.cursors.Cursor.{Cursor}

-- the word t stands at the place x, among the words that a reader sees, and y is the place behind it
pub record Behind (words : List Token → List (List ℕ)) (x : Cursor) (t : List ℕ) (y : Cursor) : Type 0 where
  pub tokens : y.tokens ≡ x.tokens
  pub at : y.at ≡ x.at + 1
  pub word : slice_index_or (words x.tokens.now) x.at [] ≡ t
