-- What is read at a place, and the step from a part of the tests to the next.
use Rattle.std.specs.Prelude.{◌≡◌, ℕ, ◌+◌, ◌-◌, [], List, slice_index_or}
use Rattle.book_words.specs.Cuts.{words_of}
use Rattle.book_text.specs.declared.places.Place.{Place}
use Rattle.book_text.specs.declared.parts.Part.{Part}
use Rattle.book_text.specs.declared.parts.Stop.{Stop}
use Rattle.book_text.specs.declared.scopes.Scope.{Scope}
use Rattle.book_text.specs.Rules.{Level}
use Rattle.book_text.specs.States.{State}
use Rattle.book_text.specs.Took.{Took, Failed}

-- the sign t stands behind the part, which is read at the place x or behind it, and y is the place behind the sign
pub record Continues (x : Place) (part : Part) (t : List ℕ) (y : Place) : Type 0 where
  pub tokens : y.cursor.tokens ≡ x.cursor.tokens
  pub at : y.cursor.at ≡ part.next + 1
  pub depth : y.depth ≡ x.depth
  pub count : y.count ≡ part.count
  pub word : slice_index_or (words_of x.cursor.tokens.now) part.next [] ≡ t

-- the words from the place on are the part
abbrev pub TookAt : Level → Scope → Place → Part → Type 0
TookAt l sc x part = Took l sc x.depth x.count (words_of x.cursor.tokens.now) x.cursor.at part

-- the reader stopped behind the place, or for want of memory
abbrev pub FailedAt : (Scope → ℕ → ℕ → State) → Scope → Place → Stop → Type 0
FailedAt st sc x e = Failed (st sc (8 - x.depth) x.count) (words_of x.cursor.tokens.now) x.cursor.at e
