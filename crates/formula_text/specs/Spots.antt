-- What is read at a spot, and the step from a part of the leaves to the next.
use Rattle.std.specs.Prelude.{◌≡◌, ℕ, ◌+◌, ◌-◌, Bool, [], List, slice_index_or}
use Rattle.book_text.specs.declared.parts.Stop.{Stop}
use Rattle.book_text.specs.Rules.{Level}
use Rattle.formula_text.specs.declared.places.Place.{Place}
use Rattle.formula_text.specs.declared.places.Part.{Part}
use Rattle.formula_text.specs.declared.spots.Spot.{Spot}
use Rattle.formula_text.specs.States.{tracing}
use Rattle.formula_text.specs.Took.{Took, Tracks, Failed}
use Rattle.formula_text.specs.Words.{rule_words}

abbrev pub place_of : Spot → Place
place_of x = record { at = x.cursor.at; count = x.count; leaves = x.leaves }

-- the words from the spot on are the part
abbrev pub TookAt : Level → ℕ → Spot → Part → Type 0
TookAt l n x part = Took l n x.depth (rule_words x.cursor.tokens.now) (place_of x) part

-- the reader stopped behind the spot, or for want of memory
abbrev pub FailedAt : Bool → Level → ℕ → Spot → Stop → Type 0
FailedAt b l n x e = Failed n (Tracks n l x.depth x.count) (tracing b (8 - x.depth) x.count) (rule_words x.cursor.tokens.now) x.cursor.at e

-- the sign t stands behind the part, which is read at the spot x or behind it, and y is the spot behind the sign
pub record Continues (x : Spot) (part : Part) (t : List ℕ) (y : Spot) : Type 0 where
  pub tokens : y.cursor.tokens ≡ x.cursor.tokens
  pub depth : y.depth ≡ x.depth
  pub place : place_of y ≡ record { at = part.place.at + 1; count = part.place.count; leaves = part.place.leaves }
  pub word : slice_index_or (rule_words x.cursor.tokens.now) part.place.at [] ≡ t
