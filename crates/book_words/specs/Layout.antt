-- How words and signs are laid out in a text. The end of a line is a token too.
use Rattle.std.specs.Prelude.{◌≡◌, ℕ, true, ◌⊎◌, List, [], ◌∷◌, ◌++◌, ◌≢◌}
use Rattle.std.specs.List.{AllByRecursion}
use Rattle.book_words.specs.declared.bytes.ByteKind.TheVariants.{Plain}
use Rattle.book_words.specs.declared.bytes.Class.{Class}
use Rattle.book_words.specs.declared.bytes.Class.TheVariants.{Line, Sign, Word}
use Rattle.book_words.specs.Bytes.{kind_of, is_sign}

-- the bytes of a token of each class: a newline, one of the nine signs, or some plain bytes
abbrev pub Proper : Class → List ℕ → Type 0
Proper Line t = t ≡ 10 ∷ []
Proper Sign t = (b : ℕ) × (is_sign b ≡ true) × (t ≡ b ∷ [])
Proper Word t = (t ≢ []) × AllByRecursion (λ b. kind_of b ≡ Plain) t

-- nothing, or one blank
abbrev pub AtMostBlank : List ℕ → Type 0
AtMostBlank g = (g ≡ []) ⊎ (g ≡ 32 ∷ [])

-- what may stand between two tokens: one blank between words, perhaps one at a sign, none at the start of a line or between a word and the end of its line
abbrev pub Gap : Class → Class → List ℕ → Type 0
Gap Line d g = g ≡ []
Gap Sign d g = AtMostBlank g
Gap Word Line g = g ≡ []
Gap Word Sign g = AtMostBlank g
Gap Word Word g = g ≡ 32 ∷ []

-- behind a token of this class the tokens are laid out in the bytes
pub data Laid : Class → List (List ℕ) → List ℕ → Type 0 where
  none : {c : Class} → Laid c [] []
  more : {c : Class} (d : Class) (g t : List ℕ) {s : List ℕ} {p : List (List ℕ)} → Proper d t → Gap c d g → Laid d p s → Laid c (t ∷ p) (g ++ (t ++ s))

-- what follows a token of this class leaves it as it is: a word goes on as far as plain bytes do
abbrev pub Stays : Class → List ℕ → Type 0
Stays Line r = Unit {0}
Stays Sign r = Unit {0}
Stays Word [] = Unit {0}
Stays Word (b ∷ r) = kind_of b ≡ Plain → ⊥
