-- Texts of a language of words, and the first wrong word of other texts.
use Rattle.std.specs.Prelude.{◌≡◌, ℕ, ◌+◌, ◌≤◌, ◌⊎◌, List, [], ◌∷◌, ◌++◌, length, take, drop}
use Rattle.book_words.specs.declared.bytes.Class.{Class}
use Rattle.book_words.specs.declared.bytes.Class.TheVariants.{Line}
use Rattle.book_words.specs.Layout.{Proper, Laid, Stays}

-- the word w is a whole one before the bytes r: a token as far as it goes, or an empty word, which ends with the text, at a blank or at the end of a line
abbrev pub Whole : List ℕ → List ℕ → Type 0
Whole [] [] = Unit {0}
Whole [] (b ∷ r) = (b ≡ 32) ⊎ (b ≡ 10)
Whole (x ∷ w) r = (d : Class) × Proper d (x ∷ w) × Stays d r

module _ (L : List (List ℕ) → Type 0) where
  -- words of the language are laid out in the bytes
  abbrev pub TextOf : List ℕ → Type 0
  TextOf s = (p : List (List ℕ)) × L p × Laid Line p s

  -- The word w at offset `at` of s is the first that no text of the language can have there. What stands before it, less
  -- the blank that parts it from the word before, goes on to a text; and no text goes on with this word. An empty word is
  -- told by what ends it: a line that ends too early, a blank that is misplaced, or the end of the text.
  pub record FirstWrong (s : List ℕ) (at : ℕ) (w : List ℕ) : Type 0 where
    pub inside : at + length w ≤ length s
    pub word : take (length w) (drop at s) ≡ w
    pub whole : Whole w (drop (at + length w) s)
    pub before : (front after : List ℕ) × ((take at s ≡ front) ⊎ (take at s ≡ front ++ (32 ∷ []))) × TextOf (front ++ after)
    pub never : (after : List ℕ) → (w ≡ [] → take 1 after ≡ take 1 (drop (at + length w) s)) → ((d : Class) → Proper d w → Stays d after) → TextOf (take at s ++ (w ++ after)) → ⊥
