-- The first wrong one among words, in any language of lists of words.
use Rattle.std.specs.Prelude.{◌≡◌, ℕ, ◌≤◌, List, [], ◌∷◌, ◌++◌, length, take, slice_index_or}

module _ (L : List (List ℕ) → Type 0) where
  -- Among the words s the one at e, an empty one behind the last, is the first that the language cannot have there:
  -- the words before it go on to some of the language, and none of them go on with this word.
  -- Where a word is lacking, the words are none of the language yet.
  pub record WrongAt (s : List (List ℕ)) (e : ℕ) : Type 0 where
    pub inside : e ≤ length s
    pub before : (u : List (List ℕ)) × L (take e s ++ u)
    pub never : (u : List (List ℕ)) → L (take e s ++ (slice_index_or s e [] ∷ u)) → ⊥
    pub lacking : e ≡ length s → L s → ⊥
