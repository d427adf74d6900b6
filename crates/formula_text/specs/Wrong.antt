-- The first word that cannot stand where it does.
use Rattle.std.specs.Prelude.{◌≡◌, ℕ, ◌<◌, ◌≤◌, List, [], ◌∷◌, ◌++◌, length, take, codes, ◌≢◌, slice_index_or}
use Rattle.ftpl.specs.declared.formulas.EventList.{EventList}
use Rattle.ftpl.specs.declared.formulas.Leaf.{Leaf}
use Rattle.book_text.specs.declared.parts.Stop.{Stop}
use Rattle.book_text.specs.declared.parts.Stop.TheVariants.{Wrong, Memory}
use Rattle.book_text.specs.Rules.{Text}
use Rattle.formula_text.specs.Rules.{CoreOf, RuleSays}

-- the words are some formula's rule, of properties numbered 1 to n
abbrev pub IsRule : ℕ → List Text → Type 0
IsRule n p = (es : List EventList) × (f : CoreOf Leaf) × RuleSays n es f p

-- The word at e, an empty one behind the last, is the first that no rule can have there:
-- the words before it go on to a rule, and no rule goes on with this word. Where a word is lacking, they are no rule yet.
-- Without properties there is no rule, and the very first word is wrong.
pub record FirstWrong (n : ℕ) (s : List Text) (e : ℕ) : Type 0 where
  pub inside : e ≤ length s
  pub none : n ≡ 0 → e ≡ 0
  pub before : 0 < n → (u : List Text) × IsRule n (take e s ++ u)
  pub never : (u : List Text) → IsRule n (take e s ++ (slice_index_or s e [] ∷ u)) → ⊥
  pub lacking : e ≡ length s → IsRule n s → ⊥

abbrev pub Stopped : ℕ → List Text → Stop → Type 0
Stopped n s (Wrong e) = FirstWrong n s e
Stopped n s Memory = Unit {0}

-- `rule=` stands in front of the first word, and the formula begins at this index
pub data Front : List Text → ℕ → Type 0 where
  first : {t : Text} {p : List Text} → (t ≢ []) → (t ≡ codes "(" → ⊥) → Front ((codes "rule=" ++ t) ∷ p) 0
  second : {p : List Text} → Front (codes "rule=" ∷ codes "(" ∷ p) 1
