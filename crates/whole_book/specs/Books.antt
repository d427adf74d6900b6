-- The words of a book: its lines in three groups, properties, standing conditions and formulas.
use Rattle.std.specs.Prelude.{◌≡◌, ℕ, ◌+◌, ◌<◌, ◌≤◌, List, [], ◌∷◌, ◌++◌, length, vec_items, codes, decimal}
use Rattle.std.specs.List.{AllByRecursion}
use Rattle.ftpl.specs.declared.books.Book.{Book}
use Rattle.book_text.specs.Rules.{Text, PropertySays}
use Rattle.book_text.specs.Wrong.{IsRule as IsProperty}
use Rattle.formula_text.specs.Rules.{FormulaSays}
use Rattle.formula_text.specs.Wrong.{IsRule as IsFormula}

-- the lines of rules, which have the words qs: the first word of each is the key with a number, counted from n on
abbrev pub numbered : Text → ℕ → List (List Text) → List Text
numbered key n [] = []
numbered key n (q ∷ qs) = (key ++ decimal n) ∷ (q ++ numbered key (n + 1) qs)

-- the lines of standing conditions
abbrev pub held : List ℕ → List Text
held [] = []
held (n ∷ ns) = (codes "hold=" ++ decimal n) ∷ codes "\n" ∷ held ns

-- each number is above the one before it, and the first above n
abbrev pub Rising : ℕ → List ℕ → Type 0
Rising n [] = Unit {0}
Rising n (m ∷ ms) = (n < m) × Rising m ms

-- The words p are the lines of a book whose properties have the rules `props` and whose formulas have the rules `forms`.
pub record LinesSay (props : List (List Text)) (holds : List ℕ) (forms : List (List Text)) (p : List Text) : Type 0 where
  pub few_properties : length props ≤ 64
  pub few_conditions : length holds ≤ 16
  pub few_formulas : length forms ≤ 32
  -- conditions rise, and each is a property that is listed
  pub rising : Rising 0 holds
  pub listed : AllByRecursion (λ n. n ≤ length props) holds
  pub words : p ≡ numbered (codes "prop=") 1 props ++ (held holds ++ numbered (codes "form=") 1 forms)

-- the relation holds between the things of two lists, one by one
abbrev pub Each : {A B : Type 0} → (A → B → Type 0) → List A → List B → Type 0
Each R [] [] = Unit {0}
Each R [] (y ∷ ys) = ⊥
Each R (x ∷ xs) [] = ⊥
Each R (x ∷ xs) (y ∷ ys) = R x y × Each R xs ys

-- the words p say just this book
pub record BookSays (b : Book) (p : List Text) : Type 0 where
  pub props : List (List Text)
  pub forms : List (List Text)
  pub properties : Each PropertySays (vec_items b.properties) props
  pub formulas : Each (FormulaSays (length props)) (vec_items b.formulas) forms
  pub lines : LinesSay props (vec_items b.conditions) forms p

-- the words p say some book
pub record IsBook (p : List Text) : Type 0 where
  pub props : List (List Text)
  pub holds : List ℕ
  pub forms : List (List Text)
  pub properties : AllByRecursion IsProperty props
  pub formulas : AllByRecursion (IsFormula (length props)) forms
  pub lines : LinesSay props holds forms p
