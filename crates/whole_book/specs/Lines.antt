-- What may stand in the next line of a book, by what the lines before have listed.
-- Private contracts speak of it; what is promised to callers is said by the three groups of lines alone.
use Rattle.std.specs.Prelude.{◌≡◌, ℕ, ◌+◌, ◌<◌, ◌≤◌, List, [], ◌∷◌, ◌++◌, length, vec_items, codes, decimal}
use Rattle.ftpl.specs.declared.books.Book.{Book}
use Rattle.book_text.specs.Rules.{Text, PropertySays}
use Rattle.book_text.specs.Wrong.{IsRule as IsProperty}
use Rattle.formula_text.specs.Rules.{FormulaSays}
use Rattle.formula_text.specs.Wrong.{IsRule as IsFormula}
use Rattle.whole_book.specs.declared.entries.Listed.{Listed}
use Rattle.whole_book.specs.declared.entries.Head.{Head}
use Rattle.whole_book.specs.declared.entries.Head.TheVariants.{Property, Condition, Formula}
use Rattle.whole_book.specs.declared.entries.Entry.{Entry}
use Rattle.whole_book.specs.declared.entries.Entry.TheVariants as says

-- the last of some numbers, or n
abbrev pub last_from : ℕ → List ℕ → ℕ
last_from n [] = n
last_from n (m ∷ ms) = last_from m ms

-- what is listed by so many properties and formulas and by these conditions
abbrev pub counted : ℕ → List ℕ → ℕ → Listed
counted k holds f = record { properties = k; conditions = length holds; last = last_from 0 holds; formulas = f }

abbrev pub listed_in : Book → Listed
listed_in b = counted (length (vec_items b.properties)) (vec_items b.conditions) (length (vec_items b.formulas))

-- the word announces this as the next line
abbrev pub HeadSays : Listed → Head → Text → Type 0
HeadSays σ Property t = (σ.conditions ≡ 0) × (σ.formulas ≡ 0) × (σ.properties < 64) × (t ≡ codes "prop=" ++ decimal (σ.properties + 1))
HeadSays σ (Condition n) t = (σ.formulas ≡ 0) × (σ.conditions < 16) × (σ.last < n) × (n ≤ σ.properties) × (t ≡ codes "hold=" ++ decimal n)
HeadSays σ Formula t = (1 ≤ σ.properties) × (σ.formulas < 32) × (t ≡ codes "form=" ++ decimal (σ.formulas + 1))

-- what is listed then
abbrev pub after : Listed → Head → Listed
after σ Property = record { properties = σ.properties + 1; conditions = σ.conditions; last = σ.last; formulas = σ.formulas }
after σ (Condition n) = record { properties = σ.properties; conditions = σ.conditions + 1; last = n; formulas = σ.formulas }
after σ Formula = record { properties = σ.properties; conditions = σ.conditions; last = σ.last; formulas = σ.formulas + 1 }

-- the words that may stand behind the first word, up to the end of the line, in a book with k properties
abbrev pub Body : ℕ → Head → List Text → Type 0
Body k Property q = IsProperty q
Body k (Condition n) q = q ≡ codes "\n" ∷ []
Body k Formula q = IsFormula k q

-- the words behind the first word say just this
abbrev pub BodySays : ℕ → Head → Entry → List Text → Type 0
BodySays k Property (says.Property x) q = PropertySays x q
BodySays k Property (says.Condition m) q = ⊥
BodySays k Property (says.Formula x) q = ⊥
BodySays k (Condition n) (says.Property x) q = ⊥
BodySays k (Condition n) (says.Condition m) q = (m ≡ n) × (q ≡ codes "\n" ∷ [])
BodySays k (Condition n) (says.Formula x) q = ⊥
BodySays k Formula (says.Property x) q = ⊥
BodySays k Formula (says.Condition m) q = ⊥
BodySays k Formula (says.Formula x) q = FormulaSays k x q

-- the words l are a line that may stand next
pub record Line (σ : Listed) (l : List Text) (τ : Listed) : Type 0 where
  pub head : Head
  pub word : Text
  pub body : List Text
  pub announced : HeadSays σ head word
  pub rest : Body σ.properties head body
  pub words : l ≡ word ∷ body
  pub then : τ ≡ after σ head
