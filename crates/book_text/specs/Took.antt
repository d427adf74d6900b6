-- What was read from an index on, and where a reader stopped.
use Rattle.std.specs.Prelude.{◌≡◌, ℕ, ◌+◌, ◌<◌, ◌≤◌, false, ◌&&◌, List, [], ◌∷◌, ◌++◌, length, codes, Option, nat_lt, slice_index_or}
use Rattle.std.specs.Str.{bytes_eq}
use Rattle.ftpl.specs.declared.properties.Binder.{Binder}
use Rattle.ftpl.specs.declared.properties.VariableKind.{VariableKind}
use Rattle.book_text.specs.declared.parts.Part.{Part}
use Rattle.book_text.specs.declared.rules.Rule.{Rule}
use Rattle.book_text.specs.declared.parts.Stop.{Stop}
use Rattle.book_text.specs.declared.parts.Stop.TheVariants.{Wrong, Memory}
use Rattle.book_text.specs.declared.scopes.Scope.{Scope}
use Rattle.book_text.specs.Rules.{Text, Level, loose, tight, single, plain, Reads, form, leaves, scope_of, PropertySays}
use Rattle.book_words.specs.Cuts.{part}
use Rattle.book_text.specs.States.{State, Stuck, name_of_next}
use Rattle.book_text.specs.Words.{kind_text}

-- the sign does not stand at e, or no test may follow the first k
abbrev pub Unjoined : List Text → ℕ → ℕ → Text → Type 0
Unjoined s e k t = (nat_lt k 16 && bytes_eq (slice_index_or s e []) t) ≡ false

-- what was read ends at e, since nothing joins more to it
abbrev pub Shut : Level → List Text → ℕ → ℕ → Type 0
Shut loose s e k = Unjoined s e k (codes "&") × Unjoined s e k (codes "|")
Shut tight s e k = Unjoined s e k (codes "&")
Shut single s e k = Unit {0}
Shut plain s e k = Unit {0}

-- the words from a on are the part x, after k tests and with parentheses at most n deep
pub record Took (l : Level) (sc : Scope) (n k : ℕ) (s : List Text) (a : ℕ) (x : Part) : Type 0 where
  pub ahead : a < x.next
  pub inside : x.next ≤ length s
  pub reads : Reads sc l n (part s a x.next) (form x.tests)
  pub counted : x.count ≡ k + leaves (form x.tests)
  pub more : k < x.count
  pub few : x.count ≤ 16
  pub shut : Shut l s x.next x.count

-- the reader stopped at a word that cannot stand there, or for want of memory
abbrev pub Failed : State → List Text → ℕ → Stop → Type 0
Failed st s a (Wrong e) = Stuck st s a e
Failed st s a Memory = Unit {0}

-- a variable is bound over rows of the kind k by the three words from a on
pub record Bound (o : Option VariableKind) (s : List Text) (a : ℕ) (k : VariableKind) : Type 0 where
  pub inside : a + 3 ≤ length s
  pub words : part s a (a + 3) ≡ name_of_next o ∷ codes ":" ∷ kind_text k ∷ []

-- the words from a on are a colon and the tests of the rule, up to the end of the line
pub record TestsTaken (b : Binder) (c : Option Binder) (s : List Text) (a : ℕ) (x : Rule) : Type 0 where
  pub outer : x.property.outer ≡ b
  pub inner : x.property.inner ≡ c
  pub ahead : a < x.next
  pub inside : x.next ≤ length s
  pub tests : List Text
  pub reads : Reads (scope_of b c) loose 8 tests (form x.property.tests)
  pub few : leaves (form x.property.tests) ≤ 16
  pub words : part s a x.next ≡ codes ":" ∷ (tests ++ (codes "\n" ∷ []))

-- the words from a on are the rule of the property
pub record RuleTaken (s : List Text) (a : ℕ) (x : Rule) : Type 0 where
  pub ahead : a < x.next
  pub inside : x.next ≤ length s
  pub says : PropertySays x.property (part s a x.next)
