-- The rule of a property: which words say which property.
use Rattle.std.specs.Prelude.{◌≡◌, ℕ, ◌+◌, ◌≤◌, List, [], ◌∷◌, ◌++◌, ℤ, pos, negsuc, ◌≤ℤ◌, Some, None, codes, Option}
use Rattle.std.specs.Fmt.{signed_decimal}
use Rattle.host.specs.Names.{NameForm, packed}
use Rattle.ftpl.specs.declared.properties.VariableKind.{VariableKind}
use Rattle.ftpl.specs.declared.properties.VariableKind.TheVariants.{Component, Provided, Required, Parameter}
use Rattle.ftpl.specs.declared.properties.Variable.{Variable}
use Rattle.ftpl.specs.declared.properties.Variable.TheVariants.{Outer, Inner}
use Rattle.ftpl.specs.declared.properties.Test.{Test}
use Rattle.ftpl.specs.declared.properties.Test.TheVariants.{Named, OwnerNamed, Bound, Child, Same, Up, AtMostNumber, AtMost}
use Rattle.ftpl.specs.declared.properties.Tests.{Tests}
use Rattle.ftpl.specs.declared.properties.Tests.TheVariants.{Single, Not', Both', Either'}
use Rattle.ftpl.specs.declared.properties.Binder.{Binder}
use Rattle.ftpl.specs.declared.properties.Property.{Property}
use Rattle.book_text.specs.declared.scopes.Scope.{Scope}
use Rattle.book_text.specs.Words.{quantifier_text, opening_text, kind_text, variable_text}

-- a word, or a sign by itself
abbrev pub Text : Type 0
Text = List ℕ

-- the variable is bound, over rows of this kind
abbrev pub Over : Scope → Variable → VariableKind → Type 0
Over sc Outer k = sc.outer ≡ k
Over sc Inner k = sc.inner ≡ Some k

abbrev pub IsBound : Scope → Variable → Type 0
IsBound sc x = (k : VariableKind) × Over sc x k

-- a number that may stand behind `atmost`
abbrev pub Within : ℤ → Type 0
Within z = (negsuc 999999 ≤ℤ z) × (z ≤ℤ pos 1000000)

-- the words of a test
abbrev pub TestSays : Scope → Test → List Text → Type 0
TestSays sc (Named x n) p = (t : Text) × NameForm t × (n ≡ packed t) × IsBound sc x × (p ≡ codes "name" ∷ variable_text x ∷ t ∷ [])
TestSays sc (OwnerNamed x n) p = (t : Text) × NameForm t × (n ≡ packed t) × IsBound sc x × (p ≡ codes "in" ∷ variable_text x ∷ t ∷ [])
TestSays sc (Bound x y) p = Over sc x Provided × Over sc y Required × (p ≡ codes "bound" ∷ variable_text x ∷ variable_text y ∷ [])
TestSays sc (Child x y) p = IsBound sc x × IsBound sc y × (p ≡ codes "child" ∷ variable_text x ∷ variable_text y ∷ [])
TestSays sc (Same x y) p = IsBound sc x × IsBound sc y × (p ≡ codes "same" ∷ variable_text x ∷ variable_text y ∷ [])
TestSays sc (Up x) p = Over sc x Component × (p ≡ codes "up" ∷ variable_text x ∷ [])
TestSays sc (AtMostNumber x z) p = Over sc x Parameter × Within z × (p ≡ codes "atmost" ∷ variable_text x ∷ signed_decimal z ∷ [])
TestSays sc (AtMost x y) p = Over sc x Parameter × Over sc y Parameter × (p ≡ codes "atmost" ∷ variable_text x ∷ variable_text y ∷ [])

-- tests as a tree without its boxes
pub data Form : Type 0 where
  leaf : Test → Form
  turned : Form → Form
  joined : Form → Form → Form
  either : Form → Form → Form

abbrev pub form : Tests → Form
form (Single t) = leaf t
form (Not' p t) = turned (form t)
form (Both' p t q u) = joined (form t) (form u)
form (Either' p t q u) = either (form t) (form u)

-- how many tests there are
abbrev pub leaves : Form → ℕ
leaves (leaf n) = 1
leaves (turned f) = leaves f
leaves (joined f g) = leaves f + leaves g
leaves (either f g) = leaves f + leaves g

-- how tightly a part of the tests holds together: joined by `|`, by `&`, turned by `!`, or by itself
pub data Level : Type 0 where
  loose : Level
  tight : Level
  single : Level
  plain : Level

-- `Reads sc l n p f`: the words p, with parentheses at most n deep, are the tests f
pub data Reads (sc : Scope) : Level → ℕ → List Text → Form → Type 0 where
  a_test : {n : ℕ} {p : List Text} {t : Test} → TestSays sc t p → Reads sc plain n p (leaf t)
  a_group : {n : ℕ} {p : List Text} {f : Form} → Reads sc loose n p f → Reads sc plain (n + 1) (codes "(" ∷ (p ++ (codes ")" ∷ []))) f
  a_plain : {n : ℕ} {p : List Text} {f : Form} → Reads sc plain n p f → Reads sc single n p f
  a_not : {n : ℕ} {p : List Text} {f : Form} → Reads sc plain n p f → Reads sc single n (codes "!" ∷ p) (turned f)
  one_tight : {n : ℕ} {p : List Text} {f : Form} → Reads sc single n p f → Reads sc tight n p f
  and_tight : {n : ℕ} {p q : List Text} {f g : Form} → Reads sc single n p f → Reads sc tight n q g → Reads sc tight n (p ++ (codes "&" ∷ q)) (joined f g)
  one_loose : {n : ℕ} {p : List Text} {f : Form} → Reads sc tight n p f → Reads sc loose n p f
  or_loose : {n : ℕ} {p q : List Text} {f g : Form} → Reads sc tight n p f → Reads sc loose n q g → Reads sc loose n (p ++ (codes "|" ∷ q)) (either f g)

abbrev pub inner_kind : Option Binder → Option VariableKind
inner_kind None = None
inner_kind (Some c) = Some c.kind

abbrev pub scope_of : Binder → Option Binder → Scope
scope_of b c = record { outer = b.kind; inner = inner_kind c }

-- the words of the second quantifier
abbrev pub inner_text : Option Binder → List Text
inner_text None = []
inner_text (Some c) = quantifier_text c.quantifier ∷ codes "w" ∷ codes ":" ∷ kind_text c.kind ∷ []

-- the words of the quantifiers
abbrev pub binder_text : Binder → Option Binder → List Text
binder_text b c = opening_text b.quantifier ∷ codes "v" ∷ codes ":" ∷ kind_text b.kind ∷ inner_text c

-- The words p, up to the end of the line, are a property's rule: one or two quantifiers, then tests,
-- at most 16, in parentheses at most 8 deep.
pub record RuleSays (b : Binder) (c : Option Binder) (f : Form) (p : List Text) : Type 0 where
  pub tests : List Text
  pub reads : Reads (scope_of b c) loose 8 tests f
  pub few : leaves f ≤ 16
  pub words : p ≡ binder_text b c ++ (codes ":" ∷ (tests ++ (codes "\n" ∷ [])))

abbrev pub PropertySays : Property → List Text → Type 0
PropertySays x p = RuleSays x.outer x.inner (form x.tests) p
