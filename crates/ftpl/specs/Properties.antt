-- The value of a property on a table, in any scale.
use Rattle.std.specs.Prelude.{◌≡◌, ℕ, ◌<◌, Bool, true, not, cond, List, ◌∷◌, map, find, length, take, ℤ, pos, negsuc, ◌-ℤ◌, Some, None, Option, ◌==◌, nat_eq, slice_index, slice_index_or}
use Rattle.std.specs.Int.{int_min, int_max}
use Rattle.scale.specs.Laws.{Ops}
use Rattle.scale.specs.YesNo.{yes_no}
use Rattle.host.specs.declared.rows.Row.{Row}
use Rattle.host.specs.Tables.{row_at}
use Rattle.host.specs.Names.{same_name}
use Rattle.ftpl.specs.Joins.{numbers, those, all, some}
use Rattle.ftpl.specs.declared.properties.Quantifier.{Quantifier}
use Rattle.ftpl.specs.declared.properties.Quantifier.TheVariants.{ForAll, Exists}
use Rattle.ftpl.specs.declared.properties.VariableKind.{VariableKind}
use Rattle.ftpl.specs.declared.properties.VariableKind.TheVariants.{Component, Provided, Required, Parameter}
use Rattle.ftpl.specs.declared.properties.Variable.{Variable}
use Rattle.ftpl.specs.declared.properties.Variable.TheVariants.{Outer, Inner}
use Rattle.ftpl.specs.declared.properties.Test.{Test}
use Rattle.ftpl.specs.declared.properties.Test.TheVariants.{Named, OwnerNamed, Bound, Child, Same, Up, AtMostNumber, AtMost}
use Rattle.ftpl.specs.declared.properties.Tests.{Tests}
use Rattle.ftpl.specs.declared.properties.Tests.TheVariants.{Single, Not', Both', Either'}
use Rattle.ftpl.specs.declared.properties.Binder.{Binder}
use Rattle.ftpl.specs.declared.properties.Property.{Property}

-- the number by which a row says its kind
abbrev pub kind_number : VariableKind → ℕ
kind_number Component = 1
kind_number Provided = 2
kind_number Required = 3
kind_number Parameter = 4

-- the places of the rows of a kind
abbrev pub places_of : VariableKind → List Row → List ℕ
places_of k t = those (λ p. nat_eq (row_at t p).kind (kind_number k)) (numbers 0 (length t))

-- the place that a variable stands for, where v is at the one and w at the other
abbrev pub place_of : ℕ → ℕ → Variable → ℕ
place_of v w Outer = v
place_of v w Inner = w

-- the right number less the left, brought into −2,000,000 to 2,000,000
abbrev pub margin : ℤ → ℤ → ℤ
margin left right = int_max (negsuc 1999999) (int_min (right -ℤ left) (pos 2000000))

module _ {V : Type 0} (s : Ops V) where
  -- top for yes, bottom for no
  abbrev pub verdict : Bool → V
  verdict b = cond b s.top s.bottom

  -- all is both, some is either
  abbrev pub joined_by : Quantifier → List V → V
  joined_by ForAll xs = all s xs
  joined_by Exists xs = some s xs

  abbrev pub pair_by : Quantifier → V → V → V
  pair_by ForAll x y = s.both x y
  pair_by Exists x y = s.either x y

module _ {V : Type 0} (s : Ops V) (t : List Row) where
  -- a test, where v stands for the place v and w for the place w
  abbrev pub test_value : ℕ → ℕ → Test → V
  test_value v w (Named x name) = verdict s (same_name (row_at t (place_of v w x)).name name)
  test_value v w (OwnerNamed x name) = verdict s (same_name (row_at t (row_at t (place_of v w x)).owner).name name)
  test_value v w (Bound x y) = verdict s ((row_at t (place_of v w x)).link == place_of v w y)
  test_value v w (Child x y) = verdict s ((row_at t (place_of v w x)).owner == place_of v w y)
  test_value v w (Same x y) = verdict s (place_of v w x == place_of v w y)
  test_value v w (Up x) = verdict s ((row_at t (place_of v w x)).up == 1)
  test_value v w (AtMostNumber x number) = s.grade (margin (row_at t (place_of v w x)).value number)
  test_value v w (AtMost x y) = s.grade (margin (row_at t (place_of v w x)).value (row_at t (place_of v w y)).value)

  abbrev pub tests_value : ℕ → ℕ → Tests → V
  tests_value v w (Single x) = test_value v w x
  tests_value v w (Not' p x) = s.turn (tests_value v w x)
  tests_value v w (Both' p x q y) = s.both (tests_value v w x) (tests_value v w y)
  tests_value v w (Either' p x q y) = s.either (tests_value v w x) (tests_value v w y)

  -- the values at the rows of the kind, joined
  abbrev pub quantified : Binder → (ℕ → V) → V
  quantified b f = joined_by s b.quantifier (map f (places_of b.kind t))

  -- with v at its place; without a second quantifier w stands for 255, which is no place
  abbrev pub value_at : Option Binder → Tests → ℕ → V
  value_at None x v = tests_value v 255 x
  value_at (Some b) x v = quantified b (λ w. tests_value v w x)

  abbrev pub property_value : Property → V
  property_value p = quantified p.outer (value_at p.inner p.tests)

  -- the value of the property with this number, counted from 1, of the first 64; bottom where there is none
  abbrev pub numbered_value : List Property → ℕ → V
  numbered_value ps n = slice_index_or (s.bottom ∷ map property_value (take 64 ps)) n s.bottom

-- the first of the numbered properties that is no on the table, read in yes and no
abbrev pub first_broken : List Row → List Property → List ℕ → Option ℕ
first_broken t ps ns = find (λ n. not (numbered_value yes_no t ps n)) ns

-- every one of the numbered properties is yes on the table
abbrev pub Met : List Row → List Property → List ℕ → Type 0
Met t ps ns = (k : ℕ) → k < length ns → numbered_value yes_no t ps (slice_index ns k) ≡ true
