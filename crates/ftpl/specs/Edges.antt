-- Edges of the definitions that are easily got wrong, each as a fact.
use Rattle.std.specs.Prelude.{◌≡◌, ℕ, true, false, List, [], ◌∷◌, ℤ, pos, negsuc, ◌-ℤ◌, ◌≤ℤ◌, Some, None}
use Rattle.scale.specs.Laws.{Ops}
use Rattle.scale.specs.YesNo.{yes_no}
use Rattle.scale.specs.Distances.{distance}
use Rattle.host.specs.declared.rows.Row.{Row}
use Rattle.host.specs.Tables.{row_at}
use Rattle.ftpl.specs.Properties.{places_of, margin, test_value, property_value}
use Rattle.ftpl.specs.Paths.{Position, holds}
use Rattle.ftpl.specs.Formulas.{formula_value}
use Rattle.ftpl.specs.declared.properties.Quantifier.TheVariants.{ForAll}
use Rattle.ftpl.specs.declared.properties.VariableKind.TheVariants.{Parameter}
use Rattle.ftpl.specs.declared.properties.Variable.TheVariants.{Outer, Inner}
use Rattle.ftpl.specs.declared.properties.Test.TheVariants.{AtMost}
use Rattle.ftpl.specs.declared.properties.Tests.{Tests}
use Rattle.ftpl.specs.declared.properties.Property.{Property}
use Rattle.ftpl.specs.declared.formulas.EventList.{EventList}
use Rattle.ftpl.specs.declared.formulas.Leaf.{Leaf}
use Rattle.ftpl.specs.declared.formulas.PerLeaf.{PerLeaf}
use Rattle.ftpl.specs.declared.formulas.Trace.{Trace}
use Rattle.ftpl.specs.declared.formulas.Core.TheVariants.{Before, Until}

pub record TableEdges : Type 0 where
  -- `all v:par` without parameters has distance 8,000,001, whatever its tests
  pub no_parameters : (t : List Row) (x : Tests) → places_of Parameter t ≡ [] → (property_value distance t (record { outer = record { quantifier = ForAll; kind = Parameter }; inner = None; tests = x })).value ≡ pos 8000001
  -- `atmost` of equal values has distance 1, turned −1
  pub equal : (t : List Row) (v w : ℕ) → (row_at t v).value ≡ (row_at t w).value → (test_value distance t v w (AtMost Outer Inner)).value ≡ pos 1
  pub equal_turned : (t : List Row) (v w : ℕ) → (row_at t v).value ≡ (row_at t w).value → (distance.turn (test_value distance t v w (AtMost Outer Inner))).value ≡ negsuc 0
  -- of numbers within a million nothing is cut from the difference
  pub uncut : (y z : ℤ) → negsuc 999999 ≤ℤ y → y ≤ℤ pos 1000000 → negsuc 999999 ≤ℤ z → z ≤ℤ pos 1000000 → margin y z ≡ z -ℤ y

pub record PathEdges {V : Type 0} (s : Ops V) : Type 0 where
  -- after a start at E, until the same E does not count that start
  pub own_start : (ps : List Property) (p q : Position) (e : EventList) (l : PerLeaf Leaf) (t : Trace) → holds e p.event ≡ false → holds e q.event ≡ true → formula_value s ps (p ∷ q ∷ []) (record { first = Some e; second = None; third = None; core = Until t e; leaves = l }) 0 ≡ s.bottom
  -- before E on position 0 alone is top
  pub alone : (ps : List Property) (p : Position) (e : EventList) (l : PerLeaf Leaf) (t : Trace) → formula_value s ps (p ∷ []) (record { first = None; second = None; third = None; core = Before e t; leaves = l }) 0 ≡ s.top

pub record Edges : Type 0 where
  pub tables : TableEdges
  pub in_yes_no : PathEdges yes_no
  pub in_distance : PathEdges distance
