-- The value of a formula on a path, in any scale, by the numbers of the positions.
use Rattle.std.specs.Prelude.{ℕ, suc, ◌-◌, Bool, List, ◌∷◌, map, length, Some, None, Option, slice_index_or}
use Rattle.scale.specs.Laws.{Ops}
use Rattle.ftpl.specs.Joins.{from_to, those, all, some}
use Rattle.ftpl.specs.Properties.{numbered_value}
use Rattle.ftpl.specs.Paths.{Position, position_at, holds}
use Rattle.ftpl.specs.declared.properties.Property.{Property}
use Rattle.ftpl.specs.declared.formulas.EventList.{EventList}
use Rattle.ftpl.specs.declared.formulas.Leaf.{Leaf}
use Rattle.ftpl.specs.declared.formulas.Leaf.TheVariants.{Always, Eventually, Never}
use Rattle.ftpl.specs.declared.formulas.Slot.{Slot}
use Rattle.ftpl.specs.declared.formulas.Slot.TheVariants.{First, Second, Third, Fourth}
use Rattle.ftpl.specs.declared.formulas.PerLeaf.{PerLeaf}
use Rattle.ftpl.specs.declared.formulas.Trace.{Trace}
use Rattle.ftpl.specs.declared.formulas.Trace.TheVariants.{At, Both', Either'}
use Rattle.ftpl.specs.declared.formulas.Core.{Core}
use Rattle.ftpl.specs.declared.formulas.Core.TheVariants.{Plain, Before, Until}
use Rattle.ftpl.specs.declared.formulas.Formula.{Formula}

-- what a formula sees of a position: the value of each property there, and which event lists hold there
pub record View (V : Type 0) : Type 0 where
  pub value : ℕ → V
  pub event : EventList → Bool

-- what is given for the leaf in a slot
abbrev pub leaf_at : {T : Type 0} → PerLeaf T → Slot → T
leaf_at l First = l.first
leaf_at l Second = l.second
leaf_at l Third = l.third
leaf_at l Fourth = l.fourth

-- over the positions 0, 1, .. as a formula sees them
module _ {V : Type 0} (s : Ops V) (x : ℕ → View V) where
  -- a leaf over the positions i to j
  abbrev pub leaf_over : Leaf → ℕ → ℕ → V
  leaf_over (Always a) i j = all s (map (λ k. (x k).value a) (from_to i j))
  leaf_over (Eventually a) i j = some s (map (λ k. (x k).value a) (from_to i j))
  leaf_over (Never a) i j = all s (map (λ k. s.turn ((x k).value a)) (from_to i j))

  -- a trace over the positions i to j
  abbrev pub trace_over : PerLeaf Leaf → Trace → ℕ → ℕ → V
  trace_over l (At slot) i j = leaf_over (leaf_at l slot) i j
  trace_over l (Both' p a q b) i j = s.both (trace_over l a i j) (trace_over l b i j)
  trace_over l (Either' p a q b) i j = s.either (trace_over l a i j) (trace_over l b i j)

  -- the numbers from i to n where the event list holds
  abbrev pub where_holds : EventList → ℕ → ℕ → List ℕ
  where_holds e i n = those (λ k. (x k).event e) (from_to i n)

  -- from i to the last position n; `before` and `until` look at each k > i with E, and at the positions i to k − 1
  abbrev pub core_from : PerLeaf Leaf → Core → ℕ → ℕ → V
  core_from l (Plain t) n i = trace_over l t i n
  core_from l (Before e t) n i = all s (map (λ k. trace_over l t i (k - 1)) (where_holds e (suc i) n))
  core_from l (Until t e) n i = some s (map (λ k. trace_over l t i (k - 1)) (where_holds e (suc i) n))

  -- `after E F` from i to n: both over all k from i to n with E, of F from k
  abbrev pub after_from : Option EventList → ℕ → (ℕ → V) → ℕ → V
  after_from None n f i = f i
  after_from (Some e) n f i = all s (map f (where_holds e i n))

  abbrev pub formula_from : Formula → ℕ → ℕ → V
  formula_from f n = after_from f.first n (after_from f.second n (after_from f.third n (core_from f.leaves f.core n)))

module _ {V : Type 0} (s : Ops V) (properties : List Property) where
  -- a position as a formula sees it
  abbrev pub seen : Position → View V
  seen p = record { value = numbered_value s p.rows properties; event = λ e. holds e p.event }

  -- a formula from position i to the last of the path
  abbrev pub formula_value : List Position → Formula → ℕ → V
  formula_value path f i = formula_from s (λ k. seen (position_at path k)) f (length path - 1) i

  -- the value of the formula with this number, counted from 1, over the whole path; bottom where there is none
  abbrev pub shown_value : List Formula → List Position → ℕ → V
  shown_value fs path n = slice_index_or (s.bottom ∷ map (λ f. formula_value path f 0) fs) n s.bottom
