-- The monitor: what it holds, and how it goes on by a position.
use Rattle.std.specs.Prelude.{ℕ, Bool, true, false, cond, List, [], ◌∷◌, Some, None, Option}
use Rattle.scale.specs.Laws.{Ops}
use Rattle.ftpl.specs.Formulas.{View, leaf_at}
use Rattle.monitor.specs.Segments.{leaf}
use Rattle.ftpl.specs.declared.formulas.EventList.{EventList}
use Rattle.ftpl.specs.declared.formulas.Slot.{Slot}
use Rattle.ftpl.specs.declared.formulas.Slot.TheVariants.{First, Second, Third, Fourth}
use Rattle.ftpl.specs.declared.formulas.Leaf.{Leaf}
use Rattle.ftpl.specs.declared.formulas.Leaf.TheVariants.{Always, Eventually, Never}
use Rattle.ftpl.specs.declared.formulas.PerLeaf.{PerLeaf}
use Rattle.ftpl.specs.declared.formulas.Trace.{Trace}
use Rattle.ftpl.specs.declared.formulas.Trace.TheVariants.{At, Both', Either'}
use Rattle.ftpl.specs.declared.formulas.Core.{Core}
use Rattle.ftpl.specs.declared.formulas.Core.TheVariants.{Plain, Before, Until}
use Rattle.ftpl.specs.declared.formulas.Formula.{Formula}

-- a set of leaves
abbrev pub Set : Type 0
Set = Slot → Bool

abbrev pub same : Slot → Slot → Bool
same First First = true
same First Second = false
same First Third = false
same First Fourth = false
same Second First = false
same Second Second = true
same Second Third = false
same Second Fourth = false
same Third First = false
same Third Second = false
same Third Third = true
same Third Fourth = false
same Fourth First = false
same Fourth Second = false
same Fourth Third = false
same Fourth Fourth = true

abbrev pub none : Set
none j = false

abbrev pub with : Slot → Set → Set
with j c i = cond (same j i) true (c i)

abbrev pub without : Slot → Set → Set
without j c i = cond (same j i) false (c i)

-- the number of the property that a leaf names
abbrev pub number_of : Leaf → ℕ
number_of (Always a) = a
number_of (Eventually a) = a
number_of (Never a) = a

-- what the four leaves' properties are worth at a position
abbrev pub told_by : {V : Type 0} → View V → PerLeaf Leaf → PerLeaf V
told_by x l = record { first = x.value (number_of l.first); second = x.value (number_of l.second); third = x.value (number_of l.third); fourth = x.value (number_of l.fourth) }

-- what is held: for each set of leaves a value, and one more
pub data Cell : Type 0 where
  clause : Set → Cell
  kept : Cell

-- the locks: bottom lets a start through, top does not
pub record State (V : Type 0) : Type 0 where
  pub cells : Cell → V
  pub fresh : V
  pub one : V
  pub two : V
  pub three : V

module _ {V : Type 0} (s : Ops V) where
  -- the leaves of a set, joined
  abbrev pub joined : Set → (Slot → V) → V
  joined c v = s.either (s.either (cond (c First) (v First) s.bottom) (cond (c Second) (v Second) s.bottom))
      (s.either (cond (c Third) (v Third) s.bottom) (cond (c Fourth) (v Fourth) s.bottom))

  -- joins the trace to each value held
  abbrev pub absorb : Trace → (Set → V) → Set → V
  absorb (At j) w c = w (with j c)
  absorb (Both' p a q b) w c = s.both (absorb a w c) (absorb b w c)
  absorb (Either' p a q b) w c = absorb a (absorb b w) c

  -- the value with the leaf, then that without it, and a property's value at one more position
  abbrev pub grown : Leaf → V → V → V → V
  grown (Always a) v u w = s.both u (s.either w v)
  grown (Eventually a) v u w = s.either u v
  grown (Never a) v u w = s.both u (s.either w (s.turn v))

  abbrev pub lengthen : Slot → Leaf → V → (Set → V) → Set → V
  lengthen j l v w c = cond (c j) (grown l v (w c) (w (without j c))) (w c)

  abbrev pub extend : Slot → Leaf → V → (Cell → V) → Cell → V
  extend j l v b (clause c) = lengthen j l v (λ d. b (clause d)) c
  extend j l v b kept = b kept

  abbrev pub extend_all : PerLeaf Leaf → PerLeaf V → (Cell → V) → Cell → V
  extend_all l y b = extend Fourth l.fourth y.fourth (extend Third l.third y.third (extend Second l.second y.second (extend First l.first y.first b)))

  -- what the core's event does to the starts so far
  abbrev pub happen_row : Core → (EventList → Bool) → (Set → V) → Set → V
  happen_row (Plain t) event w c = w c
  happen_row (Before e t) event w c = w c
  happen_row (Until t e) event w c = cond (event e) (absorb t w c) (w c)

  abbrev pub happen_kept : Core → (EventList → Bool) → (Set → V) → V → V
  happen_kept (Plain t) event w q = q
  happen_kept (Before e t) event w q = cond (event e) (s.both q (absorb t w none)) q
  happen_kept (Until t e) event w q = q

  abbrev pub happen : Core → (EventList → Bool) → (Cell → V) → Cell → V
  happen k event b (clause c) = happen_row k event (λ d. b (clause d)) c
  happen k event b kept = happen_kept k event (λ d. b (clause d)) (b kept)

  -- a start that has seen nothing
  abbrev pub unseen : PerLeaf Leaf → Set → V
  unseen l c = joined c (λ j. leaf s (leaf_at l j) [])

  abbrev pub blank : PerLeaf Leaf → Cell → V
  blank l (clause c) = unseen l c
  blank l kept = s.top

  -- a new start behind a lock
  abbrev pub launch_row : PerLeaf Leaf → V → (Set → V) → Set → V
  launch_row l h w c = s.both (w c) (s.either h (unseen l c))

  abbrev pub launch : PerLeaf Leaf → V → (Cell → V) → Cell → V
  launch l h b (clause c) = launch_row l h (λ d. b (clause d)) c
  launch l h b kept = b kept

  abbrev pub go_row : PerLeaf Leaf → Core → V → PerLeaf V → (EventList → Bool) → (Set → V) → Set → V
  go_row l k h y event w = lengthen Fourth l.fourth y.fourth (lengthen Third l.third y.third (lengthen Second l.second y.second (lengthen First l.first y.first (launch_row l h (happen_row k event w)))))

  abbrev pub go_with : PerLeaf Leaf → Core → V → PerLeaf V → (EventList → Bool) → (Cell → V) → Cell → V
  go_with l c h y event b = extend_all l y (launch l h (happen c event b))

  abbrev pub go : PerLeaf Leaf → Core → V → View V → (Cell → V) → Cell → V
  go l c h x b = go_with l c h (told_by x l) x.event b

  abbrev pub held : Option EventList → V → V → V
  held None a h = a
  held (Some e) a h = s.both a h

  abbrev pub passed : Option EventList → (EventList → Bool) → V → V → V
  passed None event a h = h
  passed (Some e) event a h = cond (event e) (s.both a h) s.top

  abbrev pub begin : State V
  begin = record { cells = λ k. s.top; fresh = s.bottom; one = s.top; two = s.top; three = s.top }

  abbrev pub step_with : Formula → PerLeaf V → (EventList → Bool) → State V → State V
  step_with f y event b =
      let h₁ = passed f.first event b.one b.fresh in
      let h₂ = passed f.second event b.two h₁ in
      let h₃ = passed f.third event b.three h₂ in
      record {
        cells = go_with f.leaves f.core h₃ y event b.cells;
        fresh = s.top;
        one = held f.first b.one b.fresh;
        two = held f.second b.two h₁;
        three = held f.third b.three h₂;
      }

  abbrev pub step : Formula → View V → State V → State V
  step f x b = step_with f (told_by x f.leaves) x.event b

  abbrev pub run : Formula → State V → List (View V) → State V
  run f b [] = b
  run f b (x ∷ xs) = run f (step f x b) xs

  abbrev pub read_row : Core → (Set → V) → V → V
  read_row (Plain t) w q = absorb t w none
  read_row (Before e t) w q = q
  read_row (Until t e) w q = w none

  abbrev pub readout : Core → (Cell → V) → V
  readout k b = read_row k (λ c. b (clause c)) (b kept)

  abbrev pub shown : Formula → State V → V
  shown f b = readout f.core b.cells
