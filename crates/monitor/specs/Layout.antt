-- Where the monitor's values stand on a board.
use Rattle.std.specs.Prelude.{ℕ, ◌+◌, ◌/◌, ◌%◌, cond, List, ◌==◌, slice_index_or}
use Rattle.scale.specs.Laws.{Ops}
use Rattle.monitor.specs.Monitor.{Set, Cell, clause, kept, State}
use Rattle.monitor.specs.declared.steps.Held.{Held}
use Rattle.ftpl.specs.declared.formulas.Slot.{Slot}
use Rattle.ftpl.specs.declared.formulas.Slot.TheVariants.{First, Second, Third, Fourth}

abbrev pub weight : Slot → ℕ
weight First = 1
weight Second = 2
weight Third = 4
weight Fourth = 8

-- the number of a set, and the set of a number
abbrev pub mask : Set → ℕ
mask c = cond (c First) 1 0 + cond (c Second) 2 0 + cond (c Third) 4 0 + cond (c Fourth) 8 0

abbrev pub set_of : ℕ → Set
set_of k First = k % 2 == 1
set_of k Second = k / 2 % 2 == 1
set_of k Third = k / 4 % 2 == 1
set_of k Fourth = k / 8 % 2 == 1

module _ {V : Type 0} (s : Ops V) where
  -- the value of each set, in a list of sixteen
  abbrev pub clauses : List V → Set → V
  clauses xs c = slice_index_or xs (mask c) s.top

  -- what a board holds
  abbrev pub cells_of : List V → Cell → V
  cells_of xs (clause c) = slice_index_or xs (mask c) s.top
  cells_of xs kept = slice_index_or xs 16 s.top

  abbrev pub viewed : List V → State V
  viewed xs = record { cells = cells_of xs; fresh = slice_index_or xs 17 s.top; one = slice_index_or xs 18 s.top; two = slice_index_or xs 19 s.top; three = slice_index_or xs 20 s.top }

  -- what the code holds of a formula
  abbrev pub cells_held : Held V → Cell → V
  cells_held h (clause c) = clauses h.clauses.0 c
  cells_held h kept = h.kept

  abbrev pub state_of : Held V → State V
  state_of h = record { cells = cells_held h; fresh = h.fresh; one = h.one; two = h.two; three = h.three }
