-- Positions of a path, and the events that hold there.
use Rattle.std.specs.Prelude.{ℕ, ◌/◌, ◌%◌, ◌^◌, Bool, false, ◌&&◌, List, [], Some, None, Option, ◌==◌, nat_le, slice_index_or}
use Rattle.host.specs.declared.rows.Row.{Row}
use Rattle.ftpl.specs.declared.formulas.EventKind.{EventKind}
use Rattle.ftpl.specs.declared.formulas.EventKind.TheVariants.{Called, Normal, Exceptional}
use Rattle.ftpl.specs.declared.formulas.Event.{Event}
use Rattle.ftpl.specs.declared.formulas.EventList.{EventList}

-- the rows of the table, and what happened there
pub record Position : Type 0 where
  pub rows : List Row
  pub event : Option Event

-- a path is a list of positions, numbered from 0
abbrev pub position_at : List Position → ℕ → Position
position_at path k = slice_index_or path k (record { rows = []; event = None })

abbrev pub mask_of : EventList → EventKind → ℕ
mask_of e Called = e.called
mask_of e Normal = e.normal
mask_of e Exceptional = e.exceptional

-- whether the mask has the operation, which is 1 to 63
abbrev pub listed : ℕ → ℕ → Bool
listed mask operation = nat_le 1 operation && nat_le operation 63 && mask / 2 ^ operation % 2 == 1

-- whether one of the listed events is what happened
abbrev pub holds : EventList → Option Event → Bool
holds e None = false
holds e (Some x) = listed (mask_of e x.kind) x.operation
