-- Edges of the steps, as facts of every table.
use Rattle.std.specs.Prelude.{◌≡◌, ℕ, ◌<◌, List, length, pos, ◌+ℤ◌, ◌≤ℤ◌, Some, None}
use Rattle.host.specs.declared.rows.Row.{Row}
use Rattle.host.specs.declared.refusals.Refusal.TheVariants.{OutOfRange, OwnerLoop}
use Rattle.host.specs.Tables.{row_at}
use Rattle.table.specs.declared.steps.Step.TheVariants.{Add, Set}
use Rattle.table.specs.Places.{component, parameter, none, kind_at, owner_at, Started, Owns}
use Rattle.table.specs.Refusals.{refusal}

-- a parameter may be set to its greatest value
abbrev pub SetToHi : Type 0
SetToHi = (t : List Row) (a : ℕ) → a < length t → kind_at t a ≡ parameter → (row_at t a).lo ≤ℤ (row_at t a).hi → refusal t (Set a (row_at t a).hi) ≡ None

-- and no higher
abbrev pub SetPastHi : Type 0
SetPastHi = (t : List Row) (a : ℕ) → a < length t → kind_at t a ≡ parameter → refusal t (Set a ((row_at t a).hi +ℤ pos 1)) ≡ Some OutOfRange

-- a stopped component without owner or parameters cannot be added to itself: a component would own itself
abbrev pub AddToItself : Type 0
AddToItself = (t : List Row) (a : ℕ) → a < length t → kind_at t a ≡ component → (Started t a → ⊥) → owner_at t a ≡ none → (Owns t a parameter → ⊥) → refusal t (Add a a) ≡ Some OwnerLoop

pub record Edges : Type 0 where
  pub set_to_hi : SetToHi
  pub set_past_hi : SetPastHi
  pub add_to_itself : AddToItself
