-- A table put into a host.
use Rattle.std.specs.Prelude.{◌≡◌, ℕ, ◌≤◌, List, map, length, Ok, Err, Result}
use Rattle.std.specs.List.{range_with_len}
use Rattle.host.specs.Tables.{row_at}
use Rattle.host.specs.declared.rows.Row.{Row}
use Rattle.host.specs.declared.refusals.Refusal.{Refusal}
use Rattle.host.specs.declared.refusals.Refusal.TheVariants.{BeyondCapacity}

-- no filled row of t has a place at or beyond the capacity
abbrev pub Within : List Row → ℕ → Type 0
Within t capacity = (p : ℕ) → capacity ≤ p → (row_at t p).kind ≡ 0

-- the rows of a host, u before and v after table t was put into it
abbrev pub Placed : List Row → List Row → Result Unit Refusal → List Row → Type 0
Placed t u (Ok _) v = Within t (length u) × (v ≡ map (row_at t) (range_with_len 0 (length u)))
Placed t u (Err e) v = (e ≡ BeyondCapacity) × (Within t (length u) → ⊥) × (v ≡ u)
