-- A table is a list of rows; a host stands for one.
use Rattle.std.specs.Prelude.{◌≡◌, ℕ, ◌<◌, ◌≤◌, List, length, pos, Ok, Err, Result, slice_index_or}
use Rattle.std.proofs.Common.{arith}
use Rattle.host.specs.declared.rows.Row.{Row}
use Rattle.host.specs.declared.refusals.Refusal.{Refusal}
use Rattle.host.specs.declared.refusals.Refusal.TheVariants.{BeyondCapacity}

abbrev pub empty_row : Row
empty_row = record { kind = 0; name = 0; owner = 255; link = 255; up = 0; lo = pos 0; hi = pos 0; value = pos 0 }

-- the row at a place, and the empty row beyond the capacity
abbrev pub row_at : List Row → ℕ → Row
row_at t p = slice_index_or t p empty_row

-- what reading a place answers: its row, or refusal 2 beyond the capacity
abbrev pub Reads : List Row → ℕ → Result Row Refusal → Type 0
Reads t p (Ok r) = (p < length t) × (r ≡ row_at t p)
Reads t p (Err e) = (length t ≤ p) × (e ≡ BeyondCapacity)

-- what writing a place answers: done, or refusal 2 beyond the capacity
abbrev pub Writes : List Row → ℕ → Result Unit Refusal → Type 0
Writes t p (Ok u) = p < length t
Writes t p (Err e) = (length t ≤ p) × (e ≡ BeyondCapacity)

pub long_small : (t : List Row) → length t ≡ 255 → length t ≤ 255
long_small t e = omega arith
