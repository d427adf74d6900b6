-- To write one row of a part.
use Rattle.std.proofs.Common.{◌≡◌, ℕ, ◌+◌, ◌-◌, ◌<◌, min, List, length, take, drop, set, Ok, Err, Result, ap, ◌∙◌, arith, length-drop, length-set, length-take, drop-set-lt}
use lib.Seq.{take-set-lt, take-set-le, drop-set-add}
use Rattle.host.specs.declared.refusals.Refusal.{Refusal}
use Rattle.host.specs.declared.rows.Row.{Row}
use Rattle.host.specs.Tables.{Writes}
use Rattle.host.specs.Bays.{part, Outside}

module _ (t : List Row) (f n : ℕ) where
  pub length_part : length (part t f n) ≡ min n (length t - f)
  length_part = length-take n (drop f t) ∙ ap (min n) (length-drop f t)

  pub inner : (p : ℕ) → p < length (part t f n) → (p < n) × (f + p < length t)
  inner p h = omega (arith, length_part)

  pub part_set : (p : ℕ) (r : Row) → p < n → part (set t (f + p) r) f n ≡ set (part t f n) p r
  part_set p r h = ap (take n) (drop-set-add f t p r) ∙ take-set-lt n (drop f t) p r h

  pub outside : (p : ℕ) (r : Row) → p < n → Outside f n t (set t (f + p) r)
  outside p r h = record { long = length-set t (f + p) r; before = take-set-le f t (f + p) r (omega arith); after = drop-set-lt (f + n) t (f + p) r (omega arith) }

  -- what was answered below, as answered in the part
  module _ (p : ℕ) (h : p < length (part t f n)) where
    pub write_part : (r : Result Unit Refusal) → Writes t (f + p) r → Writes (part t f n) p r
    write_part (Ok x) k = h
    write_part (Err e) k = absurd (omega (arith, inner p h, k.0))
