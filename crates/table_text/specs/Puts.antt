-- What a write into a buffer leaves.
use Rattle.std.specs.Prelude.{◌≡◌, ℕ, ◌+◌, ◌<◌, ◌≤◌, List, ◌++◌, length, take, drop, Ok, Err, Result}
use Rattle.host.specs.declared.refusals.Refusal.{Refusal}
use Rattle.host.specs.declared.refusals.Refusal.TheVariants.{TooSmall}

-- xs stands in the buffer from `at` on and ends at `to`, what stood before is there as it was
pub record Puts (b : List ℕ) (at : ℕ) (xs : List ℕ) (b' : List ℕ) (to : ℕ) : Type 0 where
  pub ends : to ≡ at + length xs
  pub written : take to b' ≡ take at b ++ xs

-- a text written from the start of a buffer b: its length is answered and the bytes behind stay; or refusal 1, and the buffer stays
abbrev pub Writes : List ℕ → List ℕ → Result ℕ Refusal → List ℕ → Type 0
Writes s b (Ok n) b' = (n ≡ length s) × (length s ≤ length b) × (b' ≡ s ++ drop (length s) b)
Writes s b (Err e) b' = (e ≡ TooSmall) × (length b < length s) × (b' ≡ b)
