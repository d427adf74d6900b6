-- How much memory takes what is held of a formula.
use Rattle.std.proofs.Common.{ℕ, ◌+◌, ◌-◌, ◌*◌, ◌%◌, ◌<◌, ◌≤◌, max, arith}
use native.Mathlib.Nat.{mod-lt}
use mir.Syntax.{Width, w8, w16, w32, w64, w128, Ty}
use mir.Val.{bytes}
use prog.Memory.{size, align, up}
use prog.Align.{align-bytes, align_w}

bytes_few : (w : Width) → (0 < bytes w) × (bytes w ≤ 16)
bytes_few w8 = (omega arith, omega arith)
bytes_few w16 = (omega arith, omega arith)
bytes_few w32 = (omega arith, omega arith)
bytes_few w64 = (omega arith, omega arith)
bytes_few w128 = (omega arith, omega arith)

up_few : (k e n : ℕ) → 0 < k → k ≤ 16 → e ≤ n → up k e ≤ n + 16
up_few k e n p q h = omega (arith, mod-lt (k - e % k) p)

-- sixteen values and five more, each at its alignment, where forty of them fit
held_small : (a z : ℕ) → 0 < a → a ≤ 16 → 40 * z < 9223372036854775808
    → up (max (max a 1) (max a (max a (max a (max a (max a 1)))))) (up a (up a (up a (up a (up a (up (max a 1) 0 + up (max a 1) (up a 0 + 16 * z)) + z) + z) + z) + z) + z) < 9223372036854775808
held_small a z p q h =
    let b₀ : (0 < max a 1) × (max a 1 ≤ 16) = (omega arith, omega arith) in
    let b₁ : (0 < max (max a 1) (max a (max a (max a (max a (max a 1)))))) × (max (max a 1) (max a (max a (max a (max a (max a 1))))) ≤ 16) = (omega arith, omega arith) in
    let e₀ = up_few a 0 0 p q (omega arith) in
    let e₁ = up_few (max a 1) (up a 0 + 16 * z) (16 * z + 16) b₀.0 b₀.1 (omega arith) in
    let e₂ = up_few (max a 1) 0 0 b₀.0 b₀.1 (omega arith) in
    let e₃ = up_few a (up (max a 1) 0 + up (max a 1) (up a 0 + 16 * z)) (16 * z + 48) p q (omega arith) in
    let e₄ = up_few a (up a (up (max a 1) 0 + up (max a 1) (up a 0 + 16 * z)) + z) (17 * z + 64) p q (omega arith) in
    let e₅ = up_few a (up a (up a (up (max a 1) 0 + up (max a 1) (up a 0 + 16 * z)) + z) + z) (18 * z + 80) p q (omega arith) in
    let e₆ = up_few a (up a (up a (up a (up (max a 1) 0 + up (max a 1) (up a 0 + 16 * z)) + z) + z) + z) (19 * z + 96) p q (omega arith) in
    let e₇ = up_few a (up a (up a (up a (up a (up (max a 1) 0 + up (max a 1) (up a 0 + 16 * z)) + z) + z) + z) + z) (20 * z + 112) p q (omega arith) in
    let e₈ = up_few (max (max a 1) (max a (max a (max a (max a (max a 1)))))) (up a (up a (up a (up a (up a (up (max a 1) 0 + up (max a 1) (up a 0 + 16 * z)) + z) + z) + z) + z) + z) (21 * z + 128) b₁.0 b₁.1 (omega arith) in
    omega arith

module _ (τ : Ty) where
  abbrev pub held_bytes : ℕ
  held_bytes =
      let a = align τ in
      let z = size τ in
      up (max (max a 1) (max a (max a (max a (max a (max a 1)))))) (up a (up a (up a (up a (up a (up (max a 1) 0 + up (max a 1) (up a 0 + 16 * z)) + z) + z) + z) + z) + z)

  pub held_fits : 40 * size τ < 9223372036854775808 → held_bytes < 9223372036854775808
  held_fits h = held_small (align τ) (size τ) (omega (arith, align-bytes τ, bytes_few (align_w τ))) (omega (arith, align-bytes τ, bytes_few (align_w τ))) h
