-- What `distance_of` is of a number that is a distance's, and of one that is not.
use Rattle.std.proofs.Common.{◌≡◌, ◌%◌, Bool, true, false, cond, ◌&&◌, eqb, ℤ, pos, negsuc, nat_abs, refl, arith}
use borrow.Author.Differences.{ints}
use borrow.Author.Tests.{eqb-false}
use lib.Signed.{le_z}
use Rattle.scale.specs.Odd.{Odd}
use Rattle.scale.specs.Distances.{is_odd, odd_from, distance_of}

is_odd_by : (z : ℤ) (a b c : Bool) → le_z (negsuc 8000000) z ≡ a → le_z z (pos 8000001) ≡ b → eqb (nat_abs z % 2) 1 ≡ c → Odd z → (a && b && c) ≡ true
is_odd_by z true true true p q r o = refl
is_odd_by z true true false p q r o = absurd (eqb-false _ 1 r o.2)
is_odd_by z true false c p q r o = absurd (omega (arith, ints))
is_odd_by z false b c p q r o = absurd (omega (arith, ints))

is_odd_lem : (z : ℤ) → Odd z → is_odd z ≡ true
is_odd_lem z o = is_odd_by z _ _ _ refl refl refl o

pub distance_odd : (z : ℤ) → Odd z → z ≡ (distance_of z).value
distance_odd z o = rw (is_odd_lem z o) refl

not_odd : (z : ℤ) (b : Bool) → is_odd z ≡ b → (Odd z → ⊥) → negsuc 8000000 ≡ cond b z (negsuc 8000000)
not_odd z true e n = absurd (n (odd_from z _ _ _ refl refl refl e))
not_odd z false e n = refl

pub distance_else : (z : ℤ) → (Odd z → ⊥) → negsuc 8000000 ≡ (distance_of z).value
distance_else z n = not_odd z _ refl n
