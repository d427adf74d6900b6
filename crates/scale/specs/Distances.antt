-- Distances as a scale.
use Rattle.std.specs.Prelude.{◌≡◌, ◌%◌, Bool, true, false, cond, ◌&&◌, ℤ, pos, negsuc, ◌+ℤ◌, neg_ℤ, ◌==◌, int_le, int_lt, unsigned_abs, refl}
use Rattle.std.proofs.Common.{sym, true≢false, arith, eqb-true}
use mathlib.Core.HLevel.{is_prop→PathP}
use denote.Struct.Props.{props}
use Rattle.std.specs.Int.{int_min, int_max}
use Rattle.std.proofs.lemmas.Int.{clamps, ints}
use Rattle.scale.specs.Laws.{Ops, Laws}
use Rattle.scale.specs.Odd.{Odd}
use Rattle.scale.specs.declared.distances.Distance.{Distance}

odd_prop : (z : ℤ) → IsProp (Odd z)
odd_prop z = hlevel props

-- two distances of one value are equal
pub same : (x y : Distance) → x.value ≡ y.value → x ≡ y
same x y p = λ i. record { value = p i; fits = is_prop→PathP (λ i. Odd (p i)) (λ i. odd_prop (p i)) x.fits y.fits i }

pub pick : (b : Bool) (x y : ℤ) → Odd x → Odd y → Odd (cond b x y)
pick true x y p q = p
pick false x y p q = q

pub turned : (z : ℤ) → Odd z → Odd (neg_ℤ z)
turned z p = (omega (arith, ints), omega (arith, ints), omega (arith, ints))

abbrev pub of : (z : ℤ) → Odd z → Distance
of z p = record { value = z; fits = p }

abbrev pub lowest : Distance
lowest = of (negsuc 8000000) (omega (arith, ints), omega (arith, ints), refl)

abbrev pub highest : Distance
highest = of (pos 8000001) (omega (arith, ints), omega (arith, ints), refl)

abbrev pub is_odd : ℤ → Bool
is_odd z = int_le (negsuc 8000000) z && int_le z (pos 8000001) && unsigned_abs z % 2 == 1

pub odd_from : (z : ℤ) (a b c : Bool) → int_le (negsuc 8000000) z ≡ a → int_le z (pos 8000001) ≡ b → (unsigned_abs z % 2 == 1) ≡ c → (a && b && c) ≡ true → Odd z
odd_from z true true true p q r e = (omega (arith, ints), omega (arith, ints), eqb-true _ 1 r)
odd_from z true true false p q r e = absurd (true≢false (sym e))
odd_from z true false c p q r e = absurd (true≢false (sym e))
odd_from z false b c p q r e = absurd (true≢false (sym e))

pub stays_odd : (z : ℤ) (b : Bool) → is_odd z ≡ b → Odd (cond b z (negsuc 8000000))
stays_odd z true e = odd_from z _ _ _ refl refl refl e
stays_odd z false e = lowest.fits

-- the distance of a number: of any that is not odd or out of range the lowest
abbrev pub distance_of : ℤ → Distance
distance_of z = of (cond (is_odd z) z (negsuc 8000000)) (stays_odd z (is_odd z) refl)

abbrev pub distance : Ops Distance
distance = record {
  top = highest;
  bottom = lowest;
  both = λ x y. of (int_min x.value y.value) (pick (int_lt y.value x.value) y.value x.value y.fits x.fits);
  either = λ x y. of (int_max x.value y.value) (pick (int_lt y.value x.value) x.value y.value x.fits y.fits);
  turn = λ x. of (neg_ℤ x.value) (turned x.value x.fits);
  grade = λ d. distance_of (d +ℤ d +ℤ pos 1);
}

pub distance_laws : Laws distance
distance_laws = record {
  both_comm = λ x y. same _ _ (omega (arith, ints, clamps));
  either_comm = λ x y. same _ _ (omega (arith, ints, clamps));
  both_assoc = λ x y z. same _ _ (omega (arith, ints, clamps));
  either_assoc = λ x y z. same _ _ (omega (arith, ints, clamps));
  both_absorb = λ x y. same _ _ (omega (arith, ints, clamps));
  either_absorb = λ x y. same _ _ (omega (arith, ints, clamps));
  both_dist = λ x y z. same _ _ (omega (arith, ints, clamps));
  either_dist = λ x y z. same _ _ (omega (arith, ints, clamps));
  top_both = λ x. same _ _ (omega (arith, ints, clamps));
  bottom_either = λ x. same _ _ (omega (arith, ints, clamps));
  turn_turn = λ x. same _ _ (omega (arith, ints, clamps));
  turn_both = λ x y. same _ _ (omega (arith, ints, clamps));
  turn_either = λ x y. same _ _ (omega (arith, ints, clamps));
  turn_top = same _ _ refl;
  turn_bottom = same _ _ refl;
}
