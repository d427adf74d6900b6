-- Yes and no as a scale: a number is graded yes from 0 on.
use Rattle.std.specs.Prelude.{◌≡◌, Bool, true, false, not, ◌&&◌, ◌||◌, ℤ, pos, negsuc, refl}
use Rattle.scale.specs.Laws.{Ops, Laws}

abbrev pub not_negative : ℤ → Bool
not_negative (pos n) = true
not_negative (negsuc n) = false

abbrev pub yes_no : Ops Bool
yes_no = record { top = true; bottom = false; both = ◌&&◌; either = ◌||◌; turn = not; grade = not_negative }

-- a law of one, two or three values holds where it holds at yes and at no
one : (P : Bool → Type 0) → P true → P false → (x : Bool) → P x
one P p q true = p
one P p q false = q

both_ways : (x y : Bool) → (x && y) ≡ (y && x)
both_ways true true = refl
both_ways true false = refl
both_ways false true = refl
both_ways false false = refl

either_ways : (x y : Bool) → (x || y) ≡ (y || x)
either_ways true true = refl
either_ways true false = refl
either_ways false true = refl
either_ways false false = refl

pub yes_no_laws : Laws yes_no
yes_no_laws = record {
  both_comm = both_ways;
  either_comm = either_ways;
  both_assoc = λ x y z. one (λ v. ((v && y) && z) ≡ (v && (y && z))) refl refl x;
  either_assoc = λ x y z. one (λ v. ((v || y) || z) ≡ (v || (y || z))) refl refl x;
  both_absorb = λ x y. one (λ v. (v && (v || y)) ≡ v) refl refl x;
  either_absorb = λ x y. one (λ v. (v || (v && y)) ≡ v) refl refl x;
  both_dist = λ x y z. one (λ v. (v && (y || z)) ≡ ((v && y) || (v && z))) refl refl x;
  either_dist = λ x y z. one (λ v. (v || (y && z)) ≡ ((v || y) && (v || z))) refl refl x;
  top_both = λ x. refl;
  bottom_either = λ x. refl;
  turn_turn = λ x. one (λ v. not (not v) ≡ v) refl refl x;
  turn_both = λ x y. one (λ v. not (v && y) ≡ (not v || not y)) refl refl x;
  turn_either = λ x y. one (λ v. not (v || y) ≡ (not v && not y)) refl refl x;
  turn_top = refl;
  turn_bottom = refl;
}
