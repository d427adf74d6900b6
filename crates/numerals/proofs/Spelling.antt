-- A text writes one number at most.
use Rattle.std.proofs.Common.{Bool, true, false, Some, None, Option, Ok, Err, Result, MatchOption, MatchResult, refl, ap, subst, ◌≡◌, ℕ, ◌^◌, ◌<◌, List, ℤ, pos, negsuc, nat_abs, decimal, ◌≤ℤ◌, sym, ◌∙◌, arith, w32, SFits}
use borrow.Author.Differences.{ints}
use Rattle.std.specs.Bool.{then_some}
use Rattle.std.specs.Int.{FitsUnsignedBits}
use Rattle.std.specs.Result.{result_ok}
use Rattle.std.specs.Fmt.{signed_decimal}
use Rattle.std.proofs.lemmas.Fmt.{signed_decimal_injective}

pub one_number : (s : List ℕ) (y z : ℤ) → SFits w32 y → SFits w32 z → s ≡ signed_decimal y → s ≡ signed_decimal z → y ≡ z
one_number s y z f g d e = signed_decimal_injective y z (omega (arith, f.sfits)) (omega (arith, g.sfits)) (sym d ∙ e)

pub small_fits : (n : ℕ) → n < 2 ^ 31 → SFits w32 (pos n)
small_fits n h = record { sfits = h }

pub million_fits : (z : ℤ) → negsuc 999999 ≤ℤ z → z ≤ℤ pos 1000000 → SFits w32 z
million_fits (pos n) p q = record { sfits = omega (arith, ints) }
million_fits (negsuc n) p q = record { sfits = omega (arith, ints) }

pub byte_text : (z : ℤ) (n : ℕ) → FitsUnsignedBits 8 z → n ≡ nat_abs z → signed_decimal z ≡ decimal n
byte_text (pos m) n f e = ap decimal (sym e)
byte_text (negsuc m) n f e = absurd f

pub byte_fits : (z : ℤ) (n : ℕ) → z ≡ pos n → n < 256 → FitsUnsignedBits 8 z × (n ≡ nat_abs z)
byte_fits z n e h = subst (λ y. FitsUnsignedBits 8 y × (n ≡ nat_abs y)) (sym e) (h, refl)

-- what is known of a result from its half that is there
module _ {A E : Type 0} where
  pub ok_is : (r : Result A E) (x : A) → Some x ≡ result_ok r → r ≡ Ok x
  ok_is (Ok y) x e = (let q : y ≡ x = cc in ap Ok q)
  ok_is (Err y) x e = cc

  module _ (P : A → Type 0) (Q : E → Type 0) where
    pub err_says : (r : Result A E) → None ≡ result_ok r → MatchResult r P Q → (e : E) × Q e
    err_says (Ok x) e m = cc
    err_says (Err x) e m = (x, m)

    pub ok_says : (r : Result A E) (x : A) → Some x ≡ result_ok r → MatchResult r P Q → P x
    ok_says r x e m = subst (λ r. MatchResult r P Q) (ok_is r x e) m

pub none_says : {A : Type 0} (o : Option A) (P : Type 0) (Q : A → Type 0) → o ≡ None → P → MatchOption o P Q
none_says o P Q e p = subst (λ o. MatchOption o P Q) (sym e) p

pub then_says : {A : Type 0} (b : Bool) (x : A) (o : Option A) (P : Type 0) (Q : A → Type 0) → o ≡ then_some b x → (b ≡ true → Q x) → (b ≡ false → P) → MatchOption o P Q
then_says true x o P Q e p q = subst (λ o. MatchOption o P Q) (sym e) (p refl)
then_says false x o P Q e p q = subst (λ o. MatchOption o P Q) (sym e) (q refl)
