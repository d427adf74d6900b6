-- An array that is made from a function of the index.
use Rattle.std.proofs.Common.{◌≡◌, ℕ, zero, suc, ◌+◌, ◌<◌, ◌≤◌, List, get_or, refl, sym, subst, inl, inr, arith}
use Rattle.std.proofs.lemmas.Bool.{cases_lt}
use denote.Param.Members.{Mut, Called}
use Rattle.std.specs.Array.{IsFromFnResult, IsFromFnResultFrom}

module _ {F B : Type 0} (g : Mut F (ℕ × Unit {0}) B) (P : ℕ → B → Type 0) (n : ℕ) (f : F) (step : (i : ℕ) (y : B) (q : F) → i < n → Called g f (i, tt) y q → (q ≡ f) × P i y) where
  from : (i m : ℕ) (p : F) (ys : List B) → i + m ≡ n → p ≡ f → IsFromFnResultFrom g p ys i m → (k : ℕ) (d : B) → i ≤ k → k < n → P k (get_or ys k d)
  from i zero p ys e s h k d a b = absurd (omega arith)
  from i (suc m) p ys e s h k d a b =
      let here = step i h.1 h.0 (omega arith) (subst (λ (u : F). Called g u (i, tt) h.1 h.0) s h.3) in
      elim (cases_lt i k) [
        | inl l ↦ from (i + 1) m h.0 ys (omega arith) here.0 h.4 k d (omega arith) b
        | inr l ↦ (let same : i ≡ k = omega arith in subst (λ (j : ℕ). P j (get_or ys j d)) same (subst (P i) (sym (h.2.1 d)) here.1))
      ]

-- what holds of each call's result holds of the element there
pub from_fn_each : {F B : Type 0} {g : Mut F (ℕ × Unit {0}) B} {f : F} {ys : List B} {n : ℕ} (P : ℕ → B → Type 0) → IsFromFnResult g f ys n → ((i : ℕ) (y : B) (q : F) → i < n → Called g f (i, tt) y q → (q ≡ f) × P i y) → (k : ℕ) (d : B) → k < n → P k (get_or ys k d)
from_fn_each {g = g} {f = f} {ys = ys} {n = n} P r step k d h = from g P n f step 0 n f ys (omega arith) refl r.each k d (omega arith) h
