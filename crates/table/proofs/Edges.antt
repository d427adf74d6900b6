-- The edges of the steps.
use Rattle.std.proofs.Common.{ℤ, pos, ◌+ℤ◌, ◌≤ℤ◌, sym, refl, ◌∙◌, inl, inr, arith}
use lib.Signed.{≤ℤ_refl}
use Rattle.std.proofs.lemmas.Int.{ints}
use Rattle.table.specs.Edges.{SetToHi, SetPastHi, AddToItself}
use Rattle.table.specs.Refusals.{refusal}
use Rattle.table.proofs.Telling.{refuses, passes, no_more}

beyond_last : (z : ℤ) → (z +ℤ pos 1) ≤ℤ z → ⊥
beyond_last z h = omega (arith, ints)

pub set_to_hi : SetToHi
unfolding refusal
set_to_hi t a w k h =
    passes _ _ _ (λ b. omega (arith, b, w)) ∙ passes _ _ _ (λ n. n k) ∙ passes _ _ _ (λ n. n (h, ≤ℤ_refl _)) ∙ passes _ _ _ (λ b. b) ∙ passes _ _ _ (λ b. b) ∙ passes _ _ _ (λ b. b) ∙ passes _ _ _ (λ b. b) ∙ passes _ _ _ (λ b. b) ∙ sym no_more

pub set_past_hi : SetPastHi
unfolding refusal
set_past_hi t a w k = passes _ _ _ (λ b. omega (arith, b, w)) ∙ passes _ _ _ (λ n. n k) ∙ refuses _ _ _ (λ h. beyond_last _ h.1)

pub add_to_itself : AddToItself
unfolding refusal
add_to_itself t a w k s o p =
    passes _ _ _ (λ b. elim b [ inl x ↦ omega (arith, x, w) | inr x ↦ omega (arith, x, w) ]) ∙ passes _ _ _ (λ n. n (k, k)) ∙ passes _ _ _ (λ n. n tt) ∙ passes _ _ _ (λ b. elim b [ inl n ↦ n o | inr x ↦ p x ]) ∙ passes _ _ _ s ∙ passes _ _ _ (λ b. b) ∙ refuses _ _ _ (0, refl)
