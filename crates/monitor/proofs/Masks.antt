-- Sets of leaves and their numbers, by computed tests.
use Rattle.std.proofs.Common.{◌≡◌, ℕ, zero, suc, ◌-◌, ◌<◌, ◌≤◌, Bool, true, false, cond, ◌&&◌, eqb, List, get_or, bit_and, bit_or, sym, refl, ap, ◌∙◌, inl, inr, arith}
use mathlib.Core.Path.{fun_ext}
use Rattle.std.proofs.lemmas.Bool.{and_parts, eqb-true, cases_lt}
use Rattle.scale.specs.Laws.{Ops}
use Rattle.monitor.specs.Monitor.{Set, with, without}
use Rattle.monitor.specs.Layout.{weight, mask, set_of, clauses}
use Rattle.ftpl.specs.declared.formulas.Slot.{Slot}
use Rattle.ftpl.specs.declared.formulas.Slot.TheVariants.{First, Second, Third, Fourth}

abbrev upto : ℕ → (ℕ → Bool) → Bool
upto zero f = true
upto (suc n) f = f n && upto n f

check : (n : ℕ) (f : ℕ → Bool) → upto n f ≡ true → (k : ℕ) → k < n → f k ≡ true
check zero f t k h = absurd (omega arith)
check (suc n) f t k h =
    let parts = and_parts (f n) (upto n f) t in
    elim (cases_lt k n) [ inl l ↦ check n f parts.1 k l | inr g ↦ (let e : k ≡ n = omega arith in ap f e ∙ parts.0) ]

pub mask_set_of : (k : ℕ) → k < 16 → mask (set_of k) ≡ k
mask_set_of k h = eqb-true (mask (set_of k)) k (check 16 (λ i. eqb (mask (set_of i)) i) refl k h)

with_test : Slot → ℕ → Bool
with_test j k = eqb (mask (with j (set_of k))) (bit_or k (weight j))

with_all : (j : Slot) → upto 16 (with_test j) ≡ true
unfolding with_test
with_all First = refl
with_all Second = refl
with_all Third = refl
with_all Fourth = refl

pub mask_with : (j : Slot) (k : ℕ) → k < 16 → mask (with j (set_of k)) ≡ bit_or k (weight j)
unfolding with_test
mask_with j k h = eqb-true (mask (with j (set_of k))) (bit_or k (weight j)) (check 16 (with_test j) (with_all j) k h)

without_test : Slot → ℕ → Bool
without_test j k = eqb (mask (without j (set_of k))) (bit_and k (18446744073709551615 - weight j))

without_all : (j : Slot) → upto 16 (without_test j) ≡ true
unfolding without_test
without_all First = refl
without_all Second = refl
without_all Third = refl
without_all Fourth = refl

pub mask_without : (j : Slot) (k : ℕ) → k < 16 → mask (without j (set_of k)) ≡ bit_and k (18446744073709551615 - weight j)
unfolding without_test
mask_without j k h = eqb-true (mask (without j (set_of k))) (bit_and k (18446744073709551615 - weight j)) (check 16 (without_test j) (without_all j) k h)

slots : {c d : Set} → c First ≡ d First → c Second ≡ d Second → c Third ≡ d Third → c Fourth ≡ d Fourth → c ≡ d
slots {c} {d} e f g h = fun_ext at
  where
    at : (i : Slot) → c i ≡ d i
    at First = e
    at Second = f
    at Third = g
    at Fourth = h

abbrev quad : Bool → Bool → Bool → Bool → Set
quad a b c d First = a
quad a b c d Second = b
quad a b c d Third = c
quad a b c d Fourth = d

bools : (a b c d : Bool) → set_of (mask (quad a b c d)) ≡ quad a b c d
bools true true true true = slots refl refl refl refl
bools true true true false = slots refl refl refl refl
bools true true false true = slots refl refl refl refl
bools true true false false = slots refl refl refl refl
bools true false true true = slots refl refl refl refl
bools true false true false = slots refl refl refl refl
bools true false false true = slots refl refl refl refl
bools true false false false = slots refl refl refl refl
bools false true true true = slots refl refl refl refl
bools false true true false = slots refl refl refl refl
bools false true false true = slots refl refl refl refl
bools false true false false = slots refl refl refl refl
bools false false true true = slots refl refl refl refl
bools false false true false = slots refl refl refl refl
bools false false false true = slots refl refl refl refl
bools false false false false = slots refl refl refl refl

pub set_of_mask : (c : Set) → set_of (mask c) ≡ c
set_of_mask c = bools (c First) (c Second) (c Third) (c Fourth) ∙ slots refl refl refl refl

cond_le : (b : Bool) (n : ℕ) → cond b n 0 ≤ n
cond_le true n = omega arith
cond_le false n = omega arith

pub mask_small : (c : Set) → mask c < 16
mask_small c = omega (arith, cond_le (c First) 1, cond_le (c Second) 2, cond_le (c Third) 4, cond_le (c Fourth) 8)

pub with_small : (j : Slot) (k : ℕ) → k < 16 → bit_or k (weight j) < 16
with_small j k h = omega (arith, mask_with j k h, mask_small (with j (set_of k)))

pub set_with : (j : Slot) (k : ℕ) → k < 16 → set_of (bit_or k (weight j)) ≡ with j (set_of k)
set_with j k h = ap set_of (sym (mask_with j k h)) ∙ set_of_mask (with j (set_of k))

pub set_without : (j : Slot) (k : ℕ) → k < 16 → set_of (bit_and k (18446744073709551615 - weight j)) ≡ without j (set_of k)
set_without j k h = ap set_of (sym (mask_without j k h)) ∙ set_of_mask (without j (set_of k))

-- sixteen values that are right at each of the sixteen numbers
pub filled : {V : Type 0} (s : Ops V) (r : List V) (f : Set → V) → ((k : ℕ) → k < 16 → get_or r k s.top ≡ f (set_of k)) → clauses s r ≡ f
filled s r f h = fun_ext (λ c. h (mask c) (mask_small c) ∙ ap f (set_of_mask c))

-- and a list read there
pub clauses_at : {V : Type 0} (s : Ops V) (w : List V) (k : ℕ) → k < 16 → clauses s w (set_of k) ≡ get_or w k s.top
clauses_at s w k h = ap (λ i. get_or w i s.top) (mask_set_of k h)
