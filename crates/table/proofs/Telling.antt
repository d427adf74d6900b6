-- Tests joined in the order in which the code makes them.
use Rattle.std.proofs.Common.{◌≡◌, Bool, true, false, List, [], ◌∷◌, Some, None, Err, Decides, Option, Result, sym, ap, refl, ◌∙◌}
use Rattle.std.proofs.lemmas.Bool.{false≢true}
use Rattle.std.proofs.lemmas.Bool.Decides.{not_from_Decides}
use Rattle.host.specs.declared.refusals.Refusal.{Refusal}
use Rattle.table.specs.Conditions.{Condition}
use Rattle.table.specs.Refusals.{refuse_if, first}
use Rattle.table.specs.Steps.{as_answer}

-- the first of two holds, so the second tells
pub both_by_second : {P Q : Type 0} (r : Bool) → P → Decides r Q → Decides r (P × Q)
both_by_second r p d = (λ e. (p, d.0 e), λ h. d.1 h.1)

-- what does not hold is told by false
pub told_false : (P : Type 0) → (P → ⊥) → Decides false P
told_false P n = (λ e. absurd (false≢true e), λ p. absurd (n p))

told_yes : {P : Type 0} (d : Dec P) (e : Refusal) (later : Option Refusal) → P → refuse_if d e later ≡ Some e
told_yes d e later p = elim d as (λ x. refuse_if x e later ≡ Some e) [ yes q ↦ refl | no n ↦ absurd (n p) ]

told_no : {P : Type 0} (d : Dec P) (e : Refusal) (later : Option Refusal) → (P → ⊥) → refuse_if d e later ≡ later
told_no d e later n = elim d as (λ x. refuse_if x e later ≡ later) [ yes q ↦ absurd (n q) | no _ ↦ refl ]

module _ (c : Condition) (e : Refusal) (rest : List (Condition × Refusal)) where
  -- the first condition holds
  pub refuses : c.holds → first ((c, e) ∷ rest) ≡ Some e
  unfolding first
  refuses h = told_yes c.told e (first rest) h

  -- it does not
  pub passes : (c.holds → ⊥) → first ((c, e) ∷ rest) ≡ first rest
  unfolding first
  passes n = told_no c.told e (first rest) n

-- the same of an answer, as a test told
module _ (c : Condition) (e : Refusal) (rest : List (Condition × Refusal)) {b : Bool} (tells : Decides b c.holds) where
  pub here : b ≡ true → Err e ≡ as_answer (first ((c, e) ∷ rest))
  here h = sym (ap as_answer (refuses c e rest (tells.0 h)))

  pub past : b ≡ false → {r : Result Unit Refusal} → r ≡ as_answer (first rest) → r ≡ as_answer (first ((c, e) ∷ rest))
  past h k = k ∙ sym (ap as_answer (passes c e rest (not_from_Decides b tells h)))

pub no_more : None ≡ first []
unfolding first
no_more = refl
