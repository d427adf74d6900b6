-- How a stop in a part is a stop in the whole, and what a number or a first word is.
use Rattle.std.proofs.Common.{◌≡◌, ℕ, ◌+◌, ◌-◌, ◌<◌, ◌≤◌, Bool, true, false, List, [], ◌∷◌, ◌++◌, length, get_or, drop, decimal, sym, refl, ap, ◌∙◌, subst, append_assoc, arith}
use Rattle.std.specs.Str.{bytes_eq}
use Rattle.std.proofs.lemmas.Fmt.{decimal_nonempty}
use Rattle.book_text.specs.Rules.{Text}
use Rattle.book_words.specs.Cuts.{part as mid}
use Rattle.book_words.specs.declared.tokens.Token.{Token}
use Rattle.book_text.proofs.Lexical.{same_true, same_refl, any_from, any_to}
use Rattle.book_text.proofs.Steps.{mid_one, as_long}
use Rattle.book_words.proofs.Parting.{part_join as mid_join, part_none as Mid-None}
use Rattle.formula_text.specs.Words.{unfronted, rule_words}
use Rattle.formula_text.specs.States.{is_up_to, State, dead, step, run, Running, Stuck}

pub first_word : (s : List Text) → drop 5 (get_or s 0 []) ≡ get_or (unfronted s) 0 []
first_word [] = refl
first_word (t ∷ p) = refl

pub as_many : (s : List Text) → length (unfronted s) ≡ length s
as_many [] = refl
as_many (t ∷ p) = refl

pub rule_long : (ts : List Token) → length (rule_words ts) ≡ length ts
rule_long ts = as_many _ ∙ as_long ts

refuted : (b : Bool) → (b ≡ true → ⊥) → b ≡ false
refuted true h = absurd (h refl)
refuted false h = refl

-- a word that is not empty, and one that is no sign of one byte
pub not_empty : (t : Text) → 1 ≤ length t → bytes_eq t [] ≡ false
not_empty t h = refuted (bytes_eq t []) (λ e. omega (arith, ap length (same_true t [] e)))

pub not_sign : (t : Text) (b : ℕ) → (length t ≡ 1 → get_or t 0 0 ≡ b → ⊥) → bytes_eq t (b ∷ []) ≡ false
not_sign t b h = refuted (bytes_eq t (b ∷ [])) (λ e. let q = same_true t (b ∷ []) e in h (ap length q) (ap (λ z. get_or z 0 0) q))

pub not_up_to : (n : ℕ) (t : Text) → ((k : ℕ) → 1 ≤ k → k ≤ n → t ≡ decimal k → ⊥) → is_up_to n t ≡ false
unfolding is_up_to
not_up_to n t h = refuted (is_up_to n t) (λ e. let r = any_to (λ i. bytes_eq t (decimal (i + 1))) n e in h (r.0 + 1) (omega arith) (omega (arith, r.1)) (same_true t (decimal (r.0 + 1)) r.2))

pub up_to : (n k : ℕ) → 1 ≤ k → k ≤ n → is_up_to n (decimal k) ≡ true
unfolding is_up_to
up_to n k h l =
    let m : k - 1 + 1 ≡ k = omega arith in
    any_from (λ i. bytes_eq (decimal k) (decimal (i + 1))) n (k - 1) (omega arith) (subst (λ z. bytes_eq (decimal k) (decimal z) ≡ true) (sym m) (same_refl (decimal k)))

pub number_some : (k : ℕ) → k < 256 → decimal k ≡ [] → ⊥
number_some k h e = omega (arith, ap length e, decimal_nonempty k (omega arith))

pub run_append : (n : ℕ) (st : State) (p q : List Text) → run n st (p ++ q) ≡ run n (run n st p) q
run_append n st [] q = refl
run_append n st (t ∷ p) q = run_append n (step n st t) p q

module _ {n : ℕ} {Q : List Text → Type 0} {st : State} (s : List Text) (a : ℕ) where
  pub stuck_here : Running st → a ≤ length s → (u : List Text) × Q u → step n st (get_or s a []) ≡ dead → Stuck n Q st s a a
  stuck_here r h o e =
      record {
        ahead = omega arith;
        inside = h;
        onward = (o.0, subst (λ z. Q (z ++ o.0)) (sym (Mid-None s a)) o.1);
        alive = subst Running (sym (ap (run n st) (Mid-None s a))) r;
        wrong = ap (λ z. step n (run n st z) (get_or s a [])) (Mid-None s a) ∙ e;
      }

  pub stuck_after : {Q₁ : List Text → Type 0} {st₁ : State} (b e : ℕ) → a ≤ b → run n st (mid s a b) ≡ st₁ → ((p : List Text) → Q₁ p → (u : List Text) × Q (mid s a b ++ (p ++ u))) → Stuck n Q₁ st₁ s b e → Stuck n Q st s a e
  stuck_after b e h q f x =
      let j = ap (run n st) (mid_join s a b e h x.ahead) ∙ run_append n st (mid s a b) (mid s b e) ∙ ap (λ z. run n z (mid s b e)) q in
      let u = x.onward.0 in
      let g = f (mid s b e ++ u) x.onward.1 in
      let v = g.0 in
      record {
        ahead = omega (arith, x.ahead);
        inside = x.inside;
        onward = (u ++ v, subst Q (ap (λ z. mid s a b ++ z) (append_assoc (mid s b e) u v) ∙ sym (append_assoc (mid s a b) (mid s b e) (u ++ v)) ∙ ap (λ z. z ++ (u ++ v)) (sym (mid_join s a b e h x.ahead))) g.1);
        alive = subst Running (sym j) x.alive;
        wrong = ap (λ z. step n z (get_or s e [])) j ∙ x.wrong;
      }

  pub stuck_step : {Q₁ : List Text → Type 0} {st₁ : State} (e : ℕ) → a < length s → step n st (get_or s a []) ≡ st₁ → ((p : List Text) → Q₁ p → (u : List Text) × Q (get_or s a [] ∷ (p ++ u))) → Stuck n Q₁ st₁ s (a + 1) e → Stuck n Q st s a e
  stuck_step e h q f x = stuck_after (a + 1) e (omega arith) (ap (run n st) (mid_one s a h) ∙ q) (λ p y. let g = f p y in (g.0, subst (λ z. Q (z ++ (p ++ g.0))) (sym (mid_one s a h)) g.1)) x
