-- Words that lead from the first state to the last are a rule.
use Rattle.std.proofs.Common.{◌≡◌, ℕ, zero, suc, ◌+◌, ◌-◌, ◌<◌, ◌≤◌, Bool, true, false, cond, eqb, ltb, List, [], ◌∷◌, ◌++◌, is_some, Some, None, codes, Option, sym, refl, ap, ◌∙◌, subst, ⊎_elim, true≢false, append_assoc, append-nil, arith}
use Rattle.std.specs.Str.{bytes_eq}
use Rattle.std.proofs.lemmas.Bool.{or_cases, ltb-true, eqb-true}
use Rattle.host.specs.Names.{packed}
use Rattle.ftpl.specs.declared.properties.VariableKind.{VariableKind}
use Rattle.ftpl.specs.declared.properties.VariableKind.TheVariants.{Component, Provided, Required, Parameter}
use Rattle.ftpl.specs.declared.properties.Variable.{Variable}
use Rattle.ftpl.specs.declared.properties.Test.{Test}
use Rattle.ftpl.specs.declared.properties.Test.TheVariants as tests
use Rattle.ftpl.specs.declared.properties.Binder.{Binder}
use Rattle.book_text.specs.declared.words.Keyword.{Keyword}
use Rattle.book_text.specs.declared.words.Keyword.TheVariants.{Name, In, Bound, Child, Same, Up, AtMost}
use Rattle.book_text.specs.Words.{quantifiers, kinds, keywords, variable_text, keyword_text, keyword_of, quantifier_text, quantifier_of, opening_text, opening_of, kind_text, kind_of}
use Rattle.book_text.specs.declared.scopes.Scope.{Scope}
use Rattle.book_text.specs.Rules.{Text, Over, TestSays, Form, leaf, turned, joined, either, leaves, Level, loose, tight, single, plain, Reads, a_test, a_group, a_plain, a_not, one_tight, and_tight, one_loose, or_loose, inner_kind, inner_text, RuleSays}
use Rattle.book_text.specs.States.{State, dead, ended, opening, naming, parting, kinding, scoped, turning, grouping, first, second, done, after, name_of_next, group_step, test_step, step, run, is_kind, is_number, kind_in, variable_of, variable_fits, first_fits, second_fits, viable, operated}
use Rattle.book_text.proofs.Lexical.{same_true, spelt_says, kind_is, reads_bound, is_name_lem, is_number_lem}

pub dead_run : (u : List Text) → run dead u ≡ ended → ⊥
unfolding step
dead_run [] e = let z : ◌≡◌ {A = ℕ} 0 1 = cc in omega arith
dead_run (t ∷ u) e = dead_run u e

-- from the end of the line nothing goes on
after_end : (u : List Text) → run ended u ≡ ended → u ≡ []
unfolding step
after_end [] e = refl
after_end (t ∷ u) e = absurd (dead_run u e)

-- a test that leads on to the last state was passed
pub passed : (b : Bool) (st : State) (u : List Text) → run (cond b st dead) u ≡ ended → (b ≡ true) × (run st u ≡ ended)
passed true st u e = (refl, e)
passed false st u e = absurd (dead_run u e)

pub branch : {P : Type 0} (b : Bool) (x y : State) (u : List Text) → run (cond b x y) u ≡ ended → (b ≡ true → run x u ≡ ended → P) → (b ≡ false → run y u ≡ ended → P) → P
branch true x y u e p q = p refl e
branch false x y u e p q = q refl e

-- a word that leads on stands for something
pub stood : {A : Type 0} (o : Option A) (f : A → State) (u : List Text) → run (after o f) u ≡ ended → (x : A) × (o ≡ Some x) × (run (f x) u ≡ ended)
stood None f u e = absurd (dead_run u e)
stood (Some x) f u e = (x, refl, e)

-- What follows a single one within the same parentheses, and then v: first what `&` joins, then what `|` joins.
record Tail (sc : Scope) (n : ℕ) (u v : List Text) (j : ℕ) : Type 0 where
  tightly : List Text
  loosely : List Text
  by_and : ℕ
  by_or : ℕ
  words : u ≡ tightly ++ (loosely ++ v)
  counted : j ≡ by_and + by_or
  tight_reads : (p : List Text) (f : Form) → Reads sc single n p f → (g : Form) × Reads sc tight n (p ++ tightly) g × (leaves g ≡ leaves f + by_and)
  loose_reads : (p : List Text) (f : Form) → Reads sc tight n p f → (g : Form) × Reads sc loose n (p ++ loosely) g × (leaves g ≡ leaves f + by_or)

module _ {sc : Scope} {n : ℕ} where
  no_tail : (u : List Text) → Tail sc n u u 0
  no_tail u =
      record {
        tightly = [];
        loosely = [];
        by_and = 0;
        by_or = 0;
        words = refl;
        counted = refl;
        tight_reads = λ p f r. (f, subst (λ z. Reads sc tight n z f) (sym (append-nil p)) (one_tight r), omega arith);
        loose_reads = λ p f r. (f, subst (λ z. Reads sc loose n z f) (sym (append-nil p)) (one_loose r), omega arith);
      }

  and_tail : {p u v : List Text} {f : Form} {j : ℕ} → Reads sc single n p f → Tail sc n u v j → Tail sc n (codes "&" ∷ (p ++ u)) v (leaves f + j)
  and_tail {p} {u} {v} {f} r t =
      let g = t.tight_reads p f r in
      record {
        tightly = codes "&" ∷ (p ++ t.tightly);
        loosely = t.loosely;
        by_and = leaves g.0;
        by_or = t.by_or;
        words = ap (λ z. codes "&" ∷ z) (ap (λ z. p ++ z) t.words ∙ sym (append_assoc p t.tightly (t.loosely ++ v)));
        counted = omega (arith, t.counted, g.2);
        tight_reads = λ q h s. (joined h g.0, and_tight s g.1, refl);
        loose_reads = t.loose_reads;
      }

  or_tail : {p u v : List Text} {f : Form} {j : ℕ} → Reads sc single n p f → Tail sc n u v j → Tail sc n (codes "|" ∷ (p ++ u)) v (leaves f + j)
  or_tail {p} {u} {v} {f} r t =
      let g = t.tight_reads p f r in
      let h = t.loose_reads (p ++ t.tightly) g.0 g.1 in
      record {
        tightly = [];
        loosely = codes "|" ∷ ((p ++ t.tightly) ++ t.loosely);
        by_and = 0;
        by_or = leaves h.0;
        words = ap (λ z. codes "|" ∷ z) (ap (λ z. p ++ z) t.words ∙ sym (append_assoc p t.tightly (t.loosely ++ v)) ∙ sym (append_assoc (p ++ t.tightly) t.loosely v));
        counted = omega (arith, t.counted, g.2, h.2);
        tight_reads = λ q f r. (f, subst (λ z. Reads sc tight n z f) (sym (append-nil q)) (one_tight r), omega arith);
        loose_reads = λ q f s. (either f h.0, or_loose s h.1, refl);
      }

  -- a single one and what follows it
  whole_tail : {p u v : List Text} {f : Form} {j : ℕ} → Reads sc single n p f → Tail sc n u v j → (q : List Text) × (g : Form) × Reads sc loose n q g × (leaves g ≡ leaves f + j) × (p ++ u ≡ q ++ v)
  whole_tail {p} {u} {v} {f} r t =
      let g = t.tight_reads p f r in
      let h = t.loose_reads (p ++ t.tightly) g.0 g.1 in (
        (p ++ t.tightly) ++ t.loosely,
        h.0,
        h.1,
        omega (arith, t.counted, g.2, h.2),
        ap (λ z. p ++ z) t.words ∙ sym (append_assoc p t.tightly (t.loosely ++ v)) ∙ sym (append_assoc (p ++ t.tightly) t.loosely v),
      )

-- what follows a test inside d parentheses, after k tests, up to the end of the line
data Ends (sc : Scope) : ℕ → ℕ → List Text → Type 0 where
  last : {k j : ℕ} {u : List Text} → Tail sc 8 u (codes "\n" ∷ []) j → k + j ≤ 16 → Ends sc 0 k u
  close : {d k j : ℕ} {u v : List Text} → Tail sc (8 - suc d) u (codes ")" ∷ v) j → Ends sc d (k + j) v → Ends sc (suc d) k u

-- a part of the tests with what follows it
record Whole (sc : Scope) (l : Level) (d k : ℕ) (u : List Text) : Type 0 where
  p : List Text
  f : Form
  rest : List Text
  reads : Reads sc l (8 - d) p f
  ends : Ends sc d (k + leaves f) rest
  words : u ≡ p ++ rest

-- a test that begins with q, with what follows it
record Tested (sc : Scope) (d k : ℕ) (q u : List Text) : Type 0 where
  test : Test
  p : List Text
  rest : List Text
  says : TestSays sc test (q ++ p)
  ends : Ends sc d (k + 1) rest
  words : u ≡ p ++ rest

module _ {sc : Scope} where
  with_and : {d k : ℕ} {p u : List Text} {f : Form} → Reads sc single (8 - d) p f → Ends sc d (k + leaves f) u → Ends sc d k (codes "&" ∷ (p ++ u))
  with_and r (last t c) = last (and_tail r t) (omega arith)
  with_and {k = k} {f = f} r (close {d = d} {j = j} {v = v} t e) = let m : k + leaves f + j ≡ k + (leaves f + j) = omega arith in close (and_tail r t) (subst (λ z. Ends sc d z v) m e)

  with_or : {d k : ℕ} {p u : List Text} {f : Form} → Reads sc single (8 - d) p f → Ends sc d (k + leaves f) u → Ends sc d k (codes "|" ∷ (p ++ u))
  with_or r (last t c) = last (or_tail r t) (omega arith)
  with_or {k = k} {f = f} r (close {d = d} {j = j} {v = v} t e) = let m : k + leaves f + j ≡ k + (leaves f + j) = omega arith in close (or_tail r t) (subst (λ z. Ends sc d z v) m e)

  -- what a parenthesis opened is closed
  grouped : {d k : ℕ} {p u : List Text} {f : Form} → d < 8 → Reads sc single (8 - suc d) p f → Ends sc (suc d) (k + leaves f) u → Whole sc plain d k (codes "(" ∷ (p ++ u))
  grouped {d} {k} {p} {u} {f} h r (close {j = j} {v = v} t e) =
      let w = whole_tail r t in
      let m : 8 - suc d + 1 ≡ 8 - d = omega arith in
      let c : k + leaves f + j ≡ k + leaves w.1 = omega (arith, w.3) in
      record {
        p = codes "(" ∷ (w.0 ++ (codes ")" ∷ []));
        f = w.1;
        rest = v;
        reads = subst (λ z. Reads sc plain z (codes "(" ∷ (w.0 ++ (codes ")" ∷ []))) w.1) m (a_group w.2);
        ends = subst (λ z. Ends sc d z v) c e;
        words = ap (λ z. codes "(" ∷ z) (w.4 ∙ sym (append_assoc w.0 (codes ")" ∷ []) v));
      }

module _ (sc : Scope) where
  fitted : (f : VariableKind → Bool) (t : Text) (o : Option Variable) → variable_of sc t ≡ o → variable_fits sc f o ≡ true → (x : Variable) × (t ≡ variable_text x) × Over sc x (kind_in sc x) × (f (kind_in sc x) ≡ true)
  fitted f t None e h = absurd (true≢false (sym h))
  fitted f t (Some x) e h = let r = reads_bound sc.outer sc.inner t x e in (x, r.0, r.1, h)

  some_read : (t : Text) (o : Option Variable) → variable_of sc t ≡ o → is_some o ≡ true → (x : Variable) × (t ≡ variable_text x) × Over sc x (kind_in sc x)
  some_read t None e h = absurd (true≢false (sym h))
  some_read t (Some x) e h = let r = reads_bound sc.outer sc.inner t x e in (x, r.0, r.1)

  pub over_kind : (x : Variable) (k : VariableKind) → Over sc x (kind_in sc x) → is_kind (kind_in sc x) k ≡ true → Over sc x k
  over_kind x k o h = subst (Over sc x) (kind_is (kind_in sc x) k h) o

  second_says : (w : Keyword) (x : Variable) (t : Text) → Over sc x (kind_in sc x) → first_fits w (kind_in sc x) ≡ true → second_fits sc w t ≡ true → (test : Test) × TestSays sc test (keyword_text w ∷ variable_text x ∷ t ∷ [])
  second_says Name x t o h s = (tests.Named x (packed t), (t, is_name_lem t s, refl, (kind_in sc x, o), refl))
  second_says In x t o h s = (tests.OwnerNamed x (packed t), (t, is_name_lem t s, refl, (kind_in sc x, o), refl))
  second_says Bound x t o h s =
      let y = fitted (λ k. is_kind k Required) t (variable_of sc t) refl s in
      (tests.Bound x y.0, (over_kind x Provided o h, over_kind y.0 Required y.2 y.3, ap (λ z. keyword_text Bound ∷ variable_text x ∷ z ∷ []) y.1))
  second_says Child x t o h s =
      let y = some_read t (variable_of sc t) refl s in
      (tests.Child x y.0, ((kind_in sc x, o), (kind_in sc y.0, y.2), ap (λ z. keyword_text Child ∷ variable_text x ∷ z ∷ []) y.1))
  second_says Same x t o h s =
      let y = some_read t (variable_of sc t) refl s in
      (tests.Same x y.0, ((kind_in sc x, o), (kind_in sc y.0, y.2), ap (λ z. keyword_text Same ∷ variable_text x ∷ z ∷ []) y.1))
  second_says Up x t o h s = absurd (true≢false (sym s))
  second_says AtMost x t o h s =
      ⊎_elim
      (λ q. let y = fitted (λ k. is_kind k Parameter) t (variable_of sc t) refl q in
      (tests.AtMost x y.0, (over_kind x Parameter o h, over_kind y.0 Parameter y.2 y.3, ap (λ z. keyword_text AtMost ∷ variable_text x ∷ z ∷ []) y.1)))
      (λ q. let y = is_number_lem t q in
      (tests.AtMostNumber x y.0, (over_kind x Parameter o h, y.1, ap (λ z. keyword_text AtMost ∷ variable_text x ∷ z ∷ []) y.2)))
      (or_cases (variable_fits sc (λ k. is_kind k Parameter) (variable_of sc t)) (is_number t) s)

-- what may follow each state up to the end of the line
record Goes (sc : Scope) (u : List Text) : Type 0 where
  from_done : (d k : ℕ) → k ≤ 16 → run (done sc d k) u ≡ ended → Ends sc d k u
  from_turning : (d k : ℕ) → k < 16 → run (turning sc d k) u ≡ ended → Whole sc single d k u
  from_grouping : (d k : ℕ) → k < 16 → run (grouping sc d k) u ≡ ended → Whole sc plain d k u
  from_first : (d k : ℕ) (w : Keyword) → k < 16 → run (first sc d k w) u ≡ ended → Tested sc d k (keyword_text w ∷ []) u
  from_second : (d k : ℕ) (w : Keyword) (x : Variable) → k < 16 → Over sc x (kind_in sc x) → first_fits w (kind_in sc x) ≡ true → run (second sc d k w) u ≡ ended → Tested sc d k (keyword_text w ∷ variable_text x ∷ []) u

module _ {sc : Scope} {u : List Text} (g : Goes sc u) (t : Text) where
  closes : (d k : ℕ) → 0 < d → Ends sc (d - 1) k u → Ends sc d k (codes ")" ∷ u)
  closes zero k h e = absurd (omega arith)
  closes (suc d) k h e =
      let m : suc d - 1 ≡ d = omega arith in
      let n : k ≡ k + 0 = omega arith in
      close (no_tail (codes ")" ∷ u)) (subst (λ z. Ends sc d z u) n (subst (λ z. Ends sc z k u) m e))

  done_more : (d k : ℕ) → k ≤ 16 → run (step (done sc d k) t) u ≡ ended → Ends sc d k (t ∷ u)
  unfolding step
  done_more d k h e =
      branch (bytes_eq t (codes "&")) _ _ u e
      (λ q e₁. let r = passed (ltb k 16) (turning sc d k) u e₁ in
      let w = g.from_turning d k (ltb-true k 16 r.0) r.1 in
      subst (λ z. Ends sc d k z) (λ i. sym (same_true t (codes "&") q) i ∷ sym w.words i) (with_and w.reads w.ends))
      (λ q₁ e₁. branch (bytes_eq t (codes "|")) _ _ u e₁
      (λ q e₂. let r = passed (ltb k 16) (turning sc d k) u e₂ in
      let w = g.from_turning d k (ltb-true k 16 r.0) r.1 in
      subst (λ z. Ends sc d k z) (λ i. sym (same_true t (codes "|") q) i ∷ sym w.words i) (with_or w.reads w.ends))
      (λ q₂ e₂. branch (bytes_eq t (codes ")")) _ _ u e₂
      (λ q e₃. let r = passed (ltb 0 d) (done sc (d - 1) k) u e₃ in
      subst (λ z. Ends sc d k (z ∷ u)) (sym (same_true t (codes ")") q)) (closes d k (ltb-true 0 d r.0) (g.from_done (d - 1) k h r.1)))
      (λ q₃ e₃. branch (bytes_eq t (codes "\n")) _ _ u e₃
      (λ q e₄. let r = passed (eqb d 0) ended u e₄ in
      subst (λ z. Ends sc z k (t ∷ u)) (sym (eqb-true d 0 r.0)) (subst (λ z. Ends sc 0 k z) (λ i. sym (same_true t (codes "\n") q) i ∷ sym (after_end u r.1) i) (last (no_tail (codes "\n" ∷ [])) (omega arith))))
      (λ q₄ e₄. absurd (dead_run u e₄)))))

  test_more : (d k : ℕ) → k < 16 → run (test_step sc d k t) u ≡ ended → Whole sc plain d k (t ∷ u)
  test_more d k h e =
      let w = stood (keyword_of t) _ u e in
      let v = passed (viable sc w.0) (first sc d k w.0) u w.2 in
      let r = g.from_first d k w.0 h v.1 in
      record {
        p = t ∷ r.p;
        f = leaf r.test;
        rest = r.rest;
        reads = a_test (subst (λ z. TestSays sc r.test (z ∷ r.p)) (sym (spelt_says keyword_text keywords t w.0 w.1)) r.says);
        ends = r.ends;
        words = ap (λ z. t ∷ z) r.words;
      }

  grouping_more : (d k : ℕ) → k < 16 → run (group_step sc d k t) u ≡ ended → Whole sc plain d k (t ∷ u)
  grouping_more d k h e =
      branch (bytes_eq t (codes "(")) _ _ u e
      (λ q e₁. let r = passed (ltb d 8) (turning sc (d + 1) k) u e₁ in
      let m : d + 1 ≡ suc d = omega arith in
      let w = g.from_turning (suc d) k h (subst (λ z. run (turning sc z k) u ≡ ended) m r.1) in
      subst (λ z. Whole sc plain d k z) (λ i. sym (same_true t (codes "(") q) i ∷ sym w.words i) (grouped (ltb-true d 8 r.0) w.reads w.ends))
      (λ q e₁. test_more d k h e₁)

  turning_more : (d k : ℕ) → k < 16 → run (step (turning sc d k) t) u ≡ ended → Whole sc single d k (t ∷ u)
  unfolding step
  turning_more d k h e =
      branch (bytes_eq t (codes "!")) _ _ u e
      (λ q e₁. let w = g.from_grouping d k h e₁ in
      record { p = codes "!" ∷ w.p; f = turned w.f; rest = w.rest; reads = a_not w.reads; ends = w.ends; words = λ i. same_true t (codes "!") q i ∷ w.words i })
      (λ q e₁. let w = grouping_more d k h e₁ in
      record { p = w.p; f = w.f; rest = w.rest; reads = a_plain w.reads; ends = w.ends; words = w.words })

  second_more : (d k : ℕ) (w : Keyword) (x : Variable) → k < 16 → Over sc x (kind_in sc x) → first_fits w (kind_in sc x) ≡ true → run (step (second sc d k w) t) u ≡ ended → Tested sc d k (keyword_text w ∷ variable_text x ∷ []) (t ∷ u)
  unfolding step
  second_more d k w x h o f e =
      let r = passed (second_fits sc w t) (done sc d (k + 1)) u e in
      let s = second_says sc w x t o f r.0 in
      record { test = s.0; p = t ∷ []; rest = u; says = s.1; ends = g.from_done d (k + 1) (omega arith) r.1; words = refl }

  shifted : (d k : ℕ) (w : Keyword) (x : Variable) → t ≡ variable_text x → Tested sc d k (keyword_text w ∷ variable_text x ∷ []) u → Tested sc d k (keyword_text w ∷ []) (t ∷ u)
  shifted d k w x q r = record { test = r.test; p = variable_text x ∷ r.p; rest = r.rest; says = r.says; ends = r.ends; words = λ i. q i ∷ r.words i }

  operated_more : (d k : ℕ) (w : Keyword) (x : Variable) → k < 16 → t ≡ variable_text x → Over sc x (kind_in sc x) → first_fits w (kind_in sc x) ≡ true → run (operated sc d k w) u ≡ ended → Tested sc d k (keyword_text w ∷ []) (t ∷ u)
  operated_more d k Name x h q o f e = shifted d k Name x q (g.from_second d k Name x h o f e)
  operated_more d k In x h q o f e = shifted d k In x q (g.from_second d k In x h o f e)
  operated_more d k Bound x h q o f e = shifted d k Bound x q (g.from_second d k Bound x h o f e)
  operated_more d k Child x h q o f e = shifted d k Child x q (g.from_second d k Child x h o f e)
  operated_more d k Same x h q o f e = shifted d k Same x q (g.from_second d k Same x h o f e)
  operated_more d k Up x h q o f e =
      record { test = tests.Up x; p = t ∷ []; rest = u; says = (over_kind sc x Component o f, ap (λ z. keyword_text Up ∷ z ∷ []) q); ends = g.from_done d (k + 1) (omega arith) e; words = refl }
  operated_more d k AtMost x h q o f e = shifted d k AtMost x q (g.from_second d k AtMost x h o f e)

  first_more : (d k : ℕ) (w : Keyword) → k < 16 → run (step (first sc d k w) t) u ≡ ended → Tested sc d k (keyword_text w ∷ []) (t ∷ u)
  unfolding step
  first_more d k w h e =
      let r = passed (variable_fits sc (first_fits w) (variable_of sc t)) (operated sc d k w) u e in
      let x = fitted sc (first_fits w) t (variable_of sc t) refl r.0 in
      operated_more d k w x.0 h x.1 x.2 x.3 r.1

goes_on : (sc : Scope) (u : List Text) → Goes sc u
unfolding step
goes_on sc [] =
    record {
      from_done = λ d k h e. let z : ◌≡◌ {A = ℕ} 0 1 = cc in absurd (omega arith);
      from_turning = λ d k h e. let z : ◌≡◌ {A = ℕ} 0 1 = cc in absurd (omega arith);
      from_grouping = λ d k h e. let z : ◌≡◌ {A = ℕ} 0 1 = cc in absurd (omega arith);
      from_first = λ d k w h e. let z : ◌≡◌ {A = ℕ} 0 1 = cc in absurd (omega arith);
      from_second = λ d k w x h o f e. let z : ◌≡◌ {A = ℕ} 0 1 = cc in absurd (omega arith);
    }
goes_on sc (t ∷ u) =
    let g = goes_on sc u in
    record {
      from_done = λ d k h e. done_more g t d k h e;
      from_turning = λ d k h e. turning_more g t d k h e;
      from_grouping = λ d k h e. grouping_more g t d k h e;
      from_first = λ d k w h e. first_more g t d k w h e;
      from_second = λ d k w x h o f e. second_more g t d k w x h o f e;
    }

-- the tests, up to the end of the line
record Rest (sc : Scope) (u : List Text) : Type 0 where
  p : List Text
  f : Form
  reads : Reads sc loose 8 p f
  few : leaves f ≤ 16
  words : u ≡ p ++ (codes "\n" ∷ [])

at_end : {sc : Scope} {p u : List Text} {f : Form} → Reads sc single 8 p f → Ends sc 0 (0 + leaves f) u → Rest sc (p ++ u)
at_end r (last t c) = let w = whole_tail r t in record { p = w.0; f = w.1; reads = w.2; few = omega (arith, w.3); words = w.4 }

tests_of : (sc : Scope) (u : List Text) → run (turning sc 0 0) u ≡ ended → Rest sc u
tests_of sc u e =
    let w = (goes_on sc u).from_turning 0 0 (omega arith) e in
    subst (Rest sc) (sym w.words) (at_end w.reads w.ends)

-- the second quantifier, if there is one, with the tests
record BoundTests (k : VariableKind) (u : List Text) : Type 0 where
  inner : Option Binder
  tests : List Text
  rest : Rest (record { outer = k; inner = inner_kind inner }) tests
  words : u ≡ inner_text inner ++ (codes ":" ∷ tests)

from_two : (k j : VariableKind) (u : List Text) → run (scoped (record { outer = k; inner = Some j })) u ≡ ended → (v : List Text) × Rest (record { outer = k; inner = Some j }) v × (u ≡ codes ":" ∷ v)
unfolding step
from_two k j [] e = let z : ◌≡◌ {A = ℕ} 0 1 = cc in absurd (omega arith)
from_two k j (t ∷ u) e =
    branch (bytes_eq t (codes ":")) _ _ u e
    (λ c e₁. (u, tests_of _ u e₁, ap (λ z. z ∷ u) (same_true t (codes ":") c)))
    (λ c e₁. let w = stood (quantifier_of t) _ u e₁ in absurd (dead_run u w.2))

from_kind_two : (k : VariableKind) (u : List Text) → run (kinding (Some k)) u ≡ ended → (j : VariableKind) × (v : List Text) × Rest (record { outer = k; inner = Some j }) v × (u ≡ kind_text j ∷ codes ":" ∷ v)
unfolding step
from_kind_two k [] e = let z : ◌≡◌ {A = ℕ} 0 1 = cc in absurd (omega arith)
from_kind_two k (t ∷ u) e =
    let w = stood (kind_of t) _ u e in
    let r = from_two k w.0 u w.2 in
    (w.0, r.0, r.1, λ i. spelt_says kind_text kinds t w.0 w.1 i ∷ r.2 i)

from_part : (o : Option VariableKind) (u : List Text) → run (parting o) u ≡ ended → (v : List Text) × (run (kinding o) v ≡ ended) × (u ≡ codes ":" ∷ v)
unfolding step
from_part o [] e = let z : ◌≡◌ {A = ℕ} 0 1 = cc in absurd (omega arith)
from_part o (t ∷ u) e = let r = passed (bytes_eq t (codes ":")) (kinding o) u e in (u, r.1, ap (λ z. z ∷ u) (same_true t (codes ":") r.0))

from_naming : (o : Option VariableKind) (u : List Text) → run (naming o) u ≡ ended → (v : List Text) × (run (kinding o) v ≡ ended) × (u ≡ name_of_next o ∷ codes ":" ∷ v)
unfolding step
from_naming o [] e = let z : ◌≡◌ {A = ℕ} 0 1 = cc in absurd (omega arith)
from_naming o (t ∷ u) e =
    let r = passed (bytes_eq t (name_of_next o)) (parting o) u e in
    let p = from_part o u r.1 in
    (p.0, p.1, λ i. same_true t (name_of_next o) r.0 i ∷ p.2 i)

from_one : (k : VariableKind) (u : List Text) → run (scoped (record { outer = k; inner = None })) u ≡ ended → BoundTests k u
unfolding step
from_one k [] e = let z : ◌≡◌ {A = ℕ} 0 1 = cc in absurd (omega arith)
from_one k (t ∷ u) e =
    branch (bytes_eq t (codes ":")) _ _ u e
    (λ c e₁. record { inner = None; tests = u; rest = tests_of _ u e₁; words = ap (λ z. z ∷ u) (same_true t (codes ":") c) })
    (λ c e₁. let w = stood (quantifier_of t) _ u e₁ in
    let n = from_naming (Some k) u w.2 in
    let r = from_kind_two k n.0 n.1 in
    record { inner = Some (record { quantifier = w.0; kind = r.0 }); tests = r.1; rest = r.2; words = λ i. spelt_says quantifier_text quantifiers t w.0 w.1 i ∷ (n.2 ∙ ap (λ z. codes "w" ∷ codes ":" ∷ z) r.3) i })

from_kind_one : (u : List Text) → run (kinding None) u ≡ ended → (k : VariableKind) × (v : List Text) × BoundTests k v × (u ≡ kind_text k ∷ v)
unfolding step
from_kind_one [] e = let z : ◌≡◌ {A = ℕ} 0 1 = cc in absurd (omega arith)
from_kind_one (t ∷ u) e =
    let w = stood (kind_of t) _ u e in
    (w.0, u, from_one w.0 u w.2, ap (λ z. z ∷ u) (spelt_says kind_text kinds t w.0 w.1))

-- words that lead to the end are some property's rule
pub rule_of : (u : List Text) → run opening u ≡ ended → (b : Binder) × (c : Option Binder) × (f : Form) × RuleSays b c f u
unfolding step
rule_of [] e = let z : ◌≡◌ {A = ℕ} 0 1 = cc in absurd (omega arith)
rule_of (t ∷ u) e =
    let w = stood (opening_of t) _ u e in
    let n = from_naming None u w.2 in
    let k = from_kind_one n.0 n.1 in
    let r = k.2 in (
      record { quantifier = w.0; kind = k.0 },
      r.inner,
      r.rest.f,
      record {
        tests = r.rest.p;
        reads = r.rest.reads;
        few = r.rest.few;
        words = λ i. spelt_says opening_text quantifiers t w.0 w.1 i ∷ (n.2 ∙ ap (λ z. codes "v" ∷ codes ":" ∷ z) (k.3 ∙ ap (λ z. kind_text k.0 ∷ z) (r.words ∙ ap (λ z. inner_text r.inner ++ (codes ":" ∷ z)) r.rest.words))) i;
      },
    )
