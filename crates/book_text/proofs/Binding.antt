-- Quantifiers that were read, or the word at which they stopped.
use Rattle.std.proofs.Common.{◌≡◌, ℕ, ◌+◌, ◌<◌, ◌≤◌, true, false, cond, List, [], ◌∷◌, ◌++◌, length, get_or, Some, None, codes, Option, sym, refl, ap, ◌∙◌, subst, arith, Result, MatchResult}
use Rattle.std.specs.Option.{ok_or}
use Rattle.std.specs.Str.{bytes_eq}
use Rattle.std.proofs.lemmas.Bool.{cond-true, cond-false}
use Rattle.ftpl.specs.declared.properties.Quantifier.{Quantifier}
use Rattle.ftpl.specs.declared.properties.Quantifier.TheVariants.{ForAll, Exists}
use Rattle.ftpl.specs.declared.properties.VariableKind.{VariableKind}
use Rattle.ftpl.specs.declared.properties.VariableKind.TheVariants.{Component, Provided, Required, Parameter}
use Rattle.ftpl.specs.declared.properties.Binder.{Binder}
use Rattle.book_text.specs.declared.parts.Part.{Part}
use Rattle.book_text.specs.declared.parts.Stop.{Stop}
use Rattle.book_text.specs.declared.parts.Stop.TheVariants.{Wrong}
use Rattle.book_text.specs.declared.rules.Rule.{Rule}
use Rattle.book_text.specs.declared.scopes.Scope.{Scope}
use Rattle.book_text.specs.Rules.{Text, loose, form, scope_of, inner_kind, binder_text, RuleSays}
use Rattle.book_words.specs.Cuts.{part}
use Rattle.book_text.specs.States.{dead, opening, naming, parting, kinding, scoped, turning, name_of_next, extended, another, after, step, run, Stuck}
use Rattle.book_text.specs.Took.{Bound, Took, Failed, TestsTaken, RuleTaken}
use Rattle.book_text.specs.Words.{kinds, kind_text, kind_of, quantifiers, quantifier_text, quantifier_of, opening_text, opening_of}
use Rattle.book_text.proofs.Lexical.{spelt_says}
use Rattle.book_text.proofs.Complete.{run_append}
use Rattle.book_words.proofs.Parting.{part_join, part_none}
use Rattle.book_text.proofs.Steps.{mid_first, mid_one, stands, begun, stuck_here, stuck_step, stuck_after, failed_after, failed_step, took_run, stops_outside}

name_some : (o : Option VariableKind) → name_of_next o ≡ [] → ⊥
name_some None e = let z : ◌≡◌ {A = ℕ} 0 1 = cc in omega arith
name_some (Some k) e = let z : ◌≡◌ {A = ℕ} 0 1 = cc in omega arith

kind_some : (k : VariableKind) → kind_text k ≡ [] → ⊥
kind_some Component e = let z : ◌≡◌ {A = ℕ} 0 1 = cc in omega arith
kind_some Provided e = let z : ◌≡◌ {A = ℕ} 0 1 = cc in omega arith
kind_some Required e = let z : ◌≡◌ {A = ℕ} 0 1 = cc in omega arith
kind_some Parameter e = let z : ◌≡◌ {A = ℕ} 0 1 = cc in omega arith

module _ (o : Option VariableKind) (s : List Text) (a : ℕ) where
  pub not_named : a ≤ length s → bytes_eq (get_or s a []) (name_of_next o) ≡ false → Stuck (naming o) s a a
  unfolding step
  not_named h e = stuck_here s a tt h (cond-false (bytes_eq (get_or s a []) (name_of_next o)) (parting o) dead e)

  module _ (n : get_or s a [] ≡ name_of_next o) (m : bytes_eq (get_or s a []) (name_of_next o) ≡ true) where
    one : a < length s
    one = stands s a (name_of_next o) (name_some o) n

    named : step (naming o) (get_or s a []) ≡ parting o
    unfolding step
    named = cond-true (bytes_eq (get_or s a []) (name_of_next o)) (parting o) dead m

    pub not_parted : bytes_eq (get_or s (a + 1) []) (codes ":") ≡ false → Stuck (naming o) s a (a + 1)
    unfolding step
    not_parted e = stuck_step s a (a + 1) one named (stuck_here s (a + 1) tt (omega (arith, one)) (cond-false (bytes_eq (get_or s (a + 1) []) (codes ":")) (kinding o) dead e))

    module _ (p : get_or s (a + 1) [] ≡ codes ":") where
      two : a + 1 < length s
      two = begun s (a + 1) 58 [] p

      parted : step (parting o) (get_or s (a + 1) []) ≡ kinding o
      unfolding step
      parted = ap (λ z. cond (bytes_eq z (codes ":")) (kinding o) dead) p

      pub no_kind : kind_of (get_or s (a + 2) []) ≡ None → Stuck (naming o) s a (a + 2)
      unfolding step
      no_kind e =
          let m : a + 1 + 1 ≡ a + 2 = omega arith in
          stuck_step s a (a + 2) one named
          (stuck_step s (a + 1) (a + 2) two parted
          (subst (λ z. Stuck (kinding o) s z (a + 2)) (sym m) (stuck_here s (a + 2) tt (omega (arith, two)) (ap (λ z. after z (λ k. scoped (extended o k))) e))))

      pub bound : (k : VariableKind) → kind_of (get_or s (a + 2) []) ≡ Some k → Bound o s a k
      bound k e =
          let t = spelt_says kind_text kinds (get_or s (a + 2) []) k e in
          let three : a + 2 < length s = stands s (a + 2) (kind_text k) (kind_some k) t in
          let m : a + 1 + 1 ≡ a + 2 = omega arith in
          let l : a + 2 + 1 ≡ a + 3 = omega arith in
          record {
            inside = omega arith;
            words = mid_first s a (a + 3) (omega arith) (omega arith) ∙ (λ i. n i ∷ (mid_first s (a + 1) (a + 3) (omega arith) (omega arith) ∙ (λ j. p j ∷ (ap (λ z. part s z (a + 3)) m ∙ mid_first s (a + 2) (a + 3) (omega arith) (omega arith) ∙ (λ k. t k ∷ (ap (λ z. part s z (a + 3)) l ∙ part_none s (a + 3)) k)) j)) i);
          }

      -- what the third word says, or that it says nothing
      pub kind_read : (k : Option VariableKind) (r : Result VariableKind Stop) → kind_of (get_or s (a + 2) []) ≡ k → r ≡ ok_or k (Wrong (a + 2)) → MatchResult r (Bound o s a) (Failed (naming o) s a)
      kind_read None r q h = subst (λ z. MatchResult z (Bound o s a) (Failed (naming o) s a)) (sym h) (no_kind q)
      kind_read (Some k) r q h = subst (λ z. MatchResult z (Bound o s a) (Failed (naming o) s a)) (sym h) (bound k q)

-- the words of a variable lead on
run_kind : (o : Option VariableKind) (k : VariableKind) → run (naming o) (name_of_next o ∷ codes ":" ∷ kind_text k ∷ []) ≡ scoped (extended o k)
unfolding step
run_kind None Component = refl
run_kind None Provided = refl
run_kind None Required = refl
run_kind None Parameter = refl
run_kind (Some j) Component = refl
run_kind (Some j) Provided = refl
run_kind (Some j) Required = refl
run_kind (Some j) Parameter = refl

pub bound_run : {o : Option VariableKind} {s : List Text} {a : ℕ} {k : VariableKind} → Bound o s a k → run (naming o) (part s a (a + 3)) ≡ scoped (extended o k)
bound_run {o} {k = k} b = ap (run (naming o)) b.words ∙ run_kind o k

ignored : (o : Option Quantifier) → after o (λ q. dead) ≡ dead
ignored None = refl
ignored (Some q) = refl

no_more : (sc : Scope) (i : Option VariableKind) (o : Option Quantifier) → (i ≡ None → o ≡ None) → after o (λ q. another sc i) ≡ dead
no_more sc None o h = ap (λ z. after z (λ q. another sc None)) (h refl)
no_more sc (Some k) o h = ignored o

inner_none : (c : Option Binder) → inner_kind c ≡ None → c ≡ None
inner_none None e = refl
inner_none (Some b) e = let z : ◌≡◌ {A = ℕ} 0 1 = cc in absurd (omega arith)

module _ (b : Binder) (c : Option Binder) (s : List Text) (a : ℕ) where
  pub not_colon : a ≤ length s → bytes_eq (get_or s a []) (codes ":") ≡ false → (c ≡ None → quantifier_of (get_or s a []) ≡ None) → Stuck (scoped (scope_of b c)) s a a
  unfolding step
  not_colon h e q = stuck_here s a tt h (cond-false (bytes_eq (get_or s a []) (codes ":")) (turning (scope_of b c) 0 0) (after (quantifier_of (get_or s a [])) (λ q. another (scope_of b c) (inner_kind c))) e ∙ no_more (scope_of b c) (inner_kind c) (quantifier_of (get_or s a [])) (λ i. q (inner_none c i)))

  module _ (p : get_or s a [] ≡ codes ":") where
    colon : step (scoped (scope_of b c)) (get_or s a []) ≡ turning (scope_of b c) 0 0
    unfolding step
    colon = ap (step (scoped (scope_of b c))) p

    pub tests_failed : (r : Stop) → Failed (turning (scope_of b c) 0 0) s (a + 1) r → Failed (scoped (scope_of b c)) s a r
    tests_failed r f = failed_step (scoped (scope_of b c)) (turning (scope_of b c) 0 0) s a r (begun s a 58 [] p) colon f

    pub not_ended : (x : Part) → Took loose (scope_of b c) 8 0 s (a + 1) x → bytes_eq (get_or s x.next []) (codes "\n") ≡ false → Stuck (scoped (scope_of b c)) s a x.next
    not_ended x w e =
        stuck_step s a x.next (begun s a 58 [] p) colon
        (stuck_after s (a + 1) x.next x.next (omega (arith, w.ahead)) (took_run w (omega arith))
        (stuck_here s x.next tt w.inside (stops_outside (scope_of b c) x.count s x.next w.shut e)))

    pub tests_taken : (x : Part) → Took loose (scope_of b c) 8 0 s (a + 1) x → get_or s x.next [] ≡ codes "\n" → TestsTaken b c s a (record { property = record { outer = b; inner = c; tests = x.tests }; next = x.next + 1 })
    tests_taken x w e =
        let e' = begun s x.next 10 [] e in
        record {
          outer = refl;
          inner = refl;
          ahead = omega (arith, w.ahead);
          inside = omega (arith, e');
          tests = part s (a + 1) x.next;
          reads = w.reads;
          few = omega (arith, w.counted, w.few);
          words = mid_first s a (x.next + 1) (omega (arith, w.ahead)) (omega (arith, e')) ∙ (λ i. p i ∷ (part_join s (a + 1) x.next (x.next + 1) (omega (arith, w.ahead)) (omega arith) ∙ ap (λ z. part s (a + 1) x.next ++ z) (mid_one s x.next e' ∙ ap (λ z. z ∷ []) e)) i);
        }

opening_some : (q : Quantifier) → opening_text q ≡ [] → ⊥
opening_some ForAll e = let z : ◌≡◌ {A = ℕ} 0 1 = cc in omega arith
opening_some Exists e = let z : ◌≡◌ {A = ℕ} 0 1 = cc in omega arith

quantifier_some : (q : Quantifier) → quantifier_text q ≡ [] → ⊥
quantifier_some ForAll e = let z : ◌≡◌ {A = ℕ} 0 1 = cc in omega arith
quantifier_some Exists e = let z : ◌≡◌ {A = ℕ} 0 1 = cc in omega arith

no_colon : (q : Quantifier) → bytes_eq (quantifier_text q) (codes ":") ≡ false
no_colon ForAll = refl
no_colon Exists = refl

module _ (s : List Text) (a : ℕ) where
  pub not_opened : a ≤ length s → opening_of (get_or s a []) ≡ None → Stuck opening s a a
  unfolding step
  not_opened h e = stuck_here s a tt h (ap (λ z. after z (λ q. naming None)) e)

  module _ (q : Quantifier) (e : opening_of (get_or s a []) ≡ Some q) where
    opened : step opening (get_or s a []) ≡ naming None
    unfolding step
    opened = ap (λ z. after z (λ q. naming None)) e

    text : get_or s a [] ≡ opening_text q
    text = spelt_says opening_text quantifiers (get_or s a []) q e

    pub opening_inside : a < length s
    opening_inside = stands s a (opening_text q) (opening_some q) text

    pub first_failed : (r : Stop) → Failed (naming None) s (a + 1) r → Failed opening s a r
    first_failed r x = failed_step opening (naming None) s a r opening_inside opened x

    module _ (k : VariableKind) (w : Bound None s (a + 1) k) where
      first_run : run opening (part s a (a + 4)) ≡ scoped (record { outer = k; inner = None })
      first_run =
          let m : a + 1 + 3 ≡ a + 4 = omega arith in
          ap (run opening) (mid_first s a (a + 4) (omega arith) (omega (arith, w.inside)))
          ∙ (λ i. run (opened i) (part s (a + 1) (sym m i)))
          ∙ bound_run w

      first_words : part s a (a + 4) ≡ binder_text (record { quantifier = q; kind = k }) None
      first_words = let m : a + 1 + 3 ≡ a + 4 = omega arith in mid_first s a (a + 4) (omega arith) (omega (arith, w.inside)) ∙ (λ i. text i ∷ (ap (part s (a + 1)) (sym m) ∙ w.words) i)

      pub one_failed : (r : Stop) → Failed (scoped (record { outer = k; inner = None })) s (a + 4) r → Failed opening s a r
      one_failed r f = failed_after opening (scoped (record { outer = k; inner = None })) s a (a + 4) r (omega arith) first_run f

      module _ (p : Quantifier) (e₂ : quantifier_of (get_or s (a + 4) []) ≡ Some p) where
        again : step (scoped (record { outer = k; inner = None })) (get_or s (a + 4) []) ≡ naming (Some k)
        unfolding step
        again = let t = spelt_says quantifier_text quantifiers (get_or s (a + 4) []) p e₂ in cond-false (bytes_eq (get_or s (a + 4) []) (codes ":")) _ _ (ap (λ z. bytes_eq z (codes ":")) t ∙ no_colon p) ∙ ap (λ z. after z (λ q. another (record { outer = k; inner = None }) None)) e₂

        text₂ : get_or s (a + 4) [] ≡ quantifier_text p
        text₂ = spelt_says quantifier_text quantifiers (get_or s (a + 4) []) p e₂

        pub second_inside : a + 4 < length s
        second_inside = stands s (a + 4) (quantifier_text p) (quantifier_some p) text₂

        pub second_failed : (r : Stop) → Failed (naming (Some k)) s (a + 5) r → Failed opening s a r
        second_failed r x =
            let m : a + 4 + 1 ≡ a + 5 = omega arith in
            one_failed r (failed_step (scoped (record { outer = k; inner = None })) (naming (Some k)) s (a + 4) r second_inside again (subst (λ y. Failed (naming (Some k)) s y r) (sym m) x))

        module _ (j : VariableKind) (w₂ : Bound (Some k) s (a + 5) j) where
          second_run : run opening (part s a (a + 8)) ≡ scoped (record { outer = k; inner = Some j })
          second_run =
              let m : a + 5 + 3 ≡ a + 8 = omega arith in
              let n : a + 4 + 1 ≡ a + 5 = omega arith in
              ap (run opening) (part_join s a (a + 4) (a + 8) (omega arith) (omega arith))
              ∙ run_append opening (part s a (a + 4)) (part s (a + 4) (a + 8))
              ∙ (λ i. run (first_run i) (mid_first s (a + 4) (a + 8) (omega arith) (omega (arith, w₂.inside)) i))
              ∙ (λ i. run (again i) (part s (n i) (sym m i)))
              ∙ bound_run w₂

          second_words : part s a (a + 8) ≡ binder_text (record { quantifier = q; kind = k }) (Some (record { quantifier = p; kind = j }))
          second_words =
              let m : a + 5 + 3 ≡ a + 8 = omega arith in
              let n : a + 4 + 1 ≡ a + 5 = omega arith in
              part_join s a (a + 4) (a + 8) (omega arith) (omega arith)
              ∙ (λ i. first_words i ++ (mid_first s (a + 4) (a + 8) (omega arith) (omega (arith, w₂.inside)) ∙ (λ l. text₂ l ∷ ((λ o. part s (n o) (sym m o)) ∙ w₂.words) l)) i)

          pub two_failed : (r : Stop) → Failed (scoped (record { outer = k; inner = Some j })) s (a + 8) r → Failed opening s a r
          two_failed r f = failed_after opening (scoped (record { outer = k; inner = Some j })) s a (a + 8) r (omega arith) second_run f

taken : (b : Binder) (c : Option Binder) (s : List Text) (a m : ℕ) (x : Rule) → a ≤ m → part s a m ≡ binder_text b c → TestsTaken b c s m x → RuleTaken s a x
taken b c s a m x h w t =
    let f = form x.property.tests in
    let p = part s a x.next in
    let says : RuleSays b c f p = record {
      tests = t.tests;
      reads = t.reads;
      few = t.few;
      words = part_join s a m x.next h (omega (arith, t.ahead)) ∙ (λ i. w i ++ t.words i);
    } in
    record {
      ahead = omega (arith, t.ahead);
      inside = t.inside;
      says = subst (λ y. RuleSays y x.property.inner f p) (sym t.outer) (subst (λ y. RuleSays b y f p) (sym t.inner) says);
    }

pub one_taken : (s : List Text) (a : ℕ) (q : Quantifier) → opening_of (get_or s a []) ≡ Some q → (k : VariableKind) → Bound None s (a + 1) k → (x : Rule) → TestsTaken (record { quantifier = q; kind = k }) None s (a + 4) x → RuleTaken s a x
one_taken s a q e k w x t = taken (record { quantifier = q; kind = k }) None s a (a + 4) x (omega arith) (first_words s a q e k w) t

pub two_taken : (s : List Text) (a : ℕ) (q : Quantifier) → opening_of (get_or s a []) ≡ Some q → (k : VariableKind) → Bound None s (a + 1) k → (p : Quantifier) → quantifier_of (get_or s (a + 4) []) ≡ Some p → (j : VariableKind) → Bound (Some k) s (a + 5) j → (x : Rule) → TestsTaken (record { quantifier = q; kind = k }) (Some (record { quantifier = p; kind = j })) s (a + 8) x → RuleTaken s a x
two_taken s a q e k w p e₂ j w₂ x t = taken (record { quantifier = q; kind = k }) (Some (record { quantifier = p; kind = j })) s a (a + 8) x (omega arith) (second_words s a q e k w p e₂ j w₂) t
