-- One test that was read, or the word at which it stopped.
use Rattle.std.proofs.Common.{◌≡◌, ℕ, ◌+◌, ◌<◌, ◌≤◌, true, false, cond, List, [], ◌∷◌, length, get_or, ℤ, pos, negsuc, Some, None, sym, refl, ap, ◌∙◌, subst, arith}
use borrow.Author.Differences.{ints}
use Rattle.std.specs.Fmt.{signed_decimal}
use Rattle.std.proofs.lemmas.Fmt.{decimal_nonempty}
use Rattle.std.proofs.lemmas.Bool.{cond-true, cond-false}
use Rattle.ftpl.specs.declared.properties.VariableKind.TheVariants.{Component}
use Rattle.ftpl.specs.declared.properties.Variable.{Variable}
use Rattle.ftpl.specs.declared.properties.Variable.TheVariants.{Outer, Inner}
use Rattle.ftpl.specs.declared.properties.Test.{Test}
use Rattle.ftpl.specs.declared.properties.Test.TheVariants as tests
use Rattle.ftpl.specs.declared.properties.Tests.TheVariants.{Single}
use Rattle.book_text.specs.declared.scopes.Scope.{Scope}
use Rattle.book_text.specs.declared.words.Keyword.{Keyword}
use Rattle.book_text.specs.declared.words.Keyword.TheVariants.{Name, In, Bound, Child, Same, Up, AtMost}
use Rattle.book_text.specs.Rules.{Text, Over, Within, TestSays, plain, a_test}
use Rattle.book_words.specs.Cuts.{part}
use Rattle.book_text.specs.States.{dead, testing, first, second, done, after, step, Stuck, kind_in, variable_of, variable_fits, first_fits, second_fits, viable, operated}
use Rattle.book_text.specs.Took.{Took}
use Rattle.book_text.specs.Words.{keywords, keyword_text, keyword_of, variable_text}
use Rattle.book_text.proofs.Lexical.{spelt_says, reads_bound}
use Rattle.book_text.proofs.Sound.{over_kind}
use Rattle.book_words.proofs.Parting.{part_none}
use Rattle.book_text.proofs.Steps.{mid_first, stands, stuck_here, stuck_step}

keyword_some : (w : Keyword) → keyword_text w ≡ [] → ⊥
keyword_some Name e = let z : ◌≡◌ {A = ℕ} 0 1 = cc in omega arith
keyword_some In e = let z : ◌≡◌ {A = ℕ} 0 1 = cc in omega arith
keyword_some Bound e = let z : ◌≡◌ {A = ℕ} 0 1 = cc in omega arith
keyword_some Child e = let z : ◌≡◌ {A = ℕ} 0 1 = cc in omega arith
keyword_some Same e = let z : ◌≡◌ {A = ℕ} 0 1 = cc in omega arith
keyword_some Up e = let z : ◌≡◌ {A = ℕ} 0 1 = cc in omega arith
keyword_some AtMost e = let z : ◌≡◌ {A = ℕ} 0 1 = cc in omega arith

variable_some : (x : Variable) → variable_text x ≡ [] → ⊥
variable_some Outer e = let z : ◌≡◌ {A = ℕ} 0 1 = cc in omega arith
variable_some Inner e = let z : ◌≡◌ {A = ℕ} 0 1 = cc in omega arith

number_some : (z : ℤ) → Within z → signed_decimal z ≡ [] → ⊥
number_some (pos n) h e = omega (arith, ap length e, decimal_nonempty n (omega (arith, ints, h.1)))
number_some (negsuc n) h e = let z : ◌≡◌ {A = ℕ} 0 1 = cc in omega arith

-- the last word of a test is not empty
last_some : (sc : Scope) (test : Test) (a b t : Text) → TestSays sc test (a ∷ b ∷ t ∷ []) → t ≡ [] → ⊥
last_some sc (tests.Named x n) a b t h e = let q = h.4 in let r : h.0 ≡ [] = cc in omega (arith, ap length r, h.1.some)
last_some sc (tests.OwnerNamed x n) a b t h e = let q = h.4 in let r : h.0 ≡ [] = cc in omega (arith, ap length r, h.1.some)
last_some sc (tests.Bound x y) a b t h e = let q = h.2 in let r : variable_text y ≡ [] = cc in variable_some y r
last_some sc (tests.Child x y) a b t h e = let q = h.2 in let r : variable_text y ≡ [] = cc in variable_some y r
last_some sc (tests.Same x y) a b t h e = let q = h.2 in let r : variable_text y ≡ [] = cc in variable_some y r
last_some sc (tests.Up x) a b t h e = let q = h.1 in let z : ◌≡◌ {A = ℕ} 0 1 = cc in omega arith
last_some sc (tests.AtMostNumber x z) a b t h e = let q = h.2 in let r : signed_decimal z ≡ [] = cc in number_some z h.1 r
last_some sc (tests.AtMost x y) a b t h e = let q = h.2 in let r : variable_text y ≡ [] = cc in variable_some y r

module _ (sc : Scope) (d k : ℕ) (s : List Text) (a : ℕ) where
  pub no_keyword : a ≤ length s → keyword_of (get_or s a []) ≡ None → Stuck (testing sc d k) s a a
  unfolding step
  no_keyword h e = stuck_here s a tt h (ap (λ o. after o (λ y. cond (viable sc y) (first sc d k y) dead)) e)

  pub not_viable : (w : Keyword) → a ≤ length s → keyword_of (get_or s a []) ≡ Some w → viable sc w ≡ false → Stuck (testing sc d k) s a a
  unfolding step
  not_viable w h e v = stuck_here s a tt h (ap (λ o. after o (λ y. cond (viable sc y) (first sc d k y) dead)) e ∙ cond-false (viable sc w) (first sc d k w) dead v)

  module _ (w : Keyword) (e : keyword_of (get_or s a []) ≡ Some w) (v : viable sc w ≡ true) where
    begins : step (testing sc d k) (get_or s a []) ≡ first sc d k w
    unfolding step
    begins = ap (λ o. after o (λ y. cond (viable sc y) (first sc d k y) dead)) e ∙ cond-true (viable sc w) (first sc d k w) dead v

    keyword_is : get_or s a [] ≡ keyword_text w
    keyword_is = spelt_says keyword_text keywords (get_or s a []) w e

    one : a < length s
    one = stands s a (keyword_text w) (keyword_some w) keyword_is

    pub no_first : variable_fits sc (first_fits w) (variable_of sc (get_or s (a + 1) [])) ≡ false → Stuck (testing sc d k) s a (a + 1)
    unfolding step
    no_first f = stuck_step s a (a + 1) one begins (stuck_here s (a + 1) tt (omega (arith, one)) (cond-false (variable_fits sc (first_fits w) (variable_of sc (get_or s (a + 1) []))) (operated sc d k w) dead f))

    module _ (x : Variable) (q : variable_of sc (get_or s (a + 1) []) ≡ Some x) (f : first_fits w (kind_in sc x) ≡ true) where
      variable_is : (get_or s (a + 1) [] ≡ variable_text x) × Over sc x (kind_in sc x)
      variable_is = reads_bound sc.outer sc.inner (get_or s (a + 1) []) x q

      two : a + 1 < length s
      two = stands s (a + 1) (variable_text x) (variable_some x) variable_is.0

      goes : step (first sc d k w) (get_or s (a + 1) []) ≡ operated sc d k w
      unfolding step
      goes = cond-true (variable_fits sc (first_fits w) (variable_of sc (get_or s (a + 1) []))) (operated sc d k w) dead (ap (variable_fits sc (first_fits w)) q ∙ f)

      pub no_second : operated sc d k w ≡ second sc d k w → second_fits sc w (get_or s (a + 2) []) ≡ false → Stuck (testing sc d k) s a (a + 2)
      unfolding step
      no_second o g =
          let m : a + 1 + 1 ≡ a + 2 = omega arith in
          stuck_step s a (a + 2) one begins
          (stuck_step s (a + 1) (a + 2) two (goes ∙ o)
          (subst (λ z. Stuck (second sc d k w) s z (a + 2)) (sym m) (stuck_here s (a + 2) tt (omega (arith, two)) (cond-false (second_fits sc w (get_or s (a + 2) [])) (done sc d (k + 1)) dead g))))

      pub took_up : (n : ℕ) → w ≡ Up → k < 16 → Took plain sc n k s a (record { tests = Single (tests.Up x); next = a + 2; count = k + 1 })
      took_up n u h =
          let m : a + 1 + 1 ≡ a + 2 = omega arith in
          let p = mid_first s a (a + 2) (omega arith) (omega (arith, two)) ∙ (λ i. (keyword_is ∙ ap keyword_text u) i ∷ (mid_first s (a + 1) (a + 2) (omega arith) (omega (arith, two)) ∙ (λ j. variable_is.0 j ∷ (ap (λ z. part s z (a + 2)) m ∙ part_none s (a + 2)) j)) i) in
          record {
            ahead = omega arith;
            inside = omega (arith, two);
            reads = a_test (over_kind sc x Component variable_is.1 (subst (λ y. first_fits y (kind_in sc x) ≡ true) u f), p);
            counted = refl;
            more = omega arith;
            few = omega arith;
            shut = tt;
          }

      pub took_test : (n : ℕ) (t : Test) → (Over sc x (kind_in sc x) → first_fits w (kind_in sc x) ≡ true → TestSays sc t (keyword_text w ∷ variable_text x ∷ get_or s (a + 2) [] ∷ [])) → k < 16 → Took plain sc n k s a (record { tests = Single t; next = a + 3; count = k + 1 })
      took_test n t h' c =
          let h = h' variable_is.1 f in
          let m : a + 1 + 1 ≡ a + 2 = omega arith in
          let l : a + 2 + 1 ≡ a + 3 = omega arith in
          let three : a + 2 < length s = stands s (a + 2) (get_or s (a + 2) []) (last_some sc t (keyword_text w) (variable_text x) (get_or s (a + 2) []) h) refl in
          let p = mid_first s a (a + 3) (omega arith) (omega arith) ∙ (λ i. keyword_is i ∷ (mid_first s (a + 1) (a + 3) (omega arith) (omega arith) ∙ (λ j. variable_is.0 j ∷ (ap (λ z. part s z (a + 3)) m ∙ mid_first s (a + 2) (a + 3) (omega arith) (omega arith) ∙ ap (λ z. get_or s (a + 2) [] ∷ z) (ap (λ z. part s z (a + 3)) l ∙ part_none s (a + 3))) j)) i) in
          record {
            ahead = omega arith;
            inside = omega arith;
            reads = a_test (subst (TestSays sc t) (sym p) h);
            counted = refl;
            more = omega arith;
            few = omega arith;
            shut = tt;
          }

pub two_operands : (sc : Scope) (d k : ℕ) (w : Keyword) → (w ≡ Up → ⊥) → operated sc d k w ≡ second sc d k w
two_operands sc d k Name h = refl
two_operands sc d k In h = refl
two_operands sc d k Bound h = refl
two_operands sc d k Child h = refl
two_operands sc d k Same h = refl
two_operands sc d k Up h = absurd (h refl)
two_operands sc d k AtMost h = refl
