-- The words of a rule lead from the first state to the last.
use Rattle.std.proofs.Common.{◌≡◌, ℕ, ◌+◌, ◌-◌, ◌<◌, ◌≤◌, Bool, true, ltb, List, [], ◌∷◌, ◌++◌, is_some, Some, None, codes, Option, sym, refl, ap, ◌∙◌, subst, append_assoc, arith}
use Rattle.std.specs.Fmt.{signed_decimal}
use Rattle.std.proofs.lemmas.Bool.{cond-true, or_left, or_right, and_from, lt-ltb}
use Rattle.ftpl.specs.declared.properties.Quantifier.{Quantifier}
use Rattle.ftpl.specs.declared.properties.Quantifier.TheVariants.{ForAll, Exists}
use Rattle.ftpl.specs.declared.properties.VariableKind.{VariableKind}
use Rattle.ftpl.specs.declared.properties.VariableKind.TheVariants.{Component, Provided, Required, Parameter}
use Rattle.ftpl.specs.declared.properties.Variable.{Variable}
use Rattle.ftpl.specs.declared.properties.Test.{Test}
use Rattle.ftpl.specs.declared.properties.Test.TheVariants as tests
use Rattle.ftpl.specs.declared.properties.Binder.{Binder}
use Rattle.book_text.specs.declared.words.Keyword.{Keyword}
use Rattle.book_text.specs.declared.words.Keyword.TheVariants.{Name, In, Bound, Child, Same, Up, AtMost}
use Rattle.book_text.specs.Words.{variable_text, keyword_text, quantifier_text, opening_text, kind_text}
use Rattle.book_text.specs.declared.scopes.Scope.{Scope}
use Rattle.book_text.specs.Rules.{Text, Over, TestSays, Form, leaf, turned, joined, either, leaves, Level, loose, tight, single, plain, Reads, a_test, a_group, a_plain, a_not, one_tight, and_tight, one_loose, or_loose, scope_of, binder_text, RuleSays}
use Rattle.book_text.specs.States.{State, dead, ended, opening, turning, grouping, first, second, done, scoped, step, run, is_kind, variable_of, variable_fits, first_fits, second_fits, viable, operated, is_number, naming, kinding, extended}
use Rattle.book_text.proofs.Lexical.{bound_reads, has_kind_lem, name_is, number_is}

pub run_append : (st : State) (p q : List Text) → run st (p ++ q) ≡ run (run st p) q
run_append st [] q = refl
run_append st (t ∷ p) q = run_append (step st t) p q

-- a bound variable fits where its kind does
pub fits_read : (sc : Scope) (f : VariableKind → Bool) (x : Variable) (k : VariableKind) → Over sc x k → f k ≡ true → variable_fits sc f (variable_of sc (variable_text x)) ≡ true
fits_read sc f x k o h =
    let r = bound_reads sc.outer sc.inner x k o in
    ap (variable_fits sc f) r.read ∙ ap f r.over ∙ h

pub read_some : (sc : Scope) (x : Variable) (k : VariableKind) → Over sc x k → is_some (variable_of sc (variable_text x)) ≡ true
read_some sc x k o = ap is_some (bound_reads sc.outer sc.inner x k o).read

module _ (sc : Scope) (d k : ℕ) (u : List Text) where
  pub at_first : (w : Keyword) (x : Variable) → variable_fits sc (first_fits w) (variable_of sc (variable_text x)) ≡ true → step (first sc d k w) (variable_text x) ≡ operated sc d k w
  unfolding step
  at_first w x h = cond-true (variable_fits sc (first_fits w) (variable_of sc (variable_text x))) (operated sc d k w) dead h

  pub at_second : (w : Keyword) (t : Text) → second_fits sc w t ≡ true → step (second sc d k w) t ≡ done sc d (k + 1)
  unfolding step
  at_second w t h = cond-true (second_fits sc w t) (done sc d (k + 1)) dead h

  pub at_keyword : (w : Keyword) → viable sc w ≡ true → step (grouping sc d k) (keyword_text w) ≡ first sc d k w
  unfolding step
  at_keyword Name h = refl
  at_keyword In h = refl
  at_keyword Bound h = cond-true (viable sc Bound) (first sc d k Bound) dead h
  at_keyword Child h = refl
  at_keyword Same h = refl
  at_keyword Up h = cond-true (viable sc Up) (first sc d k Up) dead h
  at_keyword AtMost h = cond-true (viable sc AtMost) (first sc d k AtMost) dead h

  -- a test of two operands
  pub two_run : (w : Keyword) (x : Variable) (t : Text) → operated sc d k w ≡ second sc d k w → viable sc w ≡ true → variable_fits sc (first_fits w) (variable_of sc (variable_text x)) ≡ true → second_fits sc w t ≡ true → run (grouping sc d k) (keyword_text w ∷ variable_text x ∷ t ∷ u) ≡ run (done sc d (k + 1)) u
  two_run w x t two v f s =
      ap (λ z. run (step (step z (variable_text x)) t) u) (at_keyword w v) ∙ ap (λ z. run (step z t) u) (at_first w x f ∙ two) ∙ ap (λ z. run z u) (at_second w t s)

  pub up_run : (x : Variable) → viable sc Up ≡ true → variable_fits sc (first_fits Up) (variable_of sc (variable_text x)) ≡ true → run (grouping sc d k) (keyword_text Up ∷ variable_text x ∷ u) ≡ run (done sc d (k + 1)) u
  up_run x v f = ap (λ z. run (step z (variable_text x)) u) (at_keyword Up v) ∙ ap (λ z. run z u) (at_first Up x f)

  test_words : (t : Test) (p : List Text) → TestSays sc t p → run (grouping sc d k) (p ++ u) ≡ run (done sc d (k + 1)) u
  test_words (tests.Named x n) p h = ap (λ z. run (grouping sc d k) (z ++ u)) h.4 ∙ two_run Name x h.0 refl refl (fits_read sc (first_fits Name) x h.3.0 h.3.1 refl) (name_is h.0 h.1)
  test_words (tests.OwnerNamed x n) p h = ap (λ z. run (grouping sc d k) (z ++ u)) h.4 ∙ two_run In x h.0 refl refl (fits_read sc (first_fits In) x h.3.0 h.3.1 refl) (name_is h.0 h.1)
  test_words (tests.Bound x y) p h = ap (λ z. run (grouping sc d k) (z ++ u)) h.2 ∙ two_run Bound x (variable_text y) refl (and_from _ _ (has_kind_lem _ _ x Provided h.0) (has_kind_lem _ _ y Required h.1)) (fits_read sc (first_fits Bound) x Provided h.0 refl) (fits_read sc (λ j. is_kind j Required) y Required h.1 refl)
  test_words (tests.Child x y) p h = ap (λ z. run (grouping sc d k) (z ++ u)) h.2 ∙ two_run Child x (variable_text y) refl refl (fits_read sc (first_fits Child) x h.0.0 h.0.1 refl) (read_some sc y h.1.0 h.1.1)
  test_words (tests.Same x y) p h = ap (λ z. run (grouping sc d k) (z ++ u)) h.2 ∙ two_run Same x (variable_text y) refl refl (fits_read sc (first_fits Same) x h.0.0 h.0.1 refl) (read_some sc y h.1.0 h.1.1)
  test_words (tests.Up x) p h = ap (λ z. run (grouping sc d k) (z ++ u)) h.1 ∙ up_run x (has_kind_lem _ _ x Component h.0) (fits_read sc (first_fits Up) x Component h.0 refl)
  test_words (tests.AtMostNumber x z) p h = ap (λ z. run (grouping sc d k) (z ++ u)) h.2 ∙ two_run AtMost x (signed_decimal z) refl (has_kind_lem _ _ x Parameter h.0) (fits_read sc (first_fits AtMost) x Parameter h.0 refl) (or_right _ _ (number_is z h.1))
  test_words (tests.AtMost x y) p h = ap (λ z. run (grouping sc d k) (z ++ u)) h.2 ∙ two_run AtMost x (variable_text y) refl (has_kind_lem _ _ x Parameter h.0) (fits_read sc (first_fits AtMost) x Parameter h.0 refl) (or_left _ (is_number (variable_text y)) (fits_read sc (λ j. is_kind j Parameter) y Parameter h.1 refl))

abbrev pub start : Level → Scope → ℕ → ℕ → State
start loose sc d k = turning sc d k
start tight sc d k = turning sc d k
start single sc d k = turning sc d k
start plain sc d k = grouping sc d k

test_turning : (sc : Scope) (t : Test) (p : List Text) → TestSays sc t p → (d k : ℕ) (u : List Text) → run (turning sc d k) (p ++ u) ≡ run (grouping sc d k) (p ++ u)
unfolding step
test_turning sc (tests.Named x n) p h d k u = subst (λ z. run (turning sc d k) (z ++ u) ≡ run (grouping sc d k) (z ++ u)) (sym h.4) refl
test_turning sc (tests.OwnerNamed x n) p h d k u = subst (λ z. run (turning sc d k) (z ++ u) ≡ run (grouping sc d k) (z ++ u)) (sym h.4) refl
test_turning sc (tests.Bound x y) p h d k u = subst (λ z. run (turning sc d k) (z ++ u) ≡ run (grouping sc d k) (z ++ u)) (sym h.2) refl
test_turning sc (tests.Child x y) p h d k u = subst (λ z. run (turning sc d k) (z ++ u) ≡ run (grouping sc d k) (z ++ u)) (sym h.2) refl
test_turning sc (tests.Same x y) p h d k u = subst (λ z. run (turning sc d k) (z ++ u) ≡ run (grouping sc d k) (z ++ u)) (sym h.2) refl
test_turning sc (tests.Up x) p h d k u = subst (λ z. run (turning sc d k) (z ++ u) ≡ run (grouping sc d k) (z ++ u)) (sym h.1) refl
test_turning sc (tests.AtMostNumber x z) p h d k u = subst (λ z. run (turning sc d k) (z ++ u) ≡ run (grouping sc d k) (z ++ u)) (sym h.2) refl
test_turning sc (tests.AtMost x y) p h d k u = subst (λ z. run (turning sc d k) (z ++ u) ≡ run (grouping sc d k) (z ++ u)) (sym h.2) refl

-- what is neither turned nor joined may stand where `!` may
turning_plain : {sc : Scope} {n : ℕ} {p : List Text} {f : Form} → Reads sc plain n p f → (d k : ℕ) (u : List Text) → run (turning sc d k) (p ++ u) ≡ run (grouping sc d k) (p ++ u)
unfolding step
turning_plain {sc} {p = p} (a_test {t = t} h) d k u = test_turning sc t p h d k u
turning_plain (a_group r) d k u = refl

module _ (sc : Scope) (d k : ℕ) (u : List Text) where
  pub join_and : k < 16 → run (done sc d k) (codes "&" ∷ u) ≡ run (turning sc d k) u
  unfolding step
  join_and h = ap (λ z. run z u) (cond-true (ltb k 16) (turning sc d k) dead (lt-ltb k 16 h))

  pub join_or : k < 16 → run (done sc d k) (codes "|" ∷ u) ≡ run (turning sc d k) u
  unfolding step
  join_or h = ap (λ z. run z u) (cond-true (ltb k 16) (turning sc d k) dead (lt-ltb k 16 h))

  pub open_run : d < 8 → run (grouping sc d k) (codes "(" ∷ u) ≡ run (turning sc (d + 1) k) u
  unfolding step
  open_run h = ap (λ z. run z u) (cond-true (ltb d 8) (turning sc (d + 1) k) dead (lt-ltb d 8 h))

  pub close_run : run (done sc (d + 1) k) (codes ")" ∷ u) ≡ run (done sc d k) u
  unfolding step
  close_run = let e : d + 1 - 1 ≡ d = omega arith in ap (λ z. run z u) (cond-true (ltb 0 (d + 1)) (done sc (d + 1 - 1) k) dead (lt-ltb 0 (d + 1) (omega arith)) ∙ ap (λ z. done sc z k) e)

  pub not_run : run (turning sc d k) (codes "!" ∷ u) ≡ run (grouping sc d k) u
  unfolding step
  not_run = refl

pub leaves_some : (f : Form) → 0 < leaves f
leaves_some (leaf t) = omega arith
leaves_some (turned f) = leaves_some f
leaves_some (joined f g) = omega (arith, leaves_some f)
leaves_some (either f g) = omega (arith, leaves_some f)

pub complete : {sc : Scope} {l : Level} {n : ℕ} {p : List Text} {f : Form} → Reads sc l n p f → (d k : ℕ) → d + n ≡ 8 → k + leaves f ≤ 16 → (u : List Text) → run (start l sc d k) (p ++ u) ≡ run (done sc d (k + leaves f)) u
complete {sc} {p = p} (a_test {t = t} h) d k m c u = test_words sc d k u t p h
complete {sc} (a_group {n} {p} {f} r) d k m c u =
    open_run sc d k ((p ++ (codes ")" ∷ [])) ++ u) (omega arith)
    ∙ ap (run (turning sc (d + 1) k)) (append_assoc p (codes ")" ∷ []) u)
    ∙ complete r (d + 1) k (omega arith) c (codes ")" ∷ u)
    ∙ close_run sc d (k + leaves f) u
complete (a_plain r) d k m c u = turning_plain r d k u ∙ complete r d k m c u
complete {sc} (a_not {p = p} r) d k m c u = not_run sc d k (p ++ u) ∙ complete r d k m c u
complete (one_tight r) d k m c u = complete r d k m c u
complete {sc} (and_tight {n} {p} {q} {f} {g} r s) d k m c u =
    let e : k + leaves f + leaves g ≡ k + (leaves f + leaves g) = omega arith in
    ap (run (turning sc d k)) (append_assoc p (codes "&" ∷ q) u)
    ∙ complete r d k m (omega arith) (codes "&" ∷ (q ++ u))
    ∙ join_and sc d (k + leaves f) (q ++ u) (omega (arith, leaves_some g))
    ∙ complete s d (k + leaves f) m (omega arith) u
    ∙ ap (λ z. run (done sc d z) u) e
complete (one_loose r) d k m c u = complete r d k m c u
complete {sc} (or_loose {n} {p} {q} {f} {g} r s) d k m c u =
    let e : k + leaves f + leaves g ≡ k + (leaves f + leaves g) = omega arith in
    ap (run (turning sc d k)) (append_assoc p (codes "|" ∷ q) u)
    ∙ complete r d k m (omega arith) (codes "|" ∷ (q ++ u))
    ∙ join_or sc d (k + leaves f) (q ++ u) (omega (arith, leaves_some g))
    ∙ complete s d (k + leaves f) m (omega arith) u
    ∙ ap (λ z. run (done sc d z) u) e

-- the quantifiers
unfolding_kind : (o : Option VariableKind) (k : VariableKind) (u : List Text) → run (kinding o) (kind_text k ∷ u) ≡ run (scoped (extended o k)) u
unfolding step
unfolding_kind o Component u = refl
unfolding_kind o Provided u = refl
unfolding_kind o Required u = refl
unfolding_kind o Parameter u = refl

open_quantifier : (q : Quantifier) (u : List Text) → run opening (opening_text q ∷ u) ≡ run (naming None) u
unfolding step
open_quantifier ForAll u = refl
open_quantifier Exists u = refl

more_quantifier : (k : VariableKind) (q : Quantifier) (u : List Text) → run (scoped (record { outer = k; inner = None })) (quantifier_text q ∷ u) ≡ run (naming (Some k)) u
unfolding step
more_quantifier k ForAll u = refl
more_quantifier k Exists u = refl

name_v : (u : List Text) → run (naming None) (codes "v" ∷ codes ":" ∷ u) ≡ run (kinding None) u
unfolding step
name_v u = refl

name_w : (k : VariableKind) (u : List Text) → run (naming (Some k)) (codes "w" ∷ codes ":" ∷ u) ≡ run (kinding (Some k)) u
unfolding step
name_w k u = refl

pub bind_run : (b : Binder) (c : Option Binder) (u : List Text) → run opening (binder_text b c ++ u) ≡ run (scoped (scope_of b c)) u
bind_run b None u = open_quantifier b.quantifier (codes "v" ∷ codes ":" ∷ kind_text b.kind ∷ u) ∙ name_v (kind_text b.kind ∷ u) ∙ unfolding_kind None b.kind u
bind_run b (Some c) u =
    let w = quantifier_text c.quantifier ∷ codes "w" ∷ codes ":" ∷ kind_text c.kind ∷ u in
    open_quantifier b.quantifier (codes "v" ∷ codes ":" ∷ kind_text b.kind ∷ w)
    ∙ name_v (kind_text b.kind ∷ w)
    ∙ unfolding_kind None b.kind w
    ∙ more_quantifier b.kind c.quantifier (codes "w" ∷ codes ":" ∷ kind_text c.kind ∷ u)
    ∙ name_w b.kind (kind_text c.kind ∷ u)
    ∙ unfolding_kind (Some b.kind) c.kind u

colon_run : (sc : Scope) (u : List Text) → run (scoped sc) (codes ":" ∷ u) ≡ run (turning sc 0 0) u
unfolding step
colon_run sc u = refl

end_run : (sc : Scope) (k : ℕ) → run (done sc 0 k) (codes "\n" ∷ []) ≡ ended
unfolding step
end_run sc k = refl

pub rule_run : {b : Binder} {c : Option Binder} {f : Form} {p : List Text} → RuleSays b c f p → run opening p ≡ ended
rule_run {b} {c} {f} h =
    ap (run opening) h.words
    ∙ bind_run b c (codes ":" ∷ (h.tests ++ (codes "\n" ∷ [])))
    ∙ colon_run (scope_of b c) (h.tests ++ (codes "\n" ∷ []))
    ∙ complete h.reads 0 0 refl (omega (arith, h.few)) (codes "\n" ∷ [])
    ∙ end_run (scope_of b c) (0 + leaves f)
