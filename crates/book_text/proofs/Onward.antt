-- What may stand goes on to a rule, and what follows a word that may not stand never is one.
use Rattle.std.proofs.Common.{◌≡◌, ℕ, zero, suc, ◌+◌, ◌-◌, ◌<◌, ◌≤◌, Bool, true, false, cond, eqb, ltb, List, [], ◌∷◌, ◌++◌, pos, Some, None, codes, Option, sym, refl, ap, ◌∙◌, subst, arith}
use borrow.Author.Differences.{ints}
use Rattle.std.specs.Fmt.{signed_decimal}
use Rattle.std.specs.Str.{bytes_eq}
use Rattle.std.proofs.lemmas.Bool.{or_right, and_parts, ltb-true}
use Rattle.ftpl.specs.declared.properties.VariableKind.{VariableKind}
use Rattle.ftpl.specs.declared.properties.VariableKind.TheVariants.{Component, Provided, Required, Parameter}
use Rattle.ftpl.specs.declared.properties.Variable.{Variable}
use Rattle.ftpl.specs.declared.properties.Variable.TheVariants.{Outer}
use Rattle.ftpl.specs.declared.properties.Binder.{Binder}
use Rattle.book_text.specs.declared.words.Keyword.{Keyword}
use Rattle.book_text.specs.declared.words.Keyword.TheVariants.{Name, In, Bound, Child, Same, Up, AtMost}
use Rattle.book_text.specs.Words.{variable_text, keyword_text, keyword_of, quantifier_of, opening_of, kind_of}
use Rattle.book_text.specs.declared.scopes.Scope.{Scope}
use Rattle.book_text.specs.Rules.{Text, Form, RuleSays}
use Rattle.book_text.specs.States.{State, dead, ended, opening, naming, parting, kinding, scoped, turning, grouping, testing, first, second, done, after, extended, another, name_of_next, join_step, group_step, test_step, step, run, is_kind, variable_of, variable_fits, first_fits, second_fits, viable, operated}
use Rattle.book_text.proofs.Lexical.{of_kind, number_is}
use Rattle.book_text.proofs.Complete.{run_append, fits_read, read_some, at_first, at_second, two_run, close_run, rule_run}
use Rattle.book_text.proofs.Sound.{dead_run, rule_of}

abbrev Binary : Keyword → Type 0
Binary Name = Unit {0}
Binary In = Unit {0}
Binary Bound = Unit {0}
Binary Child = Unit {0}
Binary Same = Unit {0}
Binary Up = ⊥
Binary AtMost = Unit {0}

-- a state from which the line can be completed
abbrev pub Lively : State → Type 0
Lively dead = ⊥
Lively ended = Unit {0}
Lively opening = Unit {0}
Lively (naming o) = Unit {0}
Lively (parting o) = Unit {0}
Lively (kinding o) = Unit {0}
Lively (scoped sc) = Unit {0}
Lively (testing sc d k) = k < 16
Lively (grouping sc d k) = k < 16
Lively (turning sc d k) = k < 16
Lively (first sc d k w) = (k < 16) × (viable sc w ≡ true)
Lively (second sc d k w) = (k < 16) × (viable sc w ≡ true) × Binary w
Lively (done sc d k) = k ≤ 16

either_way : (b : Bool) (x y : State) → (b ≡ true → (x ≡ dead → ⊥) → Lively x) → (b ≡ false → (y ≡ dead → ⊥) → Lively y) → (cond b x y ≡ dead → ⊥) → Lively (cond b x y)
either_way true x y p q h = p refl h
either_way false x y p q h = q refl h

one_way : (b : Bool) (x : State) → (b ≡ true → Lively x) → (cond b x dead ≡ dead → ⊥) → Lively (cond b x dead)
one_way b x p h = either_way b x dead (λ e _. p e) (λ e n. absurd (n refl)) h

given : {A : Type 0} (o : Option A) (f : A → State) → ((x : A) → (f x ≡ dead → ⊥) → Lively (f x)) → (after o f ≡ dead → ⊥) → Lively (after o f)
given None f p h = absurd (h refl)
given (Some x) f p h = p x h

join_lively : (sc : Scope) (d k : ℕ) → (join_step sc d k ≡ dead → ⊥) → Lively (join_step sc d k)
join_lively sc d k = one_way (ltb k 16) (turning sc d k) (λ e. ltb-true k 16 e)

test_lively : (sc : Scope) (d k : ℕ) (t : Text) → k < 16 → (test_step sc d k t ≡ dead → ⊥) → Lively (test_step sc d k t)
test_lively sc d k t h = given (keyword_of t) _ (λ w. one_way (viable sc w) (first sc d k w) (λ e. (h, e)))

group_lively : (sc : Scope) (d k : ℕ) (t : Text) → k < 16 → (group_step sc d k t ≡ dead → ⊥) → Lively (group_step sc d k t)
group_lively sc d k t h = either_way (bytes_eq t (codes "(")) _ _ (λ e. one_way (ltb d 8) (turning sc (d + 1) k) (λ _. h)) (λ e. test_lively sc d k t h)

operated_lively : (sc : Scope) (d k : ℕ) (w : Keyword) → k < 16 → viable sc w ≡ true → Lively (operated sc d k w)
operated_lively sc d k Name h v = (h, v, tt)
operated_lively sc d k In h v = (h, v, tt)
operated_lively sc d k Bound h v = (h, v, tt)
operated_lively sc d k Child h v = (h, v, tt)
operated_lively sc d k Same h v = (h, v, tt)
operated_lively sc d k Up h v = omega arith
operated_lively sc d k AtMost h v = (h, v, tt)

another_lively : (sc : Scope) (o : Option VariableKind) → (another sc o ≡ dead → ⊥) → Lively (another sc o)
another_lively sc None h = tt
another_lively sc (Some k) h = absurd (h refl)

stays : (st : State) (t : Text) → Lively st → (step st t ≡ dead → ⊥) → Lively (step st t)
unfolding step
stays dead t l h = absurd l
stays ended t l h = absurd (h refl)
stays opening t l h = given (opening_of t) _ (λ q _. tt) h
stays (naming o) t l h = one_way (bytes_eq t (name_of_next o)) (parting o) (λ _. tt) h
stays (parting o) t l h = one_way (bytes_eq t (codes ":")) (kinding o) (λ _. tt) h
stays (kinding o) t l h = given (kind_of t) _ (λ k _. tt) h
stays (scoped sc) t l h = either_way (bytes_eq t (codes ":")) (turning sc 0 0) _ (λ _ _. omega arith) (λ _. given (quantifier_of t) _ (λ q. another_lively sc sc.inner)) h
stays (testing sc d k) t l h = test_lively sc d k t l h
stays (grouping sc d k) t l h = group_lively sc d k t l h
stays (turning sc d k) t l h = either_way (bytes_eq t (codes "!")) (grouping sc d k) _ (λ _ _. l) (λ _. group_lively sc d k t l) h
stays (first sc d k w) t l h = one_way (variable_fits sc (first_fits w) (variable_of sc t)) (operated sc d k w) (λ _. operated_lively sc d k w l.0 l.1) h
stays (second sc d k w) t l h = one_way (second_fits sc w t) (done sc d (k + 1)) (λ _. omega (arith, l.0)) h
stays (done sc d k) t l h =
    either_way (bytes_eq t (codes "&")) _ _ (λ _. join_lively sc d k)
    (λ _. either_way (bytes_eq t (codes "|")) _ _ (λ _. join_lively sc d k)
    (λ _. either_way (bytes_eq t (codes ")")) _ _ (λ _. one_way (ltb 0 d) (done sc (d - 1) k) (λ _. l))
    (λ _. either_way (bytes_eq t (codes "\n")) _ dead (λ _. one_way (eqb d 0) ended (λ _. tt)) (λ _ n. absurd (n refl)))))
    h

close_all : (sc : Scope) (d k : ℕ) → (u : List Text) × (run (done sc d k) u ≡ ended)
unfolding step
close_all sc zero k = (codes "\n" ∷ [], refl)
close_all sc (suc d) k =
    let r = close_all sc d k in
    let m : d + 1 ≡ suc d = omega arith in
    (codes ")" ∷ r.0, subst (λ z. run (done sc z k) (codes ")" ∷ r.0) ≡ ended) m (close_run sc d k r.0 ∙ r.1))

some_first : (sc : Scope) (w : Keyword) → viable sc w ≡ true → (x : Variable) × (variable_fits sc (first_fits w) (variable_of sc (variable_text x)) ≡ true)
some_first sc Name v = (Outer, fits_read sc (first_fits Name) Outer sc.outer refl refl)
some_first sc In v = (Outer, fits_read sc (first_fits In) Outer sc.outer refl refl)
some_first sc Bound v = let x = of_kind sc.outer sc.inner Provided (and_parts _ _ v).0 in (x.0, fits_read sc (first_fits Bound) x.0 Provided x.1 refl)
some_first sc Child v = (Outer, fits_read sc (first_fits Child) Outer sc.outer refl refl)
some_first sc Same v = (Outer, fits_read sc (first_fits Same) Outer sc.outer refl refl)
some_first sc Up v = let x = of_kind sc.outer sc.inner Component v in (x.0, fits_read sc (first_fits Up) x.0 Component x.1 refl)
some_first sc AtMost v = let x = of_kind sc.outer sc.inner Parameter v in (x.0, fits_read sc (first_fits AtMost) x.0 Parameter x.1 refl)

some_second : (sc : Scope) (w : Keyword) → viable sc w ≡ true → Binary w → (t : Text) × (second_fits sc w t ≡ true)
some_second sc Name v b = (codes "a", refl)
some_second sc In v b = (codes "a", refl)
some_second sc Bound v b = let x = of_kind sc.outer sc.inner Required (and_parts _ _ v).1 in (variable_text x.0, fits_read sc (λ k. is_kind k Required) x.0 Required x.1 refl)
some_second sc Child v b = (variable_text Outer, read_some sc Outer sc.outer refl)
some_second sc Same v b = (variable_text Outer, read_some sc Outer sc.outer refl)
some_second sc Up v b = absurd b
some_second sc AtMost v b = (signed_decimal (pos 0), or_right _ _ (number_is (pos 0) (omega (arith, ints), omega (arith, ints))))

with_second : (sc : Scope) (d k : ℕ) (w : Keyword) → viable sc w ≡ true → Binary w → (u : List Text) × (run (second sc d k w) u ≡ ended)
with_second sc d k w v b =
    let t = some_second sc w v b in
    let r = close_all sc d (k + 1) in
    (t.0 ∷ r.0, ap (λ z. run z r.0) (at_second sc d k r.0 w t.0 t.1) ∙ r.1)

with_operated : (sc : Scope) (d k : ℕ) (w : Keyword) → viable sc w ≡ true → (u : List Text) × (run (operated sc d k w) u ≡ ended)
with_operated sc d k Name v = with_second sc d k Name v tt
with_operated sc d k In v = with_second sc d k In v tt
with_operated sc d k Bound v = with_second sc d k Bound v tt
with_operated sc d k Child v = with_second sc d k Child v tt
with_operated sc d k Same v = with_second sc d k Same v tt
with_operated sc d k Up v = close_all sc d (k + 1)
with_operated sc d k AtMost v = with_second sc d k AtMost v tt

with_test : (sc : Scope) (d k : ℕ) → (u : List Text) × (run (grouping sc d k) (keyword_text Same ∷ u) ≡ ended)
with_test sc d k =
    let r = close_all sc d (k + 1) in
    (variable_text Outer ∷ variable_text Outer ∷ r.0, two_run sc d k r.0 Same Outer (variable_text Outer) refl refl (fits_read sc (first_fits Same) Outer sc.outer refl refl) (read_some sc Outer sc.outer refl) ∙ r.1)

with_scope : (sc : Scope) → (u : List Text) × (run (scoped sc) u ≡ ended)
unfolding step
with_scope sc = let r = with_test sc 0 0 in (codes ":" ∷ keyword_text Same ∷ r.0, r.1)

with_kind : (o : Option VariableKind) → (u : List Text) × (run (kinding o) u ≡ ended)
unfolding step
with_kind o = let r = with_scope (extended o Component) in (codes "comp" ∷ r.0, r.1)

with_name : (o : Option VariableKind) → (u : List Text) × (run (naming o) u ≡ ended)
unfolding step
with_name None = let r = with_kind None in (codes "v" ∷ codes ":" ∷ r.0, r.1)
with_name (Some k) = let r = with_kind (Some k) in (codes "w" ∷ codes ":" ∷ r.0, r.1)

completed : (st : State) → Lively st → (u : List Text) × (run st u ≡ ended)
unfolding step
completed dead l = absurd l
completed ended l = ([], refl)
completed opening l = let r = with_name None in (codes "rule=all" ∷ r.0, r.1)
completed (naming o) l = with_name o
completed (parting o) l = let r = with_kind o in (codes ":" ∷ r.0, r.1)
completed (kinding o) l = with_kind o
completed (scoped sc) l = with_scope sc
completed (testing sc d k) l = let r = with_test sc d k in (keyword_text Same ∷ r.0, r.1)
completed (grouping sc d k) l = let r = with_test sc d k in (keyword_text Same ∷ r.0, r.1)
completed (turning sc d k) l = let r = with_test sc d k in (keyword_text Same ∷ r.0, r.1)
completed (first sc d k w) l =
    let x = some_first sc w l.1 in
    let r = with_operated sc d k w l.1 in
    (variable_text x.0 ∷ r.0, ap (λ z. run z r.0) (at_first sc d k r.0 w x.0 x.1) ∙ r.1)
completed (second sc d k w) l = with_second sc d k w l.1 l.2
completed (done sc d k) l = close_all sc d k

dead_stays : (u : List Text) → run dead u ≡ dead
unfolding step
dead_stays [] = refl
dead_stays (t ∷ u) = dead_stays u

pub lively_run : (st : State) (p : List Text) → Lively st → (run st p ≡ dead → ⊥) → Lively (run st p)
lively_run st [] l h = l
lively_run st (t ∷ p) l h = lively_run (step st t) p (stays st t l (λ e. h (ap (λ z. run z p) e ∙ dead_stays p))) h

-- what may stand goes on to a rule
pub onward : (p : List Text) → (run opening p ≡ dead → ⊥) → (u : List Text) × (b : Binder) × (c : Option Binder) × (f : Form) × RuleSays b c f (p ++ u)
onward p h =
    let r = completed (run opening p) (lively_run opening p tt h) in
    let e = rule_of (p ++ r.0) (run_append opening p r.0 ∙ r.1) in
    (r.0, e.0, e.1, e.2, e.3)

-- what follows a word that may not stand is no rule
pub never : (p : List Text) (t : Text) (u : List Text) {b : Binder} {c : Option Binder} {f : Form} → step (run opening p) t ≡ dead → RuleSays b c f (p ++ (t ∷ u)) → ⊥
never p t u h s =
    dead_run u (sym (ap (λ z. run z u) h) ∙ sym (run_append opening p (t ∷ u)) ∙ rule_run s)
