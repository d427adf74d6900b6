-- What a word stands for, and the word of what it stands for.
use Rattle.std.proofs.Common.{◌≡◌, ℕ, zero, suc, ◌<◌, Bool, true, false, ◌&&◌, eqb, leb, List, [], ◌∷◌, length, ℤ, pos, negsuc, Some, None, Option, sym, refl, ap, ◌∙◌, subst, ⊎_elim, true≢false, arith}
use borrow.Author.Differences.{ints}
use Rattle.std.specs.Fmt.{signed_decimal}
use Rattle.std.specs.List.{AllByRecursion}
use Rattle.std.specs.Str.{bytes_eq}
use Rattle.std.proofs.lemmas.Slice.Eq.{bytes_eq-Decides}
use Rattle.std.proofs.lemmas.Bool.{cond-true, cond-false, or_left, or_right, or_cases, and_parts, and_from, le-leb, leb-true, eqb-true, eqb-false}
use Rattle.host.specs.Names.{NameForm, letter_or_digit}
use Rattle.ftpl.specs.declared.properties.VariableKind.{VariableKind}
use Rattle.ftpl.specs.declared.properties.VariableKind.TheVariants.{Component, Provided, Required, Parameter}
use Rattle.ftpl.specs.declared.properties.Variable.{Variable}
use Rattle.ftpl.specs.declared.properties.Variable.TheVariants.{Outer, Inner}
use Rattle.book_text.specs.Words.{spelt, variable_text}
use Rattle.book_text.specs.declared.scopes.Scope.{Scope}
use Rattle.book_text.specs.Rules.{Text, Over, Within}
use Rattle.book_text.specs.States.{all_plain, is_name, any_below, is_number, is_kind, kind_in, variable_of, has_kind}

pub same_true : (s t : Text) → bytes_eq s t ≡ true → s ≡ t
same_true s t e = (bytes_eq-Decides s t).0 e

pub same_refl : (t : Text) → bytes_eq t t ≡ true
same_refl t = (bytes_eq-Decides t t).1 refl

-- a case split on a test, with the equation
pub by_test : {P : Type 0} (b : Bool) → (b ≡ true → P) → (b ≡ false → P) → P
by_test true p q = p refl
by_test false p q = q refl

pub spelt_says : {A : Type 0} (f : A → Text) (xs : List A) (t : Text) (x : A) → spelt f xs t ≡ Some x → t ≡ f x
spelt_says f [] t x e = let z : ◌≡◌ {A = ℕ} 0 1 = cc in absurd (omega arith)
spelt_says f (y ∷ ys) t x e =
    by_test (bytes_eq t (f y))
    (λ h. let q = sym (cond-true (bytes_eq t (f y)) (Some y) (spelt f ys t) h) ∙ e in let r : y ≡ x = cc in same_true t (f y) h ∙ ap f r)
    (λ h. spelt_says f ys t x (sym (cond-false (bytes_eq t (f y)) (Some y) (spelt f ys t) h) ∙ e))

pub kind_is : (j k : VariableKind) → is_kind j k ≡ true → j ≡ k
kind_is Component Component e = refl
kind_is Component Provided e = absurd (true≢false (sym e))
kind_is Component Required e = absurd (true≢false (sym e))
kind_is Component Parameter e = absurd (true≢false (sym e))
kind_is Provided Component e = absurd (true≢false (sym e))
kind_is Provided Provided e = refl
kind_is Provided Required e = absurd (true≢false (sym e))
kind_is Provided Parameter e = absurd (true≢false (sym e))
kind_is Required Component e = absurd (true≢false (sym e))
kind_is Required Provided e = absurd (true≢false (sym e))
kind_is Required Required e = refl
kind_is Required Parameter e = absurd (true≢false (sym e))
kind_is Parameter Component e = absurd (true≢false (sym e))
kind_is Parameter Provided e = absurd (true≢false (sym e))
kind_is Parameter Required e = absurd (true≢false (sym e))
kind_is Parameter Parameter e = refl

pub is_kind_lem : (k : VariableKind) → is_kind k k ≡ true
is_kind_lem Component = refl
is_kind_lem Provided = refl
is_kind_lem Required = refl
is_kind_lem Parameter = refl

-- a bound variable is read from its name, and has the kind that it is over
pub record ReadsAs (sc : Scope) (x : Variable) (k : VariableKind) : Type 0 where
  pub read : variable_of sc (variable_text x) ≡ Some x
  pub over : kind_in sc x ≡ k

pub bound_reads : (o : VariableKind) (i : Option VariableKind) (x : Variable) (k : VariableKind) → Over (record { outer = o; inner = i }) x k → ReadsAs (record { outer = o; inner = i }) x k
bound_reads o None Outer k e = record { read = refl; over = e }
bound_reads o (Some j) Outer k e = record { read = refl; over = e }
bound_reads o None Inner k e = let z : ◌≡◌ {A = ℕ} 0 1 = cc in absurd (omega arith)
bound_reads o (Some j) Inner k e = record { read = refl; over = cc }

pub reads_bound : (o : VariableKind) (i : Option VariableKind) (t : Text) (x : Variable) → variable_of (record { outer = o; inner = i }) t ≡ Some x → (t ≡ variable_text x) × Over (record { outer = o; inner = i }) x (kind_in (record { outer = o; inner = i }) x)
reads_bound o None t Outer e = (spelt_says variable_text (Outer ∷ []) t Outer e, refl)
reads_bound o (Some j) t Outer e = (spelt_says variable_text (Outer ∷ Inner ∷ []) t Outer e, refl)
reads_bound o None t Inner e = absurd (by_test (bytes_eq t (variable_text Outer)) (λ h. let q = sym (cond-true (bytes_eq t (variable_text Outer)) (Some Outer) None h) ∙ e in let z : ◌≡◌ {A = ℕ} 0 1 = cc in omega arith) (λ h. let q = sym (cond-false (bytes_eq t (variable_text Outer)) (Some Outer) None h) ∙ e in let z : ◌≡◌ {A = ℕ} 0 1 = cc in omega arith))
reads_bound o (Some j) t Inner e = (spelt_says variable_text (Outer ∷ Inner ∷ []) t Inner e, refl)

pub has_kind_lem : (o : VariableKind) (i : Option VariableKind) (x : Variable) (k : VariableKind) → Over (record { outer = o; inner = i }) x k → has_kind (record { outer = o; inner = i }) k ≡ true
has_kind_lem o i Outer k e = or_left (is_kind o k) _ (subst (λ j. is_kind j k ≡ true) (sym e) (is_kind_lem k))
has_kind_lem o None Inner k e = let z : ◌≡◌ {A = ℕ} 0 1 = cc in absurd (omega arith)
has_kind_lem o (Some j) Inner k e = let q : j ≡ k = cc in or_right (is_kind o k) _ (subst (λ m. is_kind m k ≡ true) (sym q) (is_kind_lem k))

-- a variable of the kind, where there is one
pub of_kind : (o : VariableKind) (i : Option VariableKind) (k : VariableKind) → has_kind (record { outer = o; inner = i }) k ≡ true → (x : Variable) × Over (record { outer = o; inner = i }) x k
of_kind o None k e = ⊎_elim (λ h. (Outer, kind_is o k h)) (λ h. absurd (true≢false (sym h))) (or_cases (is_kind o k) _ e)
of_kind o (Some j) k e = ⊎_elim (λ h. (Outer, kind_is o k h)) (λ h. (Inner, ap Some (kind_is j k h))) (or_cases (is_kind o k) _ e)

plain_from : (t : Text) → AllByRecursion (λ b. letter_or_digit b ≡ true) t → all_plain t ≡ true
plain_from [] h = refl
plain_from (b ∷ t) h = and_from (letter_or_digit b) (all_plain t) h.0 (plain_from t h.1)

plain_to : (t : Text) → all_plain t ≡ true → AllByRecursion (λ b. letter_or_digit b ≡ true) t
plain_to [] e = tt
plain_to (b ∷ t) e = let h = and_parts (letter_or_digit b) (all_plain t) e in (h.0, plain_to t h.1)

pub name_is : (t : Text) → NameForm t → is_name t ≡ true
name_is t h = and_from (leb 1 (length t)) _ (le-leb 1 (length t) (omega (arith, h.some))) (and_from (leb (length t) 8) (all_plain t) (le-leb (length t) 8 h.few) (plain_from t h.plain))

pub is_name_lem : (t : Text) → is_name t ≡ true → NameForm t
is_name_lem t e =
    let h = and_parts (leb 1 (length t)) (leb (length t) 8 && all_plain t) e in
    let k = and_parts (leb (length t) 8) (all_plain t) h.1 in
    record { some = omega (arith, leb-true 1 (length t) h.0); few = leb-true (length t) 8 k.0; plain = plain_to t k.1 }

pub any_from : (f : ℕ → Bool) (n k : ℕ) → k < n → f k ≡ true → any_below f n ≡ true
unfolding any_below
any_from f zero k h e = absurd (omega arith)
any_from f (suc n) k h e = by_test (eqb k n) (λ q. or_left (f n) _ (subst (λ m. f m ≡ true) (eqb-true k n q) e)) (λ q. or_right (f n) _ (any_from f n k (omega (arith, eqb-false)) e))

pub any_to : (f : ℕ → Bool) (n : ℕ) → any_below f n ≡ true → (k : ℕ) × (k < n) × (f k ≡ true)
unfolding any_below
any_to f zero e = absurd (true≢false (sym e))
any_to f (suc n) e = ⊎_elim (λ h. (n, omega arith, h)) (λ h. let r = any_to f n h in (r.0, omega (arith, r.1), r.2)) (or_cases (f n) (any_below f n) e)

pub number_is : (z : ℤ) → Within z → is_number (signed_decimal z) ≡ true
unfolding is_number
number_is (pos n) h = or_left (any_below (λ k. bytes_eq (signed_decimal (pos n)) (signed_decimal (pos k))) 1000001) _ (any_from _ 1000001 n (omega (arith, ints, h.1)) (same_refl (signed_decimal (pos n))))
number_is (negsuc n) h = or_right (any_below (λ k. bytes_eq (signed_decimal (negsuc n)) (signed_decimal (pos k))) 1000001) _ (any_from _ 1000000 n (omega (arith, ints, h.0)) (same_refl (signed_decimal (negsuc n))))

pub is_number_lem : (t : Text) → is_number t ≡ true → (z : ℤ) × Within z × (t ≡ signed_decimal z)
unfolding is_number
is_number_lem t e =
    ⊎_elim
    (λ h. let r = any_to (λ k. bytes_eq t (signed_decimal (pos k))) 1000001 h in (pos r.0, (omega (arith, ints), omega (arith, ints, r.1)), same_true t (signed_decimal (pos r.0)) r.2))
    (λ h. let r = any_to (λ k. bytes_eq t (signed_decimal (negsuc k))) 1000000 h in (negsuc r.0, (omega (arith, ints, r.1), omega (arith, ints)), same_true t (signed_decimal (negsuc r.0)) r.2))
    (or_cases (any_below (λ k. bytes_eq t (signed_decimal (pos k))) 1000001) (any_below (λ k. bytes_eq t (signed_decimal (negsuc k))) 1000000) e)
