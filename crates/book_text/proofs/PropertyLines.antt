-- The words of a rule are a line, words and signs up to its end, and can be laid out.
use Rattle.std.proofs.Common.{◌≡◌, ℕ, suc, ◌^◌, ◌<◌, ◌≤◌, true, ◌&&◌, ◌||◌, leb, List, [], ◌∷◌, ◌++◌, length, ℤ, pos, negsuc, Some, None, codes, Option, sym, refl, ap, ◌∙◌, subst, inl, inr, ⊎_elim, append_assoc, arith}
use borrow.Author.Differences.{ints}
use Rattle.std.specs.Fmt.{signed_decimal}
use Rattle.std.specs.List.{AllByRecursion}
use Rattle.std.proofs.ByRecursion.{All-append, All-weaker}
use Rattle.std.proofs.lemmas.Fmt.{decimal_nonempty}
use Rattle.std.proofs.lemmas.Bool.{and_parts, or_cases, leb-true}
use Rattle.host.specs.Names.{NameForm, letter_or_digit}
use Rattle.ftpl.specs.declared.properties.Quantifier.{Quantifier}
use Rattle.ftpl.specs.declared.properties.Quantifier.TheVariants.{ForAll, Exists}
use Rattle.ftpl.specs.declared.properties.VariableKind.{VariableKind}
use Rattle.ftpl.specs.declared.properties.VariableKind.TheVariants.{Component, Provided, Required, Parameter}
use Rattle.ftpl.specs.declared.properties.Variable.{Variable}
use Rattle.ftpl.specs.declared.properties.Variable.TheVariants.{Outer, Inner}
use Rattle.ftpl.specs.declared.properties.Test.{Test}
use Rattle.ftpl.specs.declared.properties.Test.TheVariants as tests
use Rattle.ftpl.specs.declared.properties.Binder.{Binder}
use Rattle.book_words.specs.declared.bytes.ByteKind.TheVariants.{Plain}
use Rattle.book_words.specs.declared.bytes.Class.{Class}
use Rattle.book_words.specs.Bytes.{kind_of}
use Rattle.book_words.specs.Layout.{Proper}
use Rattle.book_words.proofs.Lining.{Inside, Lined, lined_proper, apart, decimal_plain}
use Rattle.book_text.specs.Rules.{Text, Within, TestSays, Form, Level, Reads, a_test, a_group, a_plain, a_not, one_tight, and_tight, one_loose, or_loose, binder_text, inner_text}
use Rattle.book_text.specs.Words.{variable_text, quantifier_text, opening_text, kind_text}
use Rattle.book_text.specs.Wrong.{IsRule}

between : (b l h : ℕ) → (leb l b && leb b h) ≡ true → (l ≤ b) × (b ≤ h)
between b l h e = let p = and_parts (leb l b) (leb b h) e in (leb-true l b p.0, leb-true b h p.1)

letter_plain : (b : ℕ) → letter_or_digit b ≡ true → kind_of b ≡ Plain
letter_plain b e =
    ⊎_elim
    (λ h. let r = between b 48 57 h in apart b (omega (arith, r.0)) (λ z. omega (arith, r.1)) (λ z. omega (arith, r.1)) (λ z. omega (arith, r.1)) (λ z. omega (arith, r.1)))
    (λ k. ⊎_elim
    (λ h. let r = between b 65 90 h in apart b (omega (arith, r.0)) (λ z. omega (arith, r.0)) (λ z. omega (arith, r.1)) (λ z. omega (arith, r.1)) (λ z. omega (arith, r.1)))
    (λ h. let r = between b 97 122 h in apart b (omega (arith, r.0)) (λ z. omega (arith, r.0)) (λ z. omega (arith, r.0)) (λ z. omega (arith, r.0)) (λ z. omega (arith, r.1)))
    (or_cases (leb 65 b && leb b 90) (leb 97 b && leb b 122) k))
    (or_cases (leb 48 b && leb b 57) ((leb 65 b && leb b 90) || (leb 97 b && leb b 122)) e)

number_proper : (z : ℤ) → Within z → Inside (signed_decimal z)
number_proper (pos n) h = let l : n < 2 ^ 64 = omega (arith, ints, h.1) in inr (λ e. omega (arith, ap length e, decimal_nonempty n l), decimal_plain n l)
number_proper (negsuc n) h = let l : suc n < 2 ^ 64 = omega (arith, ints, h.0) in inr (λ e. let z : ◌≡◌ {A = ℕ} 0 1 = cc in omega arith, (refl, decimal_plain (suc n) l))

name_proper : (t : Text) → NameForm t → Inside t
name_proper t h = inr (λ e. omega (arith, ap length e, h.some), All-weaker (λ b. letter_or_digit b ≡ true) (λ b. kind_of b ≡ Plain) letter_plain t h.plain)

variable_proper : (x : Variable) → Inside (variable_text x)
variable_proper Outer = inr ((λ e. let z : ◌≡◌ {A = ℕ} 0 1 = cc in omega arith), (refl, tt))
variable_proper Inner = inr ((λ e. let z : ◌≡◌ {A = ℕ} 0 1 = cc in omega arith), (refl, tt))

quantifier_proper : (x : Quantifier) → Inside (quantifier_text x)
quantifier_proper ForAll = inr ((λ e. let z : ◌≡◌ {A = ℕ} 0 1 = cc in omega arith), (refl, (refl, (refl, tt))))
quantifier_proper Exists = inr ((λ e. let z : ◌≡◌ {A = ℕ} 0 1 = cc in omega arith), (refl, (refl, (refl, (refl, tt)))))

opening_proper : (x : Quantifier) → Inside (opening_text x)
opening_proper ForAll = inr ((λ e. let z : ◌≡◌ {A = ℕ} 0 1 = cc in omega arith), (refl, (refl, (refl, (refl, (refl, (refl, (refl, (refl, tt)))))))))
opening_proper Exists = inr ((λ e. let z : ◌≡◌ {A = ℕ} 0 1 = cc in omega arith), (refl, (refl, (refl, (refl, (refl, (refl, (refl, (refl, (refl, tt))))))))))

kind_proper : (x : VariableKind) → Inside (kind_text x)
kind_proper Component = inr ((λ e. let z : ◌≡◌ {A = ℕ} 0 1 = cc in omega arith), (refl, (refl, (refl, (refl, tt)))))
kind_proper Provided = inr ((λ e. let z : ◌≡◌ {A = ℕ} 0 1 = cc in omega arith), (refl, (refl, (refl, (refl, tt)))))
kind_proper Required = inr ((λ e. let z : ◌≡◌ {A = ℕ} 0 1 = cc in omega arith), (refl, (refl, (refl, tt))))
kind_proper Parameter = inr ((λ e. let z : ◌≡◌ {A = ℕ} 0 1 = cc in omega arith), (refl, (refl, (refl, tt))))

lit_name : Inside (codes "name")
lit_name = inr ((λ e. let z : ◌≡◌ {A = ℕ} 0 1 = cc in omega arith), (refl, (refl, (refl, (refl, tt)))))

lit_in : Inside (codes "in")
lit_in = inr ((λ e. let z : ◌≡◌ {A = ℕ} 0 1 = cc in omega arith), (refl, (refl, tt)))

lit_bound : Inside (codes "bound")
lit_bound = inr ((λ e. let z : ◌≡◌ {A = ℕ} 0 1 = cc in omega arith), (refl, (refl, (refl, (refl, (refl, tt))))))

lit_child : Inside (codes "child")
lit_child = inr ((λ e. let z : ◌≡◌ {A = ℕ} 0 1 = cc in omega arith), (refl, (refl, (refl, (refl, (refl, tt))))))

lit_same : Inside (codes "same")
lit_same = inr ((λ e. let z : ◌≡◌ {A = ℕ} 0 1 = cc in omega arith), (refl, (refl, (refl, (refl, tt)))))

lit_up : Inside (codes "up")
lit_up = inr ((λ e. let z : ◌≡◌ {A = ℕ} 0 1 = cc in omega arith), (refl, (refl, tt)))

lit_atmost : Inside (codes "atmost")
lit_atmost = inr ((λ e. let z : ◌≡◌ {A = ℕ} 0 1 = cc in omega arith), (refl, (refl, (refl, (refl, (refl, (refl, tt)))))))

lit_v : Inside (codes "v")
lit_v = inr ((λ e. let z : ◌≡◌ {A = ℕ} 0 1 = cc in omega arith), (refl, tt))

lit_w : Inside (codes "w")
lit_w = inr ((λ e. let z : ◌≡◌ {A = ℕ} 0 1 = cc in omega arith), (refl, tt))

sign_open : Inside (codes "(")
sign_open = inl (40, refl, refl)

sign_close : Inside (codes ")")
sign_close = inl (41, refl, refl)

sign_not : Inside (codes "!")
sign_not = inl (33, refl, refl)

sign_and : Inside (codes "&")
sign_and = inl (38, refl, refl)

sign_or : Inside (codes "|")
sign_or = inl (124, refl, refl)

sign_colon : Inside (codes ":")
sign_colon = inl (58, refl, refl)

test_proper : (sc : _) (t : Test) (p : List Text) → TestSays sc t p → AllByRecursion Inside p
test_proper sc (tests.Named x n) p h = subst (AllByRecursion Inside) (sym h.4) (lit_name, (variable_proper x, (name_proper h.0 h.1, tt)))
test_proper sc (tests.OwnerNamed x n) p h = subst (AllByRecursion Inside) (sym h.4) (lit_in, (variable_proper x, (name_proper h.0 h.1, tt)))
test_proper sc (tests.Bound x y) p h = subst (AllByRecursion Inside) (sym h.2) (lit_bound, (variable_proper x, (variable_proper y, tt)))
test_proper sc (tests.Child x y) p h = subst (AllByRecursion Inside) (sym h.2) (lit_child, (variable_proper x, (variable_proper y, tt)))
test_proper sc (tests.Same x y) p h = subst (AllByRecursion Inside) (sym h.2) (lit_same, (variable_proper x, (variable_proper y, tt)))
test_proper sc (tests.Up x) p h = subst (AllByRecursion Inside) (sym h.1) (lit_up, (variable_proper x, tt))
test_proper sc (tests.AtMostNumber x z) p h = subst (AllByRecursion Inside) (sym h.2) (lit_atmost, (variable_proper x, (number_proper z h.1, tt)))
test_proper sc (tests.AtMost x y) p h = subst (AllByRecursion Inside) (sym h.2) (lit_atmost, (variable_proper x, (variable_proper y, tt)))

reads_proper : {sc : _} {l : Level} {n : ℕ} {p : List Text} {f : Form} → Reads sc l n p f → AllByRecursion Inside p
reads_proper {sc} {p = p} (a_test {t = t} h) = test_proper sc t p h
reads_proper (a_group {p = p} r) = (sign_open, All-append Inside p (codes ")" ∷ []) (reads_proper r) (sign_close, tt))
reads_proper (a_plain r) = reads_proper r
reads_proper (a_not r) = (sign_not, reads_proper r)
reads_proper (one_tight r) = reads_proper r
reads_proper (and_tight {p = p} {q = q} r s) = All-append Inside p (codes "&" ∷ q) (reads_proper r) (sign_and, reads_proper s)
reads_proper (one_loose r) = reads_proper r
reads_proper (or_loose {p = p} {q = q} r s) = All-append Inside p (codes "|" ∷ q) (reads_proper r) (sign_or, reads_proper s)

inner_proper : (c : Option Binder) → AllByRecursion Inside (inner_text c)
inner_proper None = tt
inner_proper (Some c) = (quantifier_proper c.quantifier, (lit_w, (sign_colon, (kind_proper c.kind, tt))))

-- the words of a rule are a line
pub rule_lined : (p : List Text) → IsRule p → Lined p
rule_lined p r =
    let b = r.0 in
    let c = r.1 in
    let h = r.3 in
    record {
      front = binder_text b c ++ (codes ":" ∷ h.tests);
      inside = All-append Inside (binder_text b c) (codes ":" ∷ h.tests) (opening_proper b.quantifier, (lit_v, (sign_colon, (kind_proper b.kind, inner_proper c)))) (sign_colon, reads_proper h.reads);
      words = h.words ∙ sym (append_assoc (binder_text b c) (codes ":" ∷ h.tests) (codes "\n" ∷ []));
    }

pub rule_proper : (p : List Text) → IsRule p → AllByRecursion (λ t. (d : Class) × Proper d t) p
rule_proper p r = lined_proper (rule_lined p r)
