-- Lines one after the other: where a line may stand next, and that they are found again.
use Rattle.std.proofs.Common.{◌≡◌, ℕ, ◌+◌, ◌≤◌, List, [], ◌∷◌, ◌++◌, codes, decimal, sym, refl, ap, ◌∙◌, subst, append_assoc, arith}
use Rattle.std.specs.List.{AllByRecursion}
use Rattle.std.proofs.lemmas.List.{append_cancel_left}
use Rattle.std.proofs.ByRecursion.{All-append}
use Rattle.std.proofs.lemmas.Fmt.{decimal_injective}
use Rattle.book_words.specs.declared.bytes.Class.{Class}
use Rattle.book_words.specs.Layout.{Proper}
use Rattle.book_words.proofs.Lining.{Inside, Lined, keyed_inside, same_line, lined_proper}
use Rattle.book_text.specs.Rules.{Text}
use Rattle.book_text.proofs.PropertyLines as property
use Rattle.whole_book.proofs.FormulaLines as formula
use Rattle.whole_book.specs.declared.entries.Listed.{Listed}
use Rattle.whole_book.specs.declared.entries.Head.{Head}
use Rattle.whole_book.specs.declared.entries.Head.TheVariants.{Property, Condition, Formula}
use Rattle.whole_book.specs.Lines.{HeadSays, after, Body, Line}

pub data Goes : Listed → List Text → Listed → Type 0 where
  none : {σ : Listed} → Goes σ [] σ
  line : {σ τ υ : Listed} {l p : List Text} → Line σ l τ → Goes τ p υ → Goes σ (l ++ p) υ

pub goes_on : {σ τ υ : Listed} {p q : List Text} → Goes σ p τ → Goes τ q υ → Goes σ (p ++ q) υ
goes_on none h = h
goes_on {σ} {υ = υ} {q = q} (line {l = l} {p = p} a g) h = subst (λ z. Goes σ z υ) (sym (append_assoc l p q)) (line a (goes_on g h))

-- what the first word of a line announces is settled by the word
pub head_one : (σ : Listed) (h k : Head) (t : Text) → σ.properties ≤ 64 → HeadSays σ h t → HeadSays σ k t → h ≡ k
head_one σ Property Property t s a b = refl
head_one σ Property (Condition n) t s a b = let p = a.3 in let q = b.4 in let z : ◌≡◌ {A = ℕ} 112 104 = cc in absurd (omega arith)
head_one σ Property Formula t s a b = let p = a.3 in let q = b.2 in let z : ◌≡◌ {A = ℕ} 112 102 = cc in absurd (omega arith)
head_one σ (Condition m) Property t s a b = let p = a.4 in let q = b.3 in let z : ◌≡◌ {A = ℕ} 112 104 = cc in absurd (omega arith)
head_one σ (Condition m) (Condition n) t s a b =
    ap Condition (decimal_injective m n (omega (arith, a.3)) (omega (arith, b.3)) (append_cancel_left (codes "hold=") (decimal m) (decimal n) (sym a.4 ∙ b.4)))
head_one σ (Condition m) Formula t s a b = let p = a.4 in let q = b.2 in let z : ◌≡◌ {A = ℕ} 104 102 = cc in absurd (omega arith)
head_one σ Formula Property t s a b = let p = a.2 in let q = b.3 in let z : ◌≡◌ {A = ℕ} 112 102 = cc in absurd (omega arith)
head_one σ Formula (Condition n) t s a b = let p = a.2 in let q = b.4 in let z : ◌≡◌ {A = ℕ} 104 102 = cc in absurd (omega arith)
head_one σ Formula Formula t s a b = refl

head_inside : (σ : Listed) (h : Head) (t : Text) → σ.properties ≤ 64 → HeadSays σ h t → Inside t
head_inside σ Property t s a = subst Inside (sym a.3) (keyed_inside (codes "prop=") (σ.properties + 1) (omega arith) (refl, (refl, (refl, (refl, (refl, tt))))))
head_inside σ (Condition n) t s a = subst Inside (sym a.4) (keyed_inside (codes "hold=") n (omega (arith, a.3)) (refl, (refl, (refl, (refl, (refl, tt))))))
head_inside σ Formula t s a = subst Inside (sym a.2) (keyed_inside (codes "form=") (σ.formulas + 1) (omega (arith, a.1)) (refl, (refl, (refl, (refl, (refl, tt))))))

pub body_lined : (k : ℕ) (h : Head) (q : List Text) → k ≤ 64 → Body k h q → Lined q
body_lined k Property q s b = property.rule_lined q b
body_lined k (Condition n) q s b = record { front = []; inside = tt; words = b }
body_lined k Formula q s b = formula.rule_lined {n = k} (omega arith) q b

line_lined : {σ τ : Listed} {l : List Text} → σ.properties ≤ 64 → Line σ l τ → Lined l
line_lined {σ} s a =
    let b = body_lined σ.properties a.head a.body s a.rest in
    record { front = a.word ∷ b.front; inside = (head_inside σ a.head a.word s a.announced, b.inside); words = a.words ∙ ap (λ z. a.word ∷ z) b.words }

still_few : {σ τ : Listed} {l : List Text} → σ.properties ≤ 64 → Line σ l τ → τ.properties ≤ 64
still_few {σ} s a = subst (λ z. z.properties ≤ 64) (sym a.then) (by a.head a.word a.announced)
  where
    by : (h : Head) (t : Text) → HeadSays σ h t → (after σ h).properties ≤ 64
    by Property t a = omega (arith, a.2)
    by (Condition n) t a = s
    by Formula t a = s

-- a line leads on to one list
one_then : {σ τ υ : Listed} {l m : List Text} → σ.properties ≤ 64 → Line σ l τ → Line σ m υ → l ≡ m → τ ≡ υ
one_then {σ} s a b e =
    let p = sym a.words ∙ e ∙ b.words in
    let w : a.word ≡ b.word = cc in
    a.then ∙ ap (after σ) (head_one σ a.head b.head b.word s (subst (HeadSays σ a.head) w a.announced) b.announced) ∙ sym b.then

-- what follows lines that are known goes on from what they list
cancel : {σ τ υ : Listed} {d y : List Text} → σ.properties ≤ 64 → Goes σ d τ → (x : List Text) → Goes σ y υ → y ≡ d ++ x → Goes τ x υ
cancel {σ} {υ = υ} s none x g e = subst (λ z. Goes σ z υ) e g
cancel s (line {l = l} {p = p} a r) x none e =
    let q = a.words in
    let w : [] ≡ a.word ∷ ((a.body ++ p) ++ x) = e ∙ ap (λ z. (z ++ p) ++ x) a.words in
    let z : ◌≡◌ {A = ℕ} 0 1 = cc in absurd (omega arith)
cancel {υ = υ} s (line {τ = τ} {l = l} {p = p} a r) x (line {τ = τ'} {l = m} {p = q} b g) e =
    let t = same_line (line_lined s b) (line_lined s a) q (p ++ x) (e ∙ append_assoc l p x) in
    cancel (still_few s a) r x (subst (λ z. Goes z q υ) (one_then s b a t.0) g) t.1

pub rest_goes : {σ τ υ : Listed} {d : List Text} → σ.properties ≤ 64 → Goes σ d τ → (x : List Text) → Goes σ (d ++ x) υ → Goes τ x υ
rest_goes s g x h = cancel s g x h refl

-- the words of lines can be laid out
pub lines_proper : {σ τ : Listed} {d : List Text} → σ.properties ≤ 64 → Goes σ d τ → AllByRecursion (λ t. (c : Class) × Proper c t) d
lines_proper s none = tt
lines_proper s (line {l = l} {p = p} a g) = All-append (λ t. (c : Class) × Proper c t) l p (lined_proper (line_lined s a)) (lines_proper (still_few s a) g)
