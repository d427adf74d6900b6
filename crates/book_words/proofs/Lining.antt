-- Lines: words and signs, and then the end of the line.
use Rattle.std.proofs.Common.{◌≡◌, ℕ, ◌+◌, ◌%◌, ◌^◌, ◌<◌, false, cond, ◌||◌, eqb, ◌⊎◌, List, [], ◌∷◌, ◌++◌, length, codes, decimal, sym, refl, ap, ◌∙◌, subst, inl, inr, true≢false, append_assoc, arith, length-append}
use Rattle.std.specs.List.{AllByRecursion}
use Rattle.std.proofs.ByRecursion.{All-append, All-push, All-weaker}
use Rattle.std.proofs.lemmas.Fmt.{decimal_by_steps, decimal_nonempty}
use Rattle.std.proofs.lemmas.Bool.{ne_eqb}
use Rattle.book_words.specs.declared.bytes.ByteKind.TheVariants.{Blank, Newline, Sign as SignByte, Plain}
use Rattle.book_words.specs.declared.bytes.Class.{Class}
use Rattle.book_words.specs.declared.bytes.Class.TheVariants.{Line, Sign, Word}
use Rattle.book_words.specs.Bytes.{kind_of, is_sign}
use Rattle.book_words.specs.Layout.{Proper}
use Rattle.book_words.proofs.Layouts.{not_plain_10}

-- a sign or a word
abbrev pub Inside : List ℕ → Type 0
Inside t = Proper Sign t ⊎ Proper Word t

-- a line: signs and words up to its end
pub record Lined (p : List (List ℕ)) : Type 0 where
  pub front : List (List ℕ)
  pub inside : AllByRecursion Inside front
  pub words : p ≡ front ++ (codes "\n" ∷ [])

plain_from : (b : ℕ) → eqb b 32 ≡ false → eqb b 10 ≡ false → is_sign b ≡ false → kind_of b ≡ Plain
plain_from b p q r = λ i. cond (p i) Blank (cond (q i) Newline (cond (r i) SignByte Plain))

-- bytes above the comma that are no colon and lie outside of the brackets and the bar
pub apart : (b : ℕ) → 44 < b → (b ≡ 58 → ⊥) → (b ≡ 91 → ⊥) → (b ≡ 93 → ⊥) → (b ≡ 124 → ⊥) → kind_of b ≡ Plain
apart b h p q r s =
    plain_from b (ne_eqb b 32 (λ e. omega arith)) (ne_eqb b 10 (λ e. omega arith))
    (λ i. ne_eqb b 40 (λ e. omega arith) i || (ne_eqb b 41 (λ e. omega arith) i || (ne_eqb b 91 q i || (ne_eqb b 93 r i || (ne_eqb b 44 (λ e. omega arith) i || (ne_eqb b 58 p i || (ne_eqb b 33 (λ e. omega arith) i || (ne_eqb b 38 (λ e. omega arith) i || ne_eqb b 124 s i))))))))

digit_plain : (n : ℕ) → n < 10 → kind_of (48 + n) ≡ Plain
digit_plain n h = apart (48 + n) (omega arith) (λ z. omega arith) (λ z. omega arith) (λ z. omega arith) (λ z. omega arith)

pub decimal_plain : (n : ℕ) → n < 2 ^ 64 → AllByRecursion (λ b. kind_of b ≡ Plain) (decimal n)
decimal_plain n h =
    decimal_by_steps (λ n ds. AllByRecursion (λ b. kind_of b ≡ Plain) ds)
    (λ n l. (digit_plain n l, tt))
    (λ n ds l a. All-push (λ b. kind_of b ≡ Plain) ds (48 + n % 10) a (digit_plain (n % 10) (omega arith)))
    n h

-- a number is a word
pub decimal_inside : (n : ℕ) → n < 2 ^ 64 → Inside (decimal n)
decimal_inside n l = inr (λ e. omega (arith, ap length e, decimal_nonempty n l), decimal_plain n l)

-- and so is one behind some plain bytes
pub keyed_inside : (key : List ℕ) (n : ℕ) → n < 2 ^ 64 → AllByRecursion (λ b. kind_of b ≡ Plain) key → Inside (key ++ decimal n)
keyed_inside key n l h = inr (λ e. omega (arith, ap length e, length-append key (decimal n), decimal_nonempty n l), All-append (λ b. kind_of b ≡ Plain) key (decimal n) h (decimal_plain n l))

-- bytes of which each is plain, by a test that computes
pub word_proper : (b : ℕ) (t : List ℕ) → AllByRecursion (λ b. kind_of b ≡ Plain) (b ∷ t) → Proper Word (b ∷ t)
word_proper b t h = ((λ e. let z : ◌≡◌ {A = ℕ} 0 1 = cc in omega arith), h)

-- a word by its bytes, of which each is plain
pub word_inside : (b : ℕ) (t : List ℕ) → AllByRecursion (λ b. kind_of b ≡ Plain) (b ∷ t) → Inside (b ∷ t)
word_inside b t h = inr (word_proper b t h)

-- a sign or a word does not end a line
pub inside_not : (t : List ℕ) → Inside t → t ≡ codes "\n" → ⊥
inside_not t (inl h) e = let q = h.2 in let b : 10 ≡ h.0 = cc in true≢false (sym h.1 ∙ ap is_sign (sym b))
inside_not [] (inr h) e = h.0 refl
inside_not (b ∷ t) (inr h) e = let q : b ≡ 10 = cc in not_plain_10 (subst (λ z. kind_of z ≡ Plain) q h.1.0)

-- what has no line's end, and then one, is found again
pub one_end : (f g x y : List (List ℕ)) → AllByRecursion (λ t. t ≡ codes "\n" → ⊥) f → AllByRecursion (λ t. t ≡ codes "\n" → ⊥) g → f ++ (codes "\n" ∷ x) ≡ g ++ (codes "\n" ∷ y) → (f ≡ g) × (x ≡ y)
one_end [] [] x y h k e = (refl, cc)
one_end [] (t ∷ g) x y h k e = absurd (k.0 (cc))
one_end (t ∷ f) [] x y h k e = absurd (h.0 (cc))
one_end (t ∷ f) (u ∷ g) x y h k e =
    let p : t ≡ u = cc in
    let q : f ++ (codes "\n" ∷ x) ≡ g ++ (codes "\n" ∷ y) = cc in
    let r = one_end f g x y h.1 k.1 q in
    (λ i. p i ∷ r.0 i, r.1)

pub front_clear : {p : List (List ℕ)} (l : Lined p) → AllByRecursion (λ t. t ≡ codes "\n" → ⊥) l.front
front_clear l = All-weaker Inside (λ t. t ≡ codes "\n" → ⊥) inside_not l.front l.inside

pub end_apart : (f x : List (List ℕ)) → (f ++ (codes "\n" ∷ [])) ++ x ≡ f ++ (codes "\n" ∷ x)
end_apart f x = append_assoc f (codes "\n" ∷ []) x

-- two lines at the start of the same words are one
pub same_line : {p q : List (List ℕ)} → Lined p → Lined q → (x y : List (List ℕ)) → p ++ x ≡ q ++ y → (p ≡ q) × (x ≡ y)
same_line {p} {q} l m x y e =
    let e' = sym (ap (λ z. z ++ x) l.words ∙ end_apart l.front x) ∙ e ∙ ap (λ z. z ++ y) m.words ∙ end_apart m.front y in
    let r = one_end l.front m.front x y (front_clear l) (front_clear m) e' in
    (l.words ∙ ap (λ z. z ++ (codes "\n" ∷ [])) r.0 ∙ sym m.words, r.1)

inside_proper : (t : List ℕ) → Inside t → (d : Class) × Proper d t
inside_proper t (inl h) = (Sign, h)
inside_proper t (inr h) = (Word, h)

-- the words of a line can be laid out
pub lined_proper : {p : List (List ℕ)} → Lined p → AllByRecursion (λ t. (d : Class) × Proper d t) p
lined_proper l =
    let P : List ℕ → Type 0 = λ t. (d : Class) × Proper d t in
    subst (AllByRecursion P) (sym l.words) (All-append P l.front (codes "\n" ∷ []) (All-weaker Inside P inside_proper l.front l.inside) ((Line, refl), tt))
