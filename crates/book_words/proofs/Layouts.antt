-- A text is laid out in one way: its tokens are found again.
use Rattle.std.proofs.Common.{◌≡◌, ℕ, Bool, true, false, cond, eqb, List, [], ◌∷◌, ◌++◌, sym, refl, ap, ◌∙◌, subst, inl, inr, ⊎_elim, true≢false, arith}
use Rattle.std.specs.List.{AllByRecursion}
use Rattle.book_words.specs.declared.bytes.ByteKind.TheVariants.{Blank, Newline, Sign as SignByte, Plain}
use Rattle.book_words.specs.declared.bytes.Class.{Class}
use Rattle.book_words.specs.declared.bytes.Class.TheVariants.{Line, Sign, Word}
use Rattle.book_words.specs.Bytes.{kind_of, is_sign}
use Rattle.book_words.specs.Layout.{Proper, AtMostBlank, Gap, Laid, none, more, Stays}

pub at_most : (c d : Class) (g : List ℕ) → Gap c d g → AtMostBlank g
at_most Line d g h = inl h
at_most Sign d g h = h
at_most Word Line g h = inl h
at_most Word Sign g h = h
at_most Word Word g h = inr h

pub not_sign : (b : ℕ) → kind_of b ≡ Plain → is_sign b ≡ true → ⊥
not_sign b k e = by (eqb b 32) (eqb b 10) (is_sign b) k e
  where
    by : (x y z : Bool) → cond x Blank (cond y Newline (cond z SignByte Plain)) ≡ Plain → z ≡ true → ⊥
    by true y z h e = let q : ◌≡◌ {A = ℕ} 0 1 = cc in omega arith
    by false true z h e = let q : ◌≡◌ {A = ℕ} 0 1 = cc in omega arith
    by false false true h e = let q : ◌≡◌ {A = ℕ} 0 1 = cc in omega arith
    by false false false h e = true≢false (sym e)

pub not_plain_32 : kind_of 32 ≡ Plain → ⊥
not_plain_32 h = let q : ◌≡◌ {A = ℕ} 0 1 = cc in omega arith

pub not_plain_10 : kind_of 10 ≡ Plain → ⊥
not_plain_10 h = let q : ◌≡◌ {A = ℕ} 0 1 = cc in omega arith

-- a token is not empty and does not begin with a blank
pub proper_some : (d : Class) (t : List ℕ) → Proper d t → t ≡ [] → ⊥
proper_some Line t h e = let q : ◌≡◌ {A = ℕ} 0 1 = cc in omega arith
proper_some Sign t h e = let k = h.2 in let q : ◌≡◌ {A = ℕ} 0 1 = cc in omega arith
proper_some Word t h e = h.0 e

not_blank : (d : Class) (b : ℕ) (t : List ℕ) → Proper d (b ∷ t) → b ≡ 32 → ⊥
not_blank Line b t h e = let q : ◌≡◌ {A = ℕ} 10 32 = cc in omega arith
not_blank Sign b t h e = let k = h.2 in let q : h.0 ≡ 32 = cc in true≢false (sym h.1 ∙ ap is_sign q)
not_blank Word b t h e = not_plain_32 (subst (λ z. kind_of z ≡ Plain) e h.1.0)

-- a word ends where the next token stands
pub gap_stays : (c d : Class) (g t z : List ℕ) → Proper d t → Gap c d g → Stays c (g ++ (t ++ z))
gap_stays Line d g t z h k = tt
gap_stays Sign d g t z h k = tt
gap_stays Word Line g t z h k = subst (Stays Word) (λ i. sym k i ++ (sym h i ++ z)) not_plain_10
gap_stays Word Sign g t z h k =
    ⊎_elim
    (λ e. subst (Stays Word) (λ i. sym e i ++ (sym h.2 i ++ z)) (λ q. not_sign h.0 q h.1))
    (λ e. subst (Stays Word) (λ i. sym e i ++ (t ++ z)) not_plain_32) k
gap_stays Word Word g t z h k = subst (Stays Word) (λ i. sym k i ++ (t ++ z)) not_plain_32

pub laid_stays : (c : Class) {p : List (List ℕ)} {s : List ℕ} → Laid c p s → Stays c s
laid_stays Line none = tt
laid_stays Sign none = tt
laid_stays Word none = tt
laid_stays c (more d g t {s = z} h k l) = gap_stays c d g t z h k

-- two words at the start of one text are one
one_word : (t u r s : List ℕ) → AllByRecursion (λ b. kind_of b ≡ Plain) t → AllByRecursion (λ b. kind_of b ≡ Plain) u → Stays Word r → Stays Word s → t ++ r ≡ u ++ s → (t ≡ u) × (r ≡ s)
one_word [] [] r s h k x y e = (refl, e)
one_word [] (b ∷ u) r s h k x y e = absurd (subst (Stays Word) e x k.0)
one_word (b ∷ t) [] r s h k x y e = absurd (subst (Stays Word) (sym e) y h.0)
one_word (b ∷ t) (c ∷ u) r s h k x y e =
    let p : b ≡ c = cc in
    let q : t ++ r ≡ u ++ s = cc in
    let w = one_word t u r s h.1 k.1 x y q in
    (λ i. p i ∷ w.0 i, w.1)

record SameToken (d d' : Class) (t t' r r' : List ℕ) : Type 0 where
  class : d ≡ d'
  word : t ≡ t'
  rest : r ≡ r'

one_token : (d d' : Class) (t t' r r' : List ℕ) → Proper d t → Proper d' t' → Stays d r → Stays d' r' → t ++ r ≡ t' ++ r' → SameToken d d' t t' r r'
one_token Line Line t t' r r' h k x y e = let q = sym (ap (λ z. z ++ r) h) ∙ e ∙ ap (λ z. z ++ r') k in record { class = refl; word = h ∙ sym k; rest = cc }
one_token Sign Sign t t' r r' h k x y e =
    let q = sym (ap (λ z. z ++ r) h.2) ∙ e ∙ ap (λ z. z ++ r') k.2 in
    let b : h.0 ≡ k.0 = cc in
    record { class = refl; word = h.2 ∙ ap (λ z. z ∷ []) b ∙ sym k.2; rest = cc }
one_token Word Word t t' r r' h k x y e = let w = one_word t t' r r' h.1 k.1 x y e in record { class = refl; word = w.0; rest = w.1 }
one_token Line Sign t t' r r' h k x y e =
    let q = sym (ap (λ z. z ++ r) h) ∙ e ∙ ap (λ z. z ++ r') k.2 in
    let b : 10 ≡ k.0 = cc in absurd (true≢false (sym k.1 ∙ ap is_sign (sym b)))
one_token Sign Line t t' r r' h k x y e =
    let q = sym (ap (λ z. z ++ r) h.2) ∙ e ∙ ap (λ z. z ++ r') k in
    let b : h.0 ≡ 10 = cc in absurd (true≢false (sym h.1 ∙ ap is_sign b))
one_token Line Word t [] r r' h k x y e = absurd (k.0 refl)
one_token Line Word t (b ∷ t') r r' h k x y e =
    let q = sym (ap (λ z. z ++ r) h) ∙ e in
    let w : b ≡ 10 = cc in absurd (not_plain_10 (subst (λ z. kind_of z ≡ Plain) w k.1.0))
one_token Word Line [] t' r r' h k x y e = absurd (h.0 refl)
one_token Word Line (b ∷ t) t' r r' h k x y e =
    let q = e ∙ ap (λ z. z ++ r') k in
    let w : b ≡ 10 = cc in absurd (not_plain_10 (subst (λ z. kind_of z ≡ Plain) w h.1.0))
one_token Sign Word t [] r r' h k x y e = absurd (k.0 refl)
one_token Sign Word t (b ∷ t') r r' h k x y e =
    let q = sym (ap (λ z. z ++ r) h.2) ∙ e in
    let w : h.0 ≡ b = cc in absurd (not_sign b k.1.0 (subst (λ z. is_sign z ≡ true) w h.1))
one_token Word Sign [] t' r r' h k x y e = absurd (h.0 refl)
one_token Word Sign (b ∷ t) t' r r' h k x y e =
    let q = e ∙ ap (λ z. z ++ r') k.2 in
    let w : k.0 ≡ b = cc in absurd (not_sign b h.1.0 (subst (λ z. is_sign z ≡ true) w k.1))

pub blank_first : (d : Class) (t r x : List ℕ) → Proper d t → t ++ r ≡ 32 ∷ x → ⊥
blank_first d [] r x h e = proper_some d [] h refl
blank_first d (b ∷ t) r x h e = let q : b ≡ 32 = cc in not_blank d b t h q

one_gap : (d d' : Class) (g g' t t' r r' : List ℕ) → AtMostBlank g → AtMostBlank g' → Proper d t → Proper d' t' → g ++ (t ++ r) ≡ g' ++ (t' ++ r') → t ++ r ≡ t' ++ r'
one_gap d d' g g' t t' r r' (inl a) (inl b) h k e = sym (ap (λ z. z ++ (t ++ r)) a) ∙ e ∙ ap (λ z. z ++ (t' ++ r')) b
one_gap d d' g g' t t' r r' (inl a) (inr b) h k e = absurd (blank_first d t r (t' ++ r') h (sym (ap (λ z. z ++ (t ++ r)) a) ∙ e ∙ ap (λ z. z ++ (t' ++ r')) b))
one_gap d d' g g' t t' r r' (inr a) (inl b) h k e = absurd (blank_first d' t' r' (t ++ r) k (sym (sym (ap (λ z. z ++ (t ++ r)) a) ∙ e ∙ ap (λ z. z ++ (t' ++ r')) b)))
one_gap d d' g g' t t' r r' (inr a) (inr b) h k e = let q = sym (ap (λ z. z ++ (t ++ r)) a) ∙ e ∙ ap (λ z. z ++ (t' ++ r')) b in cc

pub append_some : (g t r : List ℕ) → (t ≡ [] → ⊥) → [] ≡ g ++ (t ++ r) → ⊥
append_some [] [] r h e = h refl
append_some [] (b ∷ t) r h e = let q : ◌≡◌ {A = ℕ} 0 1 = cc in omega arith
append_some (b ∷ g) t r h e = let q : ◌≡◌ {A = ℕ} 0 1 = cc in omega arith

-- a token that stands first is the first of the tokens that are laid out
pub first_token : {c : Class} {p : List (List ℕ)} {s : List ℕ} → Laid c p s → (d : Class) (g t r : List ℕ) → Proper d t → Gap c d g → Stays d r → s ≡ g ++ (t ++ r) → (u : List (List ℕ)) × (p ≡ t ∷ u) × Laid d u r
first_token none d g t r h k x e = absurd (append_some g t r (proper_some d t h) e)
first_token {c} (more d' g' t' {s = r'} {p = q} h' k' l) d g t r h k x e =
    let w = one_token d' d t' t r' r h' h (laid_stays d' l) x (one_gap d' d g' g t' t r' r (at_most c d' g' k') (at_most c d g k) h' h e) in
    (q, ap (λ z. z ∷ q) w.word, subst (λ z. Laid z q r) w.class (subst (λ z. Laid d' q z) w.rest l))

-- any tokens can be laid out
pub lay : (c : Class) (p : List (List ℕ)) → AllByRecursion (λ t. (d : Class) × Proper d t) p → (s : List ℕ) × Laid c p s
lay c [] h = ([], none)
lay c (t ∷ p) h =
    let d = h.0.0 in
    let r = lay d p h.1 in
    let g = some_gap c d in
    (g.0 ++ (t ++ r.0), more d g.0 t h.0.1 g.1 r.1)
  where
    some_gap : (c d : Class) → (g : List ℕ) × Gap c d g
    some_gap Line d = ([], refl)
    some_gap Sign d = ([], inl refl)
    some_gap Word Line = ([], refl)
    some_gap Word Sign = ([], inl refl)
    some_gap Word Word = (32 ∷ [], refl)

-- where a blank is misplaced nothing is laid out
blank_stops : {c : Class} {p : List (List ℕ)} {s : List ℕ} → Laid c p s → (x : List ℕ) → s ≡ 32 ∷ x → (d : Class) × (t z : List ℕ) × Gap c d (32 ∷ []) × Proper d t × (x ≡ t ++ z)
blank_stops none x e = let q : ◌≡◌ {A = ℕ} 0 1 = cc in absurd (omega arith)
blank_stops {c} (more d g t {s = z} h k l) x e =
    ⊎_elim
    (λ a. absurd (blank_first d t z x h (sym (ap (λ y. y ++ (t ++ z)) a) ∙ e)))
    (λ b. let q = sym (ap (λ y. y ++ (t ++ z)) b) ∙ e in (d, t, z, subst (Gap c d) b k, h, cc))
    (at_most c d g k)

line_gap : (d : Class) → Gap Line d (32 ∷ []) → ⊥
line_gap d e = let q : ◌≡◌ {A = ℕ} 0 1 = cc in omega arith

word_line_gap : Gap Word Line (32 ∷ []) → ⊥
word_line_gap e = let q : ◌≡◌ {A = ℕ} 0 1 = cc in omega arith

-- a blank at the start of a line
pub no_first_blank : {p : List (List ℕ)} (x : List ℕ) → Laid Line p (32 ∷ x) → ⊥
no_first_blank x l = let r = blank_stops l x refl in line_gap r.0 r.3

-- a second blank
pub no_two_blanks : {c : Class} {p : List (List ℕ)} (x : List ℕ) → Laid c p (32 ∷ 32 ∷ x) → ⊥
no_two_blanks x l = let r = blank_stops l (32 ∷ x) refl in blank_first r.0 r.1 r.2 x r.4 (sym r.5)

-- a blank at the end of the text
pub no_last_blank : {c : Class} {p : List (List ℕ)} → Laid c p (32 ∷ []) → ⊥
no_last_blank l = let r = blank_stops l [] refl in append_some [] r.1 r.2 (proper_some r.0 r.1 r.4) r.5

-- a blank between a word and the end of its line
pub no_blank_at_end : {p : List (List ℕ)} (x : List ℕ) → Laid Word p (32 ∷ 10 ∷ x) → ⊥
no_blank_at_end x l = let r = blank_stops l (10 ∷ x) refl in by r.0 r.1 r.2 r.3 r.4 r.5
  where
    by : (d : Class) (t z : List ℕ) → Gap Word d (32 ∷ []) → Proper d t → 10 ∷ x ≡ t ++ z → ⊥
    by Line t z g h e = word_line_gap g
    by Sign t z g h e = let q = e ∙ ap (λ y. y ++ z) h.2 in let b : 10 ≡ h.0 = cc in true≢false (sym h.1 ∙ ap is_sign (sym b))
    by Word [] z g h e = h.0 refl
    by Word (b ∷ t) z g h e = let q : b ≡ 10 = cc in not_plain_10 (subst (λ y. kind_of y ≡ Plain) q h.1.0)
