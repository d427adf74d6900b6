-- The tokens that a text was cut into are laid out in it, and no others are.
use Rattle.std.proofs.Common.{◌≡◌, ℕ, ◌+◌, ◌-◌, ◌<◌, ◌⊎◌, List, [], ◌∷◌, ◌++◌, length, get_or, take, drop, sym, refl, ap, ◌∙◌, subst, inl, inr, ⊎_elim, append_assoc, append-nil, arith, take-append-drop}
use Rattle.std.proofs.lemmas.List.{take_all, drop_more, drop_all}
use Rattle.std.proofs.lemmas.Bool.{cases_lt}
use Rattle.book_words.specs.declared.bytes.Class.{Class}
use Rattle.book_words.specs.declared.bytes.Class.TheVariants.{Line, Sign, Word}
use Rattle.book_words.specs.declared.tokens.Token.{Token}
use Rattle.book_words.specs.declared.tokens.Found.{Found}
use Rattle.book_words.specs.Cuts.{part, words_of, Stands, Cut, start, next, Misplaced}
use Rattle.book_words.specs.Layout.{Laid, none, more, Stays}
use Rattle.book_words.proofs.Layouts.{first_token, gap_stays, not_plain_32, no_first_blank, no_two_blanks, no_last_blank, no_blank_at_end}
use Rattle.book_words.proofs.Parting.{part_join}

pub words_more : (ts us : List Token) → words_of (ts ++ us) ≡ words_of ts ++ words_of us
words_more [] us = refl
words_more (t ∷ ts) us = ap (λ z. t.word.now ∷ z) (words_more ts us)

pub front : (s : List ℕ) (e : ℕ) → part s 0 e ≡ take e s
front s e = let n : e - 0 ≡ e = omega arith in ap (λ i. take i s) n

-- the bytes up to the end of a token
pub up_to : (s : List ℕ) (i : ℕ) (c : Class) (x : Found) → Stands s i c x → take x.end s ≡ take i s ++ (part s i x.token.at ++ part s x.token.at x.end)
up_to s i c x t =
    sym (front s x.end)
    ∙ part_join s 0 i x.end (omega arith) (omega (arith, t.behind, t.ahead))
    ∙ (λ j. front s i j ++ part_join s i x.token.at x.end t.behind (omega (arith, t.ahead)) j)

joined : (s : List ℕ) (i : ℕ) (c : Class) (x : Found) (r : List ℕ) → Stands s i c x → take x.end s ++ r ≡ take i s ++ (part s i x.token.at ++ (part s x.token.at x.end ++ r))
joined s i c x r t =
    let g = part s i x.token.at in
    let w = part s x.token.at x.end in
    ap (λ z. z ++ r) (up_to s i c x t) ∙ append_assoc (take i s) (g ++ w) r ∙ ap (λ z. take i s ++ z) (append_assoc g w r)

pub one_more : (ts : List Token) (x : Token) (u : List (List ℕ)) → words_of (ts ++ (x ∷ [])) ++ u ≡ words_of ts ++ (x.word.now ∷ u)
one_more ts x u = ap (λ z. z ++ u) (words_more ts (x ∷ [])) ∙ append_assoc (words_of ts) (x.word.now ∷ []) u

-- what is laid out behind the tokens is laid out with them
pub laid_on : {s : List ℕ} {ts : List Token} {i : ℕ} {c : Class} → Cut s ts i c → {p : List (List ℕ)} {r : List ℕ} → Laid c p r → Laid Line (words_of ts ++ p) (take i s ++ r)
laid_on start l = l
laid_on {s} (next {ts = ts} {i = i} {c = c} {x = x} k t) {p} {r} l =
    let g = part s i x.token.at in
    let w = part s x.token.at x.end in
    let m = laid_on k (more x.class g w t.proper t.gap l) in
    subst (λ z. Laid Line z (take x.end s ++ r)) (ap (λ z. words_of ts ++ (z ∷ p)) (sym t.word) ∙ sym (one_more ts x.token p))
    (subst (λ z. Laid Line (words_of ts ++ (w ∷ p)) z) (sym (joined s i c x r t)) m)

-- and whatever is laid out in a text that begins so begins with them
pub begins : {s : List ℕ} {ts : List Token} {i : ℕ} {c : Class} → Cut s ts i c → (p : List (List ℕ)) (r : List ℕ) → Stays c r → Laid Line p (take i s ++ r) → (u : List (List ℕ)) × (p ≡ words_of ts ++ u) × Laid c u r
begins start p r h l = (p, refl, l)
begins {s} (next {ts = ts} {i = i} {c = c} {x = x} k t) p r h l =
    let g = part s i x.token.at in
    let w = part s x.token.at x.end in
    let b = begins k p (g ++ (w ++ r)) (gap_stays c x.class g w r t.proper t.gap) (subst (Laid Line p) (joined s i c x r t) l) in
    let f = first_token b.2 x.class g w r t.proper t.gap h refl in
    (f.0, b.1 ∙ ap (λ z. words_of ts ++ z) (f.1 ∙ ap (λ z. z ∷ f.0) (sym t.word)) ∙ sym (one_more ts x.token f.0), f.2)

pub whole : {s : List ℕ} {ts : List Token} {i : ℕ} {c : Class} → Cut s ts i c → i ≡ length s → Laid Line (words_of ts) s
whole {s} {ts} {i} k e =
    subst (λ z. Laid Line z s) (append-nil (words_of ts))
    (subst (λ z. Laid Line (words_of ts ++ []) z) (append-nil (take i s) ∙ take_all i s (omega arith)) (laid_on k none))

rest_blank : (s : List ℕ) (i b : ℕ) → i < length s → get_or s i 0 ≡ b → drop i s ≡ b ∷ drop (i + 1) s
rest_blank s i b h e = drop_more s i 0 h ∙ ap (λ z. z ∷ drop (i + 1) s) e

pub blank_stays : (c : Class) (x : List ℕ) → Stays c (32 ∷ x)
blank_stays Line x = tt
blank_stays Sign x = tt
blank_stays Word x = not_plain_32

-- behind a misplaced blank nothing is laid out
pub misplaced_stops : (c : Class) (s : List ℕ) (i : ℕ) (u : List (List ℕ)) → Misplaced c s i → Laid c u (drop i s) → ⊥
misplaced_stops Line s i u m l = no_first_blank (drop (i + 1) s) (subst (Laid Line u) (rest_blank s i 32 m.0 m.1) l)
misplaced_stops Sign s i u m l =
    let k = subst (Laid Sign u) (rest_blank s i 32 m.0 m.1) l in
    ⊎_elim
    (λ h. no_two_blanks (drop (i + 1 + 1) s) (subst (λ z. Laid Sign u (32 ∷ z)) (rest_blank s (i + 1) 32 h (m.2 h)) k))
    (λ h. no_last_blank (subst (λ z. Laid Sign u (32 ∷ z)) (drop_all (i + 1) s h) k))
    (cases_lt (i + 1) (length s))
misplaced_stops Word s i u m l =
    let k = subst (Laid Word u) (rest_blank s i 32 m.0 m.1) l in
    ⊎_elim
    (λ h. ⊎_elim
    (λ e. no_two_blanks (drop (i + 1 + 1) s) (subst (λ z. Laid Word u (32 ∷ z)) (rest_blank s (i + 1) 32 h e) k))
    (λ e. no_blank_at_end (drop (i + 1 + 1) s) (subst (λ z. Laid Word u (32 ∷ z)) (rest_blank s (i + 1) 10 h e) k))
    (m.2 h))
    (λ h. no_last_blank (subst (λ z. Laid Word u (32 ∷ z)) (drop_all (i + 1) s h) k))
    (cases_lt (i + 1) (length s))

misplaced_blank : (c : Class) (s : List ℕ) (i : ℕ) → Misplaced c s i → drop i s ≡ 32 ∷ drop (i + 1) s
misplaced_blank Line s i m = rest_blank s i 32 m.0 m.1
misplaced_blank Sign s i m = rest_blank s i 32 m.0 m.1
misplaced_blank Word s i m = rest_blank s i 32 m.0 m.1

pub broken : {s : List ℕ} {ts : List Token} {i : ℕ} {c : Class} → Cut s ts i c → Misplaced c s i → (p : List (List ℕ)) → Laid Line p s → ⊥
broken {s} {ts} {i} {c} k m p l =
    let b = begins k p (drop i s) (subst (Stays c) (sym (misplaced_blank c s i m)) (blank_stays c (drop (i + 1) s))) (subst (Laid Line p) (sym (take-append-drop i s)) l) in
    misplaced_stops c s i b.0 m b.2

pub broken_short : {s : List ℕ} {ts : List Token} {i : ℕ} {c : Class} → Cut s ts i c → (i ≡ length s) ⊎ Misplaced c s i → i < length s → (p : List (List ℕ)) → Laid Line p s → ⊥
broken_short k (inl e) h p l = omega arith
broken_short k (inr m) h p l = broken k m p l
