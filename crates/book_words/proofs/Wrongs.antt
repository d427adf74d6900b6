-- The first wrong word of a text, from the first wrong one among its words.
use Rattle.std.proofs.Common.{◌≡◌, ℕ, ◌+◌, ◌-◌, ◌<◌, ◌≤◌, ◌⊎◌, List, [], ◌∷◌, ◌++◌, length, get_or, take, drop, sym, refl, ap, ◌∙◌, subst, inl, inr, ⊎_elim, true≢false, append_assoc, append-nil, arith, length-append, take-append-drop}
use lib.ListN.{length-map}
use Rattle.std.specs.List.{AllByRecursion}
use Rattle.std.proofs.lemmas.List.{drop_more, drop_all}
use Rattle.std.proofs.lemmas.Bool.{cases_lt}
use Rattle.book_words.specs.declared.bytes.Class.{Class}
use Rattle.book_words.specs.declared.bytes.Class.TheVariants.{Line, Sign, Word}
use Rattle.book_words.specs.declared.tokens.Token.{Token}
use Rattle.book_words.specs.declared.tokens.Found.{Found}
use Rattle.book_words.specs.Cuts.{part, words_of, Stands, Cut, start, next, Misplaced, lack_at, Points, Ended}
use Rattle.book_words.specs.Bytes.{kind_of, is_sign}
use Rattle.book_words.specs.declared.bytes.ByteKind.TheVariants.{Plain}
use Rattle.book_words.specs.Layout.{Proper, AtMostBlank, Laid, none, more, Stays}
use Rattle.book_words.specs.Wrong.{TextOf, FirstWrong, Whole}
use Rattle.book_words.proofs.Layouts.{lay, at_most, not_plain_10, no_first_blank, no_two_blanks, no_last_blank, no_blank_at_end, proper_some, append_some}
use Rattle.book_words.proofs.Finding.{front, one_more, words_more, laid_on, begins, blank_stays}
use Rattle.book_words.proofs.Parting.{part_join, part_one, length_part}

all_behind : (P : List ℕ → Type 0) (p u : List (List ℕ)) → AllByRecursion P (p ++ u) → AllByRecursion P u
all_behind P [] u h = h
all_behind P (t ∷ p) u h = all_behind P p u h.1

up_to_at : (s : List ℕ) (i a : ℕ) → i ≤ a → take a s ≡ take i s ++ part s i a
up_to_at s i a h = sym (front s a) ∙ part_join s 0 i a (omega arith) h ∙ ap (λ z. z ++ part s i a) (front s i)

ended_stays : (d : Class) (s : List ℕ) (e : ℕ) → Ended d s e → Stays d (drop e s)
ended_stays Line s e h = tt
ended_stays Sign s e h = tt
ended_stays Word s e h = ⊎_elim (λ l. subst (Stays Word) (sym (drop_more s e 0 l)) (h l)) (λ l. subst (Stays Word) (sym (drop_all e s l)) tt) (cases_lt e (length s))

whole_token : (d : Class) (w r : List ℕ) → Proper d w → Stays d r → Whole w r
whole_token d [] r h k = absurd (proper_some d [] h refl)
whole_token d (x ∷ w) r h k = (d, h, k)

-- how the front ends
ends_so : (s : List ℕ) (i a : ℕ) → i ≤ a → AtMostBlank (part s i a) → (take a s ≡ take i s) ⊎ (take a s ≡ take i s ++ (32 ∷ []))
ends_so s i a h (inl e) = inl (up_to_at s i a h ∙ ap (λ z. take i s ++ z) e ∙ append-nil (take i s))
ends_so s i a h (inr e) = inr (up_to_at s i a h ∙ ap (λ z. take i s ++ z) e)

none_left : (c : Class) {v : List (List ℕ)} → Laid c v [] → v ≡ []
none_left c l = nothing_laid l refl
  where
    nothing_laid : {c : Class} {v : List (List ℕ)} {s : List ℕ} → Laid c v s → s ≡ [] → v ≡ []
    nothing_laid none e = refl
    nothing_laid (more d g t {s = z} h k l) e = absurd (append_some g t z (proper_some d t h) (sym e))

module _ (L : List (List ℕ) → Type 0) (proper : (p : List (List ℕ)) → L p → AllByRecursion (λ t. (d : Class) × Proper d t) p) where
  -- words that go on to the language are laid out so that the text goes on
  goes_on : {s : List ℕ} {us : List Token} {i : ℕ} {c : Class} → Cut s us i c → (u : List (List ℕ)) → L (words_of us ++ u) → (after : List ℕ) × TextOf L (take i s ++ after)
  goes_on {s} {us} {i} {c} k u l =
      let r = lay c u (all_behind (λ t. (d : Class) × Proper d t) (words_of us) u (proper (words_of us ++ u) l)) in
      (r.0, (words_of us ++ u, l, laid_on k r.1))

  module _ {s : List ℕ} {us : List Token} {i : ℕ} {c : Class} (k : Cut s us i c) where
    -- no text goes on with a token that no words of the language go on with
    no_text : (x : Found) → Stands s i c x → ((u : List (List ℕ)) → L (words_of us ++ (x.token.word.now ∷ u)) → ⊥) → (after : List ℕ) → Stays x.class after → TextOf L (take x.token.at s ++ (part s x.token.at x.end ++ after)) → ⊥
    no_text x t n after h y =
        let a = x.token.at in
        let e = sym (append_assoc (take a s) (part s a x.end) after) ∙ ap (λ z. z ++ after) (sym (up_to_at s a x.end (omega (arith, t.ahead)))) in
        let b = begins (next k t) y.0 after h (subst (Laid Line y.0) e y.2) in
        n b.0 (subst L (b.1 ∙ one_more us x.token b.0) y.1)

    module _ (x : Found) (t : Stands s i c x) (u : List (List ℕ)) (l : L (words_of us ++ u)) (n : (u : List (List ℕ)) → L (words_of us ++ (x.token.word.now ∷ u)) → ⊥) where
      -- a word or a sign
      pub wrong_token : FirstWrong L s x.token.at x.token.word.now
      wrong_token =
          let w = part s x.token.at x.end in
          let g = goes_on k u l in
          let m : length w ≡ x.end - x.token.at = length_part s x.token.at x.end t.inside in
          subst (FirstWrong L s x.token.at) (sym t.word)
          (record {
            inside = omega (arith, m, t.ahead, t.inside);
            word = ap (λ z. take z (drop x.token.at s)) m;
            whole = subst (λ z. Whole w (drop z s)) (omega (arith, m, t.ahead)) (whole_token x.class w (drop x.end s) t.proper (ended_stays x.class s x.end t.ended));
            before = (take i s, g.0, ends_so s i x.token.at t.behind (at_most c x.class (part s i x.token.at) t.gap), g.1);
            never = λ after e h y. no_text x t n after (h x.class t.proper) y;
          })

      -- the end of a line where a word is lacking
      pub wrong_end : x.class ≡ Line → FirstWrong L s x.token.at []
      wrong_end q =
          let w = part s x.token.at x.end in
          let g = goes_on k u l in
          let b : w ≡ 10 ∷ [] = subst (λ d. Proper d w) q t.proper in
          let r = sym (take-append-drop (x.end - x.token.at) (drop x.token.at s)) ∙ ap (λ z. z ++ drop (x.end - x.token.at) (drop x.token.at s)) b in
          record {
            inside = omega (arith, t.ahead, t.inside);
            word = refl;
            whole = subst (λ z. Whole [] (drop z s)) (omega arith) (subst (Whole []) (sym r) (inr refl));
            before = (take i s, g.0, ends_so s i x.token.at t.behind (at_most c x.class (part s i x.token.at) t.gap), g.1);
            never = λ after e h y. ended after (e refl ∙ ap (λ z. take 1 (drop z s)) (omega arith) ∙ ap (take 1) r) y;
          }
        where
          ended : (after : List ℕ) → take 1 after ≡ 10 ∷ [] → TextOf L (take x.token.at s ++ after) → ⊥
          ended [] e y = let z : ◌≡◌ {A = ℕ} 0 1 = cc in omega arith
          ended (b ∷ r) e y =
              let w = subst (λ d. Proper d (part s x.token.at x.end)) q t.proper in
              let v : b ≡ 10 = cc in
              no_text x t n r (subst (λ d. Stays d r) (sym q) tt) (subst (λ z. TextOf L (take x.token.at s ++ z)) (ap (λ z. z ∷ r) v ∙ ap (λ z. z ++ r) (sym w)) y)

    -- the end of the text where a word is lacking
    pub lacking_end : i ≡ length s → (u : List (List ℕ)) → L (words_of us ++ u) → (L (words_of us) → ⊥) → FirstWrong L s i []
    lacking_end q u l n =
        let g = goes_on k u l in
        record {
          inside = omega arith;
          word = refl;
          whole = subst (Whole []) (sym (drop_all (i + 0) s (omega arith))) tt;
          before = (take i s, g.0, inl refl, g.1);
          never = λ after e h y. nothing after (e refl ∙ ap (take 1) (drop_all (i + 0) s (omega arith))) y;
        }
      where
        nothing : (after : List ℕ) → take 1 after ≡ [] → TextOf L (take i s ++ after) → ⊥
        nothing (b ∷ r) e y = let z : ◌≡◌ {A = ℕ} 0 1 = cc in omega arith
        nothing [] e y =
            let b = begins k y.0 [] (no_more c) y.2 in
            n (subst L (b.1 ∙ ap (λ z. words_of us ++ z) (none_left c b.2) ∙ append-nil (words_of us)) y.1)
          where
            no_more : (c : Class) → Stays c []
            no_more Line = tt
            no_more Sign = tt
            no_more Word = tt

    -- a blank at the start of a line
    pub misplaced_first : c ≡ Line → Misplaced Line s i → (u : List (List ℕ)) → L (words_of us ++ u) → FirstWrong L s i []
    misplaced_first q m u l =
        let g = goes_on k u l in
        let r = drop_more s i 0 m.0 in
        record {
          inside = omega (arith, m.0);
          word = refl;
          whole = subst (λ z. Whole [] (drop z s)) (omega arith) (subst (Whole []) (sym r) (inl m.1));
          before = (take i s, g.0, inl refl, g.1);
          never = λ after e h y. stops after (e refl ∙ ap (λ z. take 1 (drop z s)) (omega arith) ∙ ap (take 1) r ∙ ap (λ z. z ∷ []) m.1) y;
        }
      where
        stops : (after : List ℕ) → take 1 after ≡ 32 ∷ [] → TextOf L (take i s ++ after) → ⊥
        stops [] e y = let z : ◌≡◌ {A = ℕ} 0 1 = cc in omega arith
        stops (b ∷ r) e y =
            let v : b ≡ 32 = cc in
            let y' = subst (λ z. Laid Line y.0 (take i s ++ (z ∷ r))) v y.2 in
            let b = begins k y.0 (32 ∷ r) (blank_stays c r) y' in
            no_first_blank r (subst (λ d. Laid d b.0 (32 ∷ r)) q b.2)

    -- a blank that nothing may follow
    pub misplaced_more : (i < length s) → get_or s i 0 ≡ 32 → ((r : List ℕ) (v : List (List ℕ)) → take 1 r ≡ take 1 (drop (i + 1) s) → Laid c v (32 ∷ r) → ⊥) → Whole [] (drop (i + 1) s) → (u : List (List ℕ)) → L (words_of us ++ u) → FirstWrong L s (i + 1) []
    misplaced_more h b m q u l =
        let g = goes_on k u l in
        let f = up_to_at s i (i + 1) (omega arith) ∙ ap (λ z. take i s ++ z) (part_one 0 s i h ∙ ap (λ z. z ∷ []) b) in
        record {
          inside = omega arith;
          word = refl;
          whole = subst (λ z. Whole [] (drop z s)) (omega arith) q;
          before = (take i s, g.0, inr f, g.1);
          never = λ after e _ y.
              let y' = subst (Laid Line y.0) (ap (λ z. z ++ after) f ∙ append_assoc (take i s) (32 ∷ []) after) y.2 in
              let v = begins k y.0 (32 ∷ after) (blank_stays c after) y' in
              m after v.0 (e refl ∙ ap (λ z. take 1 (drop z s)) (omega arith)) v.2;
        }

    one_byte : (r : List ℕ) (b : ℕ) → take 1 r ≡ b ∷ [] → (q : List ℕ) × (r ≡ b ∷ q)
    one_byte [] b e = let z : ◌≡◌ {A = ℕ} 0 1 = cc in absurd (omega arith)
    one_byte (x ∷ r) b e = (r, let v : x ≡ b = cc in ap (λ z. z ∷ r) v)

    no_byte : (r : List ℕ) → take 1 r ≡ [] → r ≡ []
    no_byte [] e = refl
    no_byte (x ∷ r) e = let z : ◌≡◌ {A = ℕ} 0 1 = cc in absurd (omega arith)

    next_byte : i + 1 < length s → take 1 (drop (i + 1) s) ≡ get_or s (i + 1) 0 ∷ []
    next_byte h = ap (take 1) (drop_more s (i + 1) 0 h)

    last_byte : length s ≤ i + 1 → take 1 (drop (i + 1) s) ≡ []
    last_byte h = ap (take 1) (drop_all (i + 1) s h)

    two : (d : Class) (r : List ℕ) (v : List (List ℕ)) → (i + 1 < length s → get_or s (i + 1) 0 ≡ 32) → take 1 r ≡ take 1 (drop (i + 1) s) → Laid d v (32 ∷ r) → ⊥
    two d r v m e l =
        ⊎_elim
        (λ h. let q = one_byte r 32 (e ∙ next_byte h ∙ ap (λ z. z ∷ []) (m h)) in no_two_blanks q.0 (subst (λ z. Laid d v (32 ∷ z)) q.1 l))
        (λ h. no_last_blank (subst (λ z. Laid d v (32 ∷ z)) (no_byte r (e ∙ last_byte h)) l))
        (cases_lt (i + 1) (length s))

    two_or_end : (r : List ℕ) (v : List (List ℕ)) → (i + 1 < length s → (get_or s (i + 1) 0 ≡ 32) ⊎ (get_or s (i + 1) 0 ≡ 10)) → take 1 r ≡ take 1 (drop (i + 1) s) → Laid Word v (32 ∷ r) → ⊥
    two_or_end r v m e l =
        ⊎_elim
        (λ h. ⊎_elim
        (λ b. let q = one_byte r 32 (e ∙ next_byte h ∙ ap (λ z. z ∷ []) b) in no_two_blanks q.0 (subst (λ z. Laid Word v (32 ∷ z)) q.1 l))
        (λ b. let q = one_byte r 10 (e ∙ next_byte h ∙ ap (λ z. z ∷ []) b) in no_blank_at_end q.0 (subst (λ z. Laid Word v (32 ∷ z)) q.1 l))
        (m h))
        (λ h. no_last_blank (subst (λ z. Laid Word v (32 ∷ z)) (no_byte r (e ∙ last_byte h)) l))
        (cases_lt (i + 1) (length s))

    empty_here : (i + 1 < length s → (get_or s (i + 1) 0 ≡ 32) ⊎ (get_or s (i + 1) 0 ≡ 10)) → Whole [] (drop (i + 1) s)
    empty_here m = ⊎_elim (λ h. subst (Whole []) (sym (drop_more s (i + 1) 0 h)) (m h)) (λ h. subst (Whole []) (sym (drop_all (i + 1) s h)) tt) (cases_lt (i + 1) (length s))

    -- a misplaced blank
    pub misplaced : (d : Class) → c ≡ d → Misplaced d s i → (u : List (List ℕ)) → L (words_of us ++ u) → FirstWrong L s (lack_at d i) []
    misplaced Line q m u l = misplaced_first q m u l
    misplaced Sign q m u l = misplaced_more m.0 m.1 (λ r v e y. two c r v m.2 e y) (empty_here (λ h. inl (m.2 h))) u l
    misplaced Word q m u l = misplaced_more m.0 m.1 (λ r v e y. two_or_end r v m.2 e (subst (λ d. Laid d v (32 ∷ r)) q y)) (empty_here m.2) u l

-- the tokens before one of them
pub record At (s : List ℕ) (ts : List Token) (n : ℕ) : Type 0 where
  pub us : List Token
  pub rest : List Token
  pub i : ℕ
  pub c : Class
  pub x : Found
  pub cut : Cut s us i c
  pub stands : Stands s i c x
  pub list : ts ≡ us ++ (x.token ∷ rest)
  pub long : length us ≡ n

pub at_index : {s : List ℕ} {ts : List Token} {i : ℕ} {c : Class} → Cut s ts i c → (n : ℕ) → n < length ts → At s ts n
at_index start n h = absurd (omega arith)
at_index {s} (next {ts = ts} {i = i} {c = c} {x = x} k t) n h =
    ⊎_elim
    (λ l. let r = at_index k n l in record { us = r.us; rest = r.rest ++ (x.token ∷ []); i = r.i; c = r.c; x = r.x; cut = r.cut; stands = r.stands; list = ap (λ z. z ++ (x.token ∷ [])) r.list ∙ append_assoc r.us (r.x.token ∷ r.rest) (x.token ∷ []); long = r.long })
    (λ l. record { us = ts; rest = []; i = i; c = c; x = x; cut = k; stands = t; list = refl; long = omega (arith, length-append ts (x.token ∷ [])) })
    (cases_lt n (length ts))

take_own : {A : Type 0} (us v : List A) → take (length us) (us ++ v) ≡ us
take_own [] v = refl
take_own (u ∷ us) v = ap (λ z. u ∷ z) (take_own us v)

get_d_own : {A : Type 0} (us : List A) (x : A) (v : List A) (d : A) → get_or (us ++ (x ∷ v)) (length us) d ≡ x
get_d_own [] x v d = refl
get_d_own (u ∷ us) x v d = get_d_own us x v d

words_long : (ts : List Token) → length (words_of ts) ≡ length ts
words_long ts = length-map ts (λ t. t.word.now)

-- what the words say at an index
words_at : {s : List ℕ} {ts : List Token} {n : ℕ} (a : At s ts n) (r : Token) → (take n (words_of ts) ≡ words_of a.us) × (get_or (words_of ts) n [] ≡ a.x.token.word.now) × (get_or ts n r ≡ a.x.token)
words_at {s} {ts} {n} a r =
    let x = a.x.token in
    let w = ap words_of a.list ∙ words_more a.us (x ∷ a.rest) in
    let m : length (words_of a.us) ≡ n = words_long a.us ∙ a.long in (
      (λ i. take (sym m i) (w i)) ∙ take_own (words_of a.us) (x.word.now ∷ words_of a.rest),
      (λ i. get_or (w i) (sym m i) []) ∙ get_d_own (words_of a.us) x.word.now (words_of a.rest) [],
      (λ i. get_or (a.list i) (sym a.long i) r) ∙ get_d_own a.us x a.rest r,
    )

not_newline : (d : Class) (t : List ℕ) → Proper d t → (d ≡ Line → ⊥) → t ≡ 10 ∷ [] → ⊥
not_newline Line t h n e = n refl
not_newline Sign t h n e = let q = h.2 in let b : 10 ≡ h.0 = cc in true≢false (sym h.1 ∙ ap is_sign (sym b))
not_newline Word [] h n e = h.0 refl
not_newline Word (b ∷ t) h n e = let q : b ≡ 10 = cc in not_plain_10 (subst (λ z. kind_of z ≡ Plain) q h.1.0)

line_or_not : (d : Class) → (d ≡ Line) ⊎ (d ≡ Line → ⊥)
line_or_not Line = inl refl
line_or_not Sign = inr (λ e. let z : ◌≡◌ {A = ℕ} 0 1 = cc in omega arith)
line_or_not Word = inr (λ e. let z : ◌≡◌ {A = ℕ} 0 1 = cc in omega arith)

module _ (L : List (List ℕ) → Type 0) (proper : (p : List (List ℕ)) → L p → AllByRecursion (λ t. (d : Class) × Proper d t) p) where
  module _ {s : List ℕ} {ts : List Token} {e : ℕ} {c : Class} (k : Cut s ts e c) (r : Token) where
    told_as : (at : ℕ) (w : List ℕ) → r.at ≡ at → r.word.now ≡ w → FirstWrong L s at w → FirstWrong L s r.at r.word.now
    told_as at w p q f = subst (λ z. FirstWrong L s z r.word.now) (sym p) (subst (FirstWrong L s at) (sym q) f)

    -- a word that stands in the text
    pub wrong_inside : (n : ℕ) → n < length ts → Points s ts e c n r → (u : List (List ℕ)) → L (take n (words_of ts) ++ u) → ((u : List (List ℕ)) → L (take n (words_of ts) ++ (get_or (words_of ts) n [] ∷ u)) → ⊥) → FirstWrong L s r.at r.word.now
    wrong_inside n h p u l m =
        let a = at_index k n h in
        let w = words_at a r in
        let t = a.stands in
        let x = a.x in
        let l' = subst (λ z. L (z ++ u)) w.0 l in
        let m' : (v : List (List ℕ)) → L (words_of a.us ++ (x.token.word.now ∷ v)) → ⊥ = λ v y. m v (subst L (λ i. sym w.0 i ++ (sym w.1 i ∷ v)) y) in
        ⊎_elim
        (λ d. let b : x.token.word.now ≡ 10 ∷ [] = t.word ∙ subst (λ z. Proper z (part s x.token.at x.end)) d t.proper in
        told_as x.token.at [] (p.place h ∙ ap (λ z. z.at) w.2) (p.line h (ap (λ z. z.word.now) w.2 ∙ b)) (wrong_end L proper a.cut x t u l' m' d))
        (λ d. told_as x.token.at x.token.word.now (p.place h ∙ ap (λ z. z.at) w.2)
        (p.word h (λ q. not_newline x.class (part s x.token.at x.end) t.proper d (sym t.word ∙ sym (ap (λ z. z.word.now) w.2) ∙ q)) ∙ ap (λ z. z.word.now) w.2)
        (wrong_token L proper a.cut x t u l' m'))
        (line_or_not x.class)

    -- behind the words
    pub wrong_behind : (n : ℕ) → length ts ≤ n → Points s ts e c n r → (e ≡ length s) ⊎ Misplaced c s e → (u : List (List ℕ)) → L (words_of ts ++ u) → (e ≡ length s → L (words_of ts) → ⊥) → FirstWrong L s r.at r.word.now
    wrong_behind n h p (inl q) u l m = let t = p.end h q in told_as e [] t.0 t.1 (lacking_end L proper k q u l (m q))
    wrong_behind n h p (inr q) u l m = let t = p.lacks h (within c q) in told_as (lack_at c e) [] t.0 t.1 (misplaced L proper k c refl q u l)
      where
        within : (d : Class) → Misplaced d s e → e < length s
        within Line m = m.0
        within Sign m = m.0
        within Word m = m.0
