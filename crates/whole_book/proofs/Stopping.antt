-- Where a line stops being one, the words stop being a book.
use Rattle.std.proofs.Common.{◌≡◌, ℕ, ◌+◌, ◌-◌, ◌<◌, ◌≤◌, ◌⊎◌, List, [], ◌∷◌, ◌++◌, length, get_or, take, drop, vec_items, codes, sym, refl, ap, ◌∙◌, subst, inl, inr, ⊎_elim, append_assoc, append-nil, one-add, arith, length-append, length-drop, take-append-drop, get_or-append-add}
use lib.Seq.{take-append-le, take-append_seam, take-append-add, get_or-append_seam}
use Rattle.std.specs.List.{AllByRecursion}
use Rattle.std.proofs.ByRecursion.{All-from_get_or}
use Rattle.std.proofs.lemmas.List.{take_all, drop_all, drop_more, drop-drop, get_or_append_left, length-take-le}
use Rattle.std.proofs.lemmas.Bool.{cases_lt}
use Rattle.ftpl.specs.declared.books.Book.{Book}
use Rattle.book_words.specs.declared.tokens.Token.{Token}
use Rattle.book_words.specs.Cuts.{part, words_of}
use Rattle.book_words.specs.Among.{WrongAt}
use Rattle.book_words.proofs.Lining.{Lined, one_end, front_clear, end_apart}
use Rattle.book_words.proofs.Parting.{part_join, part_first, part_one}
use Rattle.book_words.proofs.Parting.{length_part, get_d_part}
use Rattle.book_text.specs.Rules.{Text}
use Rattle.book_text.specs.declared.parts.Stop.{Stop}
use Rattle.book_text.specs.declared.parts.Stop.TheVariants.{Wrong, Memory}
use Rattle.book_text.proofs.Steps.{as_long}
use Rattle.whole_book.specs.declared.entries.Listed.{Listed}
use Rattle.whole_book.specs.declared.entries.Head.{Head}
use Rattle.whole_book.specs.Books.{BookSays, IsBook}
use Rattle.whole_book.specs.declared.entries.Entry.{Entry}
use Rattle.whole_book.specs.declared.lines.Line.{Line as Taken}
use Rattle.whole_book.specs.Lines.{listed_in, HeadSays, Body, BodySays}
use Rattle.whole_book.specs.Took.{NoEnd, LineEnd, Entered, LineTook, InLine, LineStopped, Stopped, NextTook}
use Rattle.whole_book.proofs.Lists.{compared}
use Rattle.whole_book.proofs.Going.{Goes, none, line, rest_goes, head_one, body_lined}
use Rattle.whole_book.proofs.Counting.{book_goes, is_book_goes}
use Rattle.whole_book.proofs.Ending.{words_part}
use Rattle.whole_book.proofs.Adding.{few_listed, as_listed, all_properties, all_formulas, some_book, is_book_more, book_more}

-- no line ends among the words
abbrev Clear : List Text → Type 0
Clear p = AllByRecursion (λ t. t ≡ codes "\n" → ⊥) p

-- the words behind the first of a line: they end the line, or the text goes on no further
abbrev Rest : List Text → List Text → Type 0
Rest slice more = (Clear slice × (more ≡ [])) ⊎ ((f : List Text) × Clear f × (slice ≡ f ++ (codes "\n" ∷ [])))

has_end : (f x : List Text) → Clear (f ++ (codes "\n" ∷ x)) → ⊥
has_end [] x h = h.0 refl
has_end (t ∷ f) x h = has_end f x h.1

-- a line in the rest of one is all of it
whole_line : (slice more : List Text) → Rest slice more → (q r : List Text) → Lined q → slice ≡ q ++ r → r ≡ []
whole_line slice more (inl c) q r l e = absurd (has_end l.front r (subst Clear (e ∙ ap (λ z. z ++ r) l.words ∙ end_apart l.front r) c.0))
whole_line slice more (inr c) q r l e =
    let e' = sym (ap (λ z. z ++ r) l.words ∙ end_apart l.front r) ∙ sym e ∙ c.2 in
    (one_end l.front c.0 r [] (front_clear l) c.1 e').1

none_left : {A : Type 0} (r s : List A) → r ++ s ≡ [] → s ≡ []
none_left [] s e = e
none_left (x ∷ r) s e = let z : ◌≡◌ {A = ℕ} 0 1 = cc in absurd (omega arith)

module _ (k : ℕ) (small : k ≤ 64) (h : Head) (slice more : List Text) (rest : Rest slice more) (e : ℕ) (w : WrongAt (Body k h) slice e) where
  -- no body is a front of the words before the wrong one
  not_before : (q r : List Text) → Body k h q → take e slice ≡ q ++ r → ⊥
  not_before q r b c =
      let d = sym (take-append-drop e slice) ∙ ap (λ z. z ++ drop e slice) c ∙ append_assoc q r (drop e slice) in
      let n = whole_line slice more rest q (r ++ drop e slice) (body_lined k h q small b) d in
      let m : length slice ≤ e = omega (arith, length-drop e slice, ap length (none_left r (drop e slice) n)) in
      let same : q ≡ slice = sym (append-nil q) ∙ ap (λ z. q ++ z) (sym n) ∙ sym d in
      w.lacking (omega (arith, w.inside, m)) (subst (Body k h) same b)

  -- no body goes on with the wrong word
  no_body : (q p u : List Text) → Body k h q → q ++ p ≡ take e slice ++ (get_or slice e [] ∷ u) → ⊥
  no_body q p u b c = ⊎_elim by (λ r. not_before q r.0 b r.1) (compared q p (take e slice) (get_or slice e [] ∷ u) c)
    where
      by : ((r : List Text) × (q ≡ take e slice ++ r) × (get_or slice e [] ∷ u ≡ r ++ p)) → ⊥
      by ([], d, f) = not_before q [] b (sym (append-nil (take e slice)) ∙ sym d ∙ sym (append-nil q))
      by (y ∷ r, d, f) = let same : y ≡ get_or slice e [] = cc in w.never r (subst (Body k h) (d ∙ ap (λ z. take e slice ++ (z ∷ r)) same) b)

  -- where a word is lacking behind all of them, the text goes on no further
  no_more : e ≡ length slice → more ≡ []
  no_more q = by rest
    where
      by : Rest slice more → more ≡ []
      by (inl c) = c.1
      by (inr c) =
          let u = w.before.0 in
          let b = subst (λ z. Body k h (z ++ u)) (take_all e slice (omega arith)) w.before.1 in
          let l = body_lined k h (slice ++ u) small b in
          let f = sym l.words ∙ ap (λ z. z ++ u) c.2 ∙ end_apart c.0 u in
          let n = (one_end l.front c.0 [] u (front_clear l) c.1 f).1 in
          absurd (w.lacking q (subst (Body k h) (ap (λ z. slice ++ z) (sym n) ∙ append-nil slice) b))

  no_body_whole : e ≡ length slice → (q p : List Text) → Body k h q → q ++ p ≡ slice → ⊥
  no_body_whole c q p b d = not_before q p b (take_all e slice (omega arith) ∙ sym d)

-- the first line of some lines
first_line : {σ τ : Listed} {y : List Text} (t : Text) (z : List Text) → Goes σ y τ → y ≡ t ∷ z → (h : Head) × (q p : List Text) × HeadSays σ h t × Body σ.properties h q × (q ++ p ≡ z)
first_line t z none e = let x : ◌≡◌ {A = ℕ} 0 1 = cc in absurd (omega arith)
first_line {σ} t z (line {l = l} {p = p} a g) e =
    let f = sym (ap (λ x. x ++ p) a.words) ∙ e in
    let w : a.word ≡ t = cc in
    let r : a.body ++ p ≡ z = cc in
    (a.head, a.body, p, subst (HeadSays σ a.head) w a.announced, a.rest, r)

module _ (b : Book) (d : List Text) (s : BookSays b d) where
  few : length (vec_items b.properties) ≤ 64
  few = (few_listed b d s).0

  -- a book that begins with the words of this one goes on with a line that may stand there
  goes_from : (x : List Text) → IsBook (d ++ x) → (τ : Listed) × Goes (listed_in b) x τ
  goes_from x y =
      let g = book_goes s.props (vec_items b.conditions) s.forms d (all_properties b d s) (all_formulas b d s) s.lines in
      let r = is_book_goes (d ++ x) y in
      (r.0, subst (λ z. Goes z x r.0) (sym (as_listed b d s)) (rest_goes (omega arith) g x r.1))

  module _ (t : Text) (x : List Text) where
    long : length (d ++ (t ∷ x)) ≡ length d + (1 + length x)
    long = omega (arith, length-append d (t ∷ x))

    -- the first word of a line may not stand there
    pub first_wrong : ((h : Head) → HeadSays (listed_in b) h t → ⊥) → WrongAt IsBook (d ++ (t ∷ x)) (length d)
    first_wrong n =
        let front = take-append_seam d (t ∷ x) in
        record {
          inside = omega (arith, long);
          before = ([], subst IsBook (sym (append-nil d) ∙ ap (λ z. z ++ []) (sym front)) (some_book b d s));
          never = λ u y.
              let g = goes_from (t ∷ u) (subst IsBook ((λ i. front i ++ (get_or-append_seam d t x [] i ∷ u))) y) in
              let l = first_line t u g.1 refl in
              n l.0 l.3;
          lacking = λ q y. omega (arith, long);
        }

  module _ (t : Text) (h : Head) (a : HeadSays (listed_in b) h t) (slice more : List Text) (rest : Rest slice more) (e : ℕ) (w : WrongAt (Body (length (vec_items b.properties)) h) slice e) where
    front : take (length d + (1 + e)) (d ++ (t ∷ (slice ++ more))) ≡ d ++ (t ∷ take e slice)
    front =
        take-append-add d (t ∷ (slice ++ more)) (1 + e)
        ∙ ap (λ z. d ++ z) (ap (λ i. take i (t ∷ (slice ++ more))) (one-add e) ∙ ap (λ z. t ∷ z) (take-append-le e slice more w.inside))

    word : get_or (d ++ (t ∷ (slice ++ more))) (length d + (1 + e)) [] ≡ get_or slice e []
    word =
        get_or-append-add d (t ∷ (slice ++ more)) (1 + e) []
        ∙ ap (λ i. get_or (t ∷ (slice ++ more)) i []) (one-add e)
        ∙ ⊎_elim
        (λ l. get_or_append_left slice more [] e l)
        (λ l. ap (λ z. get_or (slice ++ z) e []) (no_more _ few h slice more rest e w (omega (arith, w.inside))) ∙ ap (λ z. get_or z e []) (append-nil slice))
        (cases_lt e (length slice))

    -- a later word of a line may not stand there
    pub later_wrong : WrongAt IsBook (d ++ (t ∷ (slice ++ more))) (length d + (1 + e))
    later_wrong =
        let u = w.before.0 in
        let all = long t (slice ++ more) in
        record {
          inside = omega (arith, all, length-append slice more, w.inside);
          before = (u, subst IsBook (sym (append_assoc d (t ∷ take e slice) u) ∙ ap (λ z. z ++ u) (sym front)) (is_book_more b d s t (take e slice ++ u) h a w.before.1));
          never = λ v y.
              let x = t ∷ (take e slice ++ (get_or slice e [] ∷ v)) in
              let g = goes_from x (subst IsBook ((λ i. front i ++ (word i ∷ v)) ∙ append_assoc d (t ∷ take e slice) (get_or slice e [] ∷ v)) y) in
              let l = first_line t (take e slice ++ (get_or slice e [] ∷ v)) g.1 refl in
              let same = head_one (listed_in b) l.0 h t few l.3 a in
              no_body _ few h slice more rest e w l.1 l.2 v (subst (λ z. Body (length (vec_items b.properties)) z l.1) same l.4) l.5;
          lacking = λ q y.
              let m : e ≡ length slice = omega (arith, all, length-append slice more, w.inside) in
              let g = goes_from (t ∷ (slice ++ more)) y in
              let l = first_line t (slice ++ more) g.1 refl in
              let same = head_one (listed_in b) l.0 h t few l.3 a in
              no_body_whole _ few h slice more rest e w m l.1 l.2 (subst (λ z. Body (length (vec_items b.properties)) z l.1) same l.4) (l.5 ∙ ap (λ z. slice ++ z) (no_more _ few h slice more rest e w m) ∙ append-nil slice);
        }

-- the words by a line's first word, and what ends it
clear_part : (s : List Text) (a e : ℕ) → e ≤ length s → NoEnd s a e → Clear (part s a e)
clear_part s a e i h =
    All-from_get_or (λ t. t ≡ codes "\n" → ⊥) (part s a e) []
    (λ k l q. let n = length_part s a e i in h (a + k) (omega arith) (omega arith) (sym (get_d_part s a e k [] (omega arith)) ∙ q))

pub end_inside : (s : List Text) (a e : ℕ) → a ≤ length s → LineEnd s a e → (a ≤ e) × (e ≤ length s)
end_inside s a e h (inl c) = (omega (arith, c.0), omega (arith, c.0))
end_inside s a e h (inr c) = (omega (arith, c.1, c.3), omega (arith, c.2, c.3))

rest_of : (s : List Text) (a e : ℕ) → LineEnd s a e → Rest (part s a e) (drop e s)
rest_of s a e (inl c) = inl (clear_part s a e (omega (arith, c.0)) c.1, drop_all e s (omega (arith, c.0)))
rest_of s a e (inr c) =
    let m = c.0 in
    let q = ap (part s a) c.3 ∙ part_join s a m (m + 1) c.1 (omega arith) ∙ ap (λ z. part s a m ++ z) (part_one [] s m c.2 ∙ ap (λ z. z ∷ []) c.4) in
    inr (part s a m, clear_part s a m (omega (arith, c.2)) c.5, q)

module _ (b : Book) (s : List Text) (a : ℕ) (h : a < length s) (y : BookSays b (take a s)) where
  place : length (take a s) ≡ a
  place = length-take-le a s (omega arith)

  -- the words before a line, its first word, those behind it, and the rest
  split : (e : ℕ) → a + 1 ≤ e → s ≡ take a s ++ (get_or s a [] ∷ (part s (a + 1) e ++ drop e s))
  split e l =
      let m : a + 1 + (e - (a + 1)) ≡ e = omega arith in
      sym (take-append-drop a s)
      ∙ ap (λ z. take a s ++ z)
      (drop_more s a [] h
      ∙ ap (λ z. get_or s a [] ∷ z)
      (sym (take-append-drop (e - (a + 1)) (drop (a + 1) s)) ∙ ap (λ z. part s (a + 1) e ++ z) (drop-drop (e - (a + 1)) (a + 1) s ∙ ap (λ i. drop i s) m)))

  -- the first word of the line at a may not stand there
  pub stops_first : ((h : Head) → HeadSays (listed_in b) h (get_or s a []) → ⊥) → WrongAt IsBook s a
  stops_first n =
      let q = split (length s) (omega arith) in
      let w = first_wrong b (take a s) y (get_or s a []) (part s (a + 1) (length s) ++ drop (length s) s) n in
      subst (WrongAt IsBook s) place (subst (λ z. WrongAt IsBook z (length (take a s))) (sym q) w)

  -- a later one may not
  pub stops_later : (e : ℕ) → InLine (listed_in b) s a e → WrongAt IsBook s e
  stops_later e x =
      let i = end_inside s (a + 1) x.end (omega arith) x.ends in
      let q = split x.end i.0 in
      let w = later_wrong b (take a s) y (get_or s a []) x.head x.announced (part s (a + 1) x.end) (drop x.end s) (rest_of s (a + 1) x.end x.ends) x.at x.wrong in
      let n : length (take a s) + (1 + x.at) ≡ e = omega (arith, place, x.there) in
      subst (WrongAt IsBook s) n (subst (λ z. WrongAt IsBook z (length (take a s) + (1 + x.at))) (sym q) w)

  pub line_stopped : (r : Stop) → LineStopped (listed_in b) s a r → Stopped s r
  line_stopped (Wrong e) (inl x) = subst (WrongAt IsBook s) (sym x.0) (stops_first x.1)
  line_stopped (Wrong e) (inr x) = stops_later e x
  line_stopped Memory x = tt

  -- the line at a is one, and its book has what it says
  pub line_taken : (c : Book) (x : Taken) → LineTook (listed_in b) s a x → Entered b x.entry c → NextTook s a c x.next
  line_taken c x t n =
      record {
        ahead = t.ahead;
        inside = t.inside;
        says = subst (BookSays c) (sym (front_more x.next t.ahead t.inside)) (book_more b (take a s) y (get_or s a []) (part s (a + 1) x.next) c t.head x.entry t.announced t.says n);
      }
    where
      front_more : (e : ℕ) → a < e → e ≤ length s → take e s ≡ take a s ++ (get_or s a [] ∷ part s (a + 1) e)
      front_more e l m =
          let i : e - 0 ≡ e = omega arith in
          let j : a - 0 ≡ a = omega arith in
          sym (ap (λ z. take z s) i) ∙ part_join s 0 a e (omega arith) (omega arith) ∙ (λ k. take (j k) s ++ part_first [] s a e l m k)

pub line_took : (σ : Listed) (ts : List Token) (a e : ℕ) (x : Entry) (h : Head) → a + 1 ≤ e → e ≤ length ts → HeadSays σ h (get_or (words_of ts) a []) → BodySays σ.properties h x (words_of (part ts (a + 1) e)) → LineTook σ (words_of ts) a (record { entry = x; next = e })
line_took σ ts a e x h l m n t = record { ahead = omega arith; inside = omega (arith, as_long ts); head = h; announced = n; says = subst (BodySays σ.properties h x) (words_part ts (a + 1) e) t }

pub in_line : (σ : Listed) (ts : List Token) (a e n : ℕ) (h : Head) → HeadSays σ h (get_or (words_of ts) a []) → LineEnd (words_of ts) (a + 1) e → WrongAt (Body σ.properties h) (words_of (part ts (a + 1) e)) n → InLine σ (words_of ts) a (a + 1 + n)
in_line σ ts a e n h p l w = record { head = h; announced = p; end = e; ends = l; at = n; wrong = subst (λ z. WrongAt (Body σ.properties h) z n) (words_part ts (a + 1) e) w; there = refl }
