-- From a line to the whole text: what was read so far is a table's text, and what is wrong in the rest is wrong in the whole.
use Rattle.std.proofs.Common.{◌≡◌, ℕ, zero, suc, ◌+◌, ◌-◌, ◌<◌, ◌≤◌, ◌⊎◌, List, [], ◌∷◌, ◌++◌, length, take, drop, set, replicate, sym, refl, ap, ◌∙◌, subst, inl, inr, ⊎_elim, append_assoc, arith, length-append, length-drop, length-set}
use Rattle.std.specs.List.{flat_map, AllByRecursion}
use Rattle.std.proofs.ByRecursion.{All-set}
use Rattle.std.proofs.lemmas.List.{append-nil, flat_map_more, length-take-le, drop-drop, drop_more, get_or-set_other, nil_from_length, length-replicate, take_all, take-append-drop}
use Rattle.host.specs.Tables.{empty_row, row_at}
use Rattle.host.specs.declared.rows.Row.{Row}
use Rattle.table_text.specs.declared.lines.Line.{Line}
use Rattle.table_text.specs.declared.words.Span.{Span}
use Rattle.table_text.specs.Keys.{Fits}
use Rattle.table_text.specs.Lines.{line_text, lines_of, text_of_table}
use Rattle.table_text.specs.Reading.{spanned, Begun, WrongInLine}
use Rattle.table_text.specs.Texts.{Sayable, SayableTable, TableText, Ended, FirstWrong, Stands}
use Rattle.table_text.specs.declared.words.WrongWord.{WrongWord}
use Rattle.table_text.specs.Marks.{Marks, ReadAs, WrongIn}
use Rattle.table_text.proofs.Joins.{take_split}
use Rattle.table_text.proofs.Splits.{after, after_push, lines_set, line_behind, table_lines_fit, texts_split, no_lines, one_text}

-- the first `at` bytes of s are the text of table t, whose rows from `next` on are empty
pub record ReadSoFar (s : List ℕ) (at : ℕ) (t : List Row) (next : ℕ) : Type 0 where
  pub inside : at ≤ length s
  pub text : take at s ≡ text_of_table t
  pub long : length t ≡ 255
  pub sayable : SayableTable t
  pub empty : (k : ℕ) → next ≤ k → row_at t k ≡ empty_row
  pub past : next ≡ after 0 (lines_of 0 t)

module _ (t : List Row) (next : ℕ) (l : Line) (long : length t ≡ 255) (say : SayableTable t) (empty : (k : ℕ) → next ≤ k → row_at t k ≡ empty_row) (f : Fits next l) where
  lines_more : lines_of 0 (set t l.place l.row) ≡ lines_of 0 t ++ (l ∷ [])
  lines_more =
      let z : 0 + l.place ≡ l.place = omega arith in
      lines_set 0 t l.place l.row (omega (arith, f.inside)) f.row (λ k h. empty k (omega (arith, f.rises))) ∙ ap (λ p. lines_of 0 t ++ (record { place = p; row = l.row } ∷ [])) z

  pub text_set : text_of_table (set t l.place l.row) ≡ text_of_table t ++ line_text l
  text_set = ap (flat_map line_text) lines_more ∙ sym (flat_map_more line_text [] (lines_of 0 t) l)

  pub sayable_set : SayableTable (set t l.place l.row)
  sayable_set = record { few = omega (arith, length-set t l.place l.row); rows = All-set (λ r. (r ≡ empty_row) ⊎ Sayable r) t l.place l.row (inr f.row) say.rows }

  pub past_set : l.place + 1 ≡ after 0 (lines_of 0 (set t l.place l.row))
  past_set = sym (ap (after 0) lines_more ∙ after_push 0 (lines_of 0 t) l)

  pub empty_set : (k : ℕ) → l.place + 1 ≤ k → row_at (set t l.place l.row) k ≡ empty_row
  empty_set k h = get_or-set_other t l.place k l.row empty_row (λ e. omega arith) ∙ empty k (omega (arith, f.rises))

module _ (s : List ℕ) (at : ℕ) (t : List Row) (next : ℕ) (r : ReadSoFar s at t next) where
  pub take_on : (i : ℕ) → take (at + i) s ≡ text_of_table t ++ take i (drop at s)
  take_on i = let z : at + i - at ≡ i = omega arith in take_split at (at + i) s (omega arith) ∙ (λ j. r.text j ++ take (z j) (drop at s))

  -- one line more
  pub read_more : (l : Line) (n : ℕ) → Fits next l → n ≤ length (drop at s) → take n (drop at s) ≡ line_text l → ReadSoFar s (at + n) (set t l.place l.row) (l.place + 1)
  read_more l n f h e = record {
    inside = omega (arith, r.inside, length-drop at s);
    text = take_on n ∙ ap (λ x. text_of_table t ++ x) e ∙ sym (text_set t next l r.long r.sayable r.empty f);
    long = length-set t l.place l.row ∙ r.long;
    sayable = sayable_set t next l r.long r.sayable r.empty f;
    empty = empty_set t next l r.long r.sayable r.empty f;
    past = past_set t next l r.long r.sayable r.empty f;
  }

  module _ (e : Span) (more : at < length s) (w : WrongInLine next (drop at s) e) where
    long_word : length (spanned (drop at s) e) ≡ e.end - e.at
    long_word = length-take-le (e.end - e.at) (drop e.at (drop at s)) (omega (arith, length-drop e.at (drop at s), w.inside.0, w.inside.1))

    to_end : at + e.at + length (spanned (drop at s) e) ≡ at + e.end
    to_end = omega (arith, long_word, w.inside.0)

    rest_is : drop (at + e.at + length (spanned (drop at s) e)) s ≡ drop e.end (drop at s)
    rest_is = ap (λ k. drop k s) to_end ∙ sym (drop-drop e.end at s)

    word_is : drop (at + e.at) s ≡ drop e.at (drop at s)
    word_is = sym (drop-drop e.at at s)

    goes_on : (front after : List ℕ) × ((take (at + e.at) s ≡ front) ⊎ (take (at + e.at) s ≡ front ++ (32 ∷ []))) × Ended after × TableText (front ++ after)
    goes_on =
        ⊎_elim
        (λ (z : e.at ≡ 0). (text_of_table t, [], inl (take_on e.at ∙ ap (λ i. text_of_table t ++ take i (drop at s)) z ∙ append-nil (text_of_table t)), tt, (t, r.sayable, append-nil (text_of_table t))))
        (λ (b : Begun next (drop at s) e.at). (
          text_of_table t ++ b.front,
          b.after,
          ⊎_elim
              (λ (p : take e.at (drop at s) ≡ b.front). inl (take_on e.at ∙ ap (λ x. text_of_table t ++ x) p))
              (λ p. inr (take_on e.at ∙ ap (λ x. text_of_table t ++ x) p ∙ sym (append_assoc (text_of_table t) b.front (32 ∷ []))))
              b.parted,
          b.ended,
          (
            set t b.line.place b.line.row,
            sayable_set t next b.line r.long r.sayable r.empty b.fits,
            append_assoc (text_of_table t) b.front b.after ∙ ap (λ x. text_of_table t ++ x) b.whole ∙ sym (text_set t next b.line r.long r.sayable r.empty b.fits),
          ),
        ))
        w.before

    -- the lines that would follow those that were read
    follow : (js : List Line) (u : List Row) (after' : List ℕ) → SayableTable u → lines_of 0 u ≡ lines_of 0 t ++ js → flat_map line_text js ≡ take e.at (drop at s) ++ (spanned (drop at s) e ++ after') → Ended after' → (spanned (drop at s) e ≡ [] → take 1 after' ≡ take 1 (drop e.end (drop at s))) → ⊥
    follow [] u after' su lu q ea same =
        let n = ap length q ∙ length-append (take e.at (drop at s)) (spanned (drop at s) e ++ after') in
        let m = length-append (spanned (drop at s) e) after' in
        let z : length (spanned (drop at s) e) ≡ 0 = omega (arith, n, m) in
        let a : length (take e.at (drop at s)) ≡ 0 = omega (arith, n, m) in
        let x : length after' ≡ 0 = omega (arith, n, m) in
        let i : e.at ≡ 0 = omega (arith, a, length-take-le e.at (drop at s) (omega (arith, w.inside.0, w.inside.1))) in
        let j : e.end ≡ 0 = omega (arith, i, z, long_word, w.inside.0) in
        let d = same (nil_from_length _ z) ∙ ap (λ k. take 1 (drop k (drop at s))) j ∙ ap (take 1) (drop_more s at 0 more) in
        let o : take 1 after' ≡ [] = ap (take 1) (nil_from_length after' x) in
        omega (arith, ap length (sym o ∙ d))
    follow (l ∷ js) u after' su lu q ea same =
        let f = line_behind 0 u (lines_of 0 t) js l su.rows (omega (arith, su.few)) lu in
        w.never l (subst (λ n. Fits n l) (sym r.past) f) (flat_map line_text js) after' ea same q

    -- what is wrong in the rest is wrong in the whole
    pub lifted : FirstWrong s (at + e.at) (spanned (drop at s) e)
    lifted = record {
      part = (omega (arith, to_end, w.inside.1, length-drop at s, r.inside), ap (λ n. take n (drop (at + e.at) s)) long_word ∙ ap (take (e.end - e.at)) word_is);
      whole = (w.word, subst Ended (sym rest_is) w.ended);
      before = goes_on;
      never = λ after' ea same table.
          let u = table.0 in
          let q = sym table.2 ∙ ap (λ x. x ++ (spanned (drop at s) e ++ after')) (take_on e.at) ∙ append_assoc (text_of_table t) (take e.at (drop at s)) _ in
          let (js, lu, text) = texts_split (lines_of 0 t) (lines_of 0 u) _ (table_lines_fit t r.sayable) (table_lines_fit u table.1) q in
          follow js u after' table.1 lu text ea (λ z. same z ∙ ap (take 1) rest_is);
    }

all_empty : (n : ℕ) → AllByRecursion (λ r. (r ≡ empty_row) ⊎ Sayable r) (replicate n empty_row)
all_empty zero = tt
all_empty (suc n) = (inl refl, all_empty n)

empty_at : (n k : ℕ) → row_at (replicate n empty_row) k ≡ empty_row
empty_at zero k = refl
empty_at (suc n) zero = refl
empty_at (suc n) (suc k) = empty_at n k

-- before the first line
pub nothing_read : (s : List ℕ) → ReadSoFar s 0 (replicate 255 empty_row) 0
nothing_read s =
    let none = no_lines 0 (replicate 255 empty_row) (empty_at 255) in
    record {
      inside = omega arith;
      text = sym (ap (flat_map line_text) none);
      long = length-replicate 255 empty_row;
      sayable = record { few = omega (arith, length-replicate 255 empty_row); rows = all_empty 255 };
      empty = λ k h. empty_at 255 k;
      past = sym (ap (after 0) none);
    }

-- behind the last line
pub all_read : (s : List ℕ) (at : ℕ) (t : List Row) (next : ℕ) → ReadSoFar s at t next → length s ≤ at → ReadAs s t
all_read s at t next r h =
    let e = sym (take_all at s h) ∙ r.text in
    record { long = r.long; sayable = r.sayable; text = e }

-- a wrong word as it is handed out
pub handed_out : (s : List ℕ) (at : ℕ) (t : List Row) (next : ℕ) (e : Span) (w : WrongWord) → ReadSoFar s at t next → at < length s → WrongInLine next (drop at s) e → Marks s (at + e.at) (at + e.end) w → WrongIn s w
handed_out s at t next e w r more x m =
    let n : at + e.end - (at + e.at) ≡ e.end - e.at = omega arith in
    let word = m.part ∙ ap (λ k. take k (drop (at + e.at) s)) n ∙ ap (take (e.end - e.at)) (sym (drop-drop e.at at s)) in
    record {
      first = subst (λ i. FirstWrong s i w.word.now) (sym m.offset) (subst (FirstWrong s (at + e.at)) (sym word) (lifted s at t next r e more x));
      stands = subst (λ i. Stands s i w.line w.byte) (sym m.offset) m.stands;
    }

-- a text with a wrong word is no table text
pub no_text_at : (s : List ℕ) (at : ℕ) (w : List ℕ) → FirstWrong s at w → TableText s → ⊥
no_text_at s at w f t =
    let n = length w in
    let e = sym (take-append-drop at s) ∙ ap (λ x. take at s ++ x) (sym (take-append-drop n (drop at s)) ∙ (λ i. f.part.1 i ++ drop-drop n at s i)) in
    f.never (drop (at + n) s) f.whole.1 (λ z. refl) (t.0, t.1, sym e ∙ t.2)

-- a table that has this text is the one that was read
pub read_back : (s : List ℕ) (t u : List Row) → ReadAs s t → length u ≡ 255 → SayableTable u → s ≡ text_of_table u → t ≡ u
read_back s t u r n su q = one_text t u r.sayable su (r.long ∙ sym n) (sym r.text ∙ q)
