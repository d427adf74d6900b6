-- What stands behind the first word of a line, and where it stops.
use Rattle.std.proofs.Common.{◌≡◌, ◌≢◌, ℕ, suc, ◌+◌, ◌-◌, ◌<◌, ◌≤◌, List, [], ◌∷◌, length, get_or, take, drop, codes, sym, refl, ap, ◌∙◌, arith}
use Rattle.std.specs.List.{AllWithin, HoldsAt}
use Rattle.std.proofs.lemmas.List.{take-map, drop-map, get_or-map}
use Rattle.book_words.proofs.Parting.{get_d_part}
use Rattle.book_text.specs.Rules.{Text}
use Rattle.book_text.specs.Wrong.{Stopped as PropertyStopped}
use Rattle.book_text.specs.declared.parts.Stop.{Stop}
use Rattle.book_text.specs.declared.parts.Stop.TheVariants.{Wrong, Memory}
use Rattle.formula_text.specs.Wrong.{Stopped as FormulaStopped}
use Rattle.book_words.specs.declared.tokens.Token.{Token}
use Rattle.book_words.specs.Cuts.{words_of, part}
use Rattle.book_words.specs.Among.{WrongAt}
use Rattle.whole_book.specs.declared.entries.Head.TheVariants.{Property, Condition, Formula}
use Rattle.whole_book.specs.Lines.{Body, last_from}
use Rattle.whole_book.specs.Took.{BodyStopped, NoEnd}

pub property_stopped : (k : ℕ) (s : List Text) (r : Stop) → PropertyStopped s r → BodyStopped k Property s r
property_stopped k s (Wrong e) x = x
property_stopped k s Memory x = tt

pub formula_stopped : (k : ℕ) (s : List Text) (r : Stop) → 1 ≤ k → FormulaStopped k s r → BodyStopped k Formula s r
formula_stopped k s (Wrong e) m x = record { inside = x.inside; before = x.before m; never = x.never; lacking = x.lacking }
formula_stopped k s Memory m x = tt

-- a line's end and nothing behind it
pub only_end : (s : List Text) → get_or s 0 [] ≡ codes "\n" → length s ≤ 1 → s ≡ codes "\n" ∷ []
only_end [] e h = let z : ◌≡◌ {A = ℕ} 0 1 = cc in absurd (omega arith)
only_end (t ∷ []) e h = ap (λ z. z ∷ []) e
only_end (t ∷ u ∷ s) e h = absurd (omega arith)

-- a line's end and more
pub behind_end : (k n : ℕ) (s : List Text) → get_or s 0 [] ≡ codes "\n" → 1 < length s → WrongAt (Body k (Condition n)) s 1
behind_end k n [] e h = absurd (omega arith)
behind_end k n (t ∷ []) e h = absurd (omega arith)
behind_end k n (t ∷ u ∷ s) e h =
    record {
      inside = omega arith;
      before = ([], ap (λ z. z ∷ []) e);
      never = λ v y. let z : ◌≡◌ {A = ℕ} 0 1 = cc in omega arith;
      lacking = λ q y. omega arith;
    }

-- the words of some tokens
pub words_part : (ts : List Token) (a e : ℕ) → words_of (part ts a e) ≡ part (words_of ts) a e
words_part ts a e = sym (take-map (λ t. t.word.now) (e - a) (drop a ts)) ∙ ap (take (e - a)) (sym (drop-map (λ t. t.word.now) a ts))

module _ (ts : List Token) (a : ℕ) where
  -- a word of what is left of some tokens from a on
  word_behind : (k : ℕ) (d : Token) → k < length ts - a → get_or (words_of ts) (a + k) [] ≡ (get_or (part ts a (length ts)) k d).word.now
  word_behind k d h = get_or-map (λ t. t.word.now) ts (a + k) d [] (omega arith) ∙ ap (λ t. t.word.now) (sym (get_d_part ts a (length ts) k d h))

  -- where none of the first n tokens of what is left ends the line, no line ends there
  pub no_end : (n : ℕ) → n ≤ length ts - a → AllWithin (λ t. t.word.now ≢ codes "\n") (part ts a (length ts)) 0 n → NoEnd (words_of ts) a (a + n)
  no_end n h f k l m e =
      let d : Token = record { word = record { ref_ptr = (0, 0); now = [] }; at = 0 } in
      let i : a + (k - a) ≡ k = omega arith in
      f (k - a) d (omega arith) (omega arith) (sym (word_behind (k - a) d (omega arith)) ∙ ap (λ j. get_or (words_of ts) j []) i ∙ e)

  pub end_there : (n : ℕ) → n < length ts - a → HoldsAt (λ t. t.word.now ≡ codes "\n") (part ts a (length ts)) n → get_or (words_of ts) (a + n) [] ≡ codes "\n"
  end_there n h f =
      let d : Token = record { word = record { ref_ptr = (0, 0); now = [] }; at = 0 } in
      word_behind n d h ∙ f d

-- the last number is the one before the end
pub last_is : (l : ℕ) (ns : List ℕ) (d : ℕ) → 0 < length ns → last_from l ns ≡ get_or ns (length ns - 1) d
last_is l [] d h = absurd (omega arith)
last_is l (n ∷ []) d h = refl
last_is l (n ∷ m ∷ ns) d h =
    let i : suc (length (m ∷ ns) - 1) ≡ length (n ∷ m ∷ ns) - 1 = omega arith in
    last_is n (m ∷ ns) d (omega arith) ∙ ap (λ i. get_or (n ∷ m ∷ ns) i d) i

pub last_or : (ns : List ℕ) → get_or ns (length ns - 1) 0 ≡ last_from 0 ns
last_or [] = refl
last_or (n ∷ ns) = sym (last_is 0 (n ∷ ns) 0 (omega arith))
