-- From the first wrong one among the words of a text to the first wrong word of the text, and what that says of the text.
use Rattle.std.proofs.Common.{◌≡◌, ℕ, ◌+◌, ◌≤◌, List, [], ◌∷◌, ◌++◌, length, take, drop, vec_items, sym, refl, ap, ◌∙◌, subst, ⊎_elim, append-nil, arith, take-append-drop}
use lib.ListN.{length-map}
use Rattle.std.specs.List.{AllByRecursion}
use Rattle.std.proofs.lemmas.List.{take_all, drop-drop}
use Rattle.std.proofs.lemmas.Bool.{cases_lt}
use Rattle.book_words.specs.declared.bytes.ByteKind.TheVariants.{Plain}
use Rattle.book_words.specs.declared.bytes.Class.{Class}
use Rattle.book_words.specs.declared.bytes.Class.TheVariants.{Line, Sign, Word}
use Rattle.book_words.specs.declared.tokens.Token.{Token}
use Rattle.book_words.specs.declared.words.Words.{Words}
use Rattle.book_words.specs.Bytes.{kind_of}
use Rattle.book_words.specs.Cuts.{words_of, Points}
use Rattle.book_words.specs.Cutting.{Cutting}
use Rattle.book_words.specs.Layout.{Proper, Stays}
use Rattle.book_words.specs.Wrong.{Whole, TextOf, FirstWrong}
use Rattle.book_words.specs.Among.{WrongAt}
use Rattle.book_words.proofs.Layouts.{not_sign, not_plain_10}
use Rattle.book_words.proofs.Wrongs.{wrong_inside, wrong_behind}

module _ (L : List (List ℕ) → Type 0) (proper : (p : List (List ℕ)) → L p → AllByRecursion (λ t. (d : Class) × Proper d t) p) (s : List ℕ) (w : Words) (k : Cutting s w) (xs : List Token) (q : xs ≡ vec_items w.tokens) (n : ℕ) (r : Token) (p : Points s (vec_items w.tokens) w.end w.class n r) where
  long : length (words_of (vec_items w.tokens)) ≡ length (vec_items w.tokens)
  long = length-map (vec_items w.tokens) (λ t. t.word.now)

  -- a word of the text is wrong, or one is lacking
  pub text_wrong : WrongAt L (words_of xs) n → FirstWrong L s r.at r.word.now
  text_wrong f' =
      let f = subst (λ z. WrongAt L (words_of z) n) q f' in
      let ts = vec_items w.tokens in
      ⊎_elim
      (λ h. wrong_inside L proper k.cut r n h p f.before.0 f.before.1 f.never)
      (λ h. let e : n ≡ length (words_of ts) = omega (arith, long, f.inside) in
      wrong_behind L proper k.cut r n h p k.stop f.before.0 (subst (λ z. L (z ++ f.before.0)) (take_all n (words_of ts) (omega arith)) f.before.1) (λ _ y. f.lacking e y))
      (cases_lt n (length ts))

  -- the words are of the language, and then a blank is misplaced
  pub text_broken : L (words_of xs) → length (vec_items w.tokens) ≤ n → (w.end ≡ length s → ⊥) → FirstWrong L s r.at r.word.now
  text_broken y h b =
      let ts = vec_items w.tokens in
      let l : L (words_of ts ++ []) = subst L (sym (append-nil (words_of ts))) (subst (λ z. L (words_of z)) q y) in
      wrong_behind L proper k.cut r n h p k.stop [] l (λ e _. b e)

whole_stays : (w r : List ℕ) → Whole w r → (d : Class) → Proper d w → Stays d r
whole_stays w r h Line p = tt
whole_stays w r h Sign p = tt
whole_stays [] r h Word p = absurd (p.0 refl)
whole_stays (x ∷ w) r h Word p = by h.0 h.1 h.2
  where
    by : (d : Class) → Proper d (x ∷ w) → Stays d r → Stays Word r
    by Line e k = let q : x ≡ 10 = cc in absurd (not_plain_10 (subst (λ z. kind_of z ≡ Plain) q p.1.0))
    by Sign e k = let f = e.2 in let q : x ≡ e.0 = cc in absurd (not_sign e.0 (subst (λ z. kind_of z ≡ Plain) q p.1.0) e.1)
    by Word e k = k

-- a text with a first wrong word is none of the language
pub no_text : (L : List (List ℕ) → Type 0) (s : List ℕ) (at : ℕ) (w : List ℕ) → FirstWrong L s at w → TextOf L s → ⊥
no_text L s at w f y =
    let r = drop (at + length w) s in
    let e = sym (take-append-drop at s) ∙ ap (λ z. take at s ++ z) (sym (take-append-drop (length w) (drop at s)) ∙ (λ i. f.word i ++ drop-drop (length w) at s i)) in
    f.never r (λ _. refl) (whole_stays w r f.whole) (subst (TextOf L) e y)
