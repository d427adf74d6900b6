-- Where words end, and in which line an offset lies.
use Rattle.std.proofs.Common.{◌≡◌, ℕ, suc, ◌+◌, ◌-◌, ◌<◌, ◌≤◌, true, false, cond, not, eqb, List, [], ◌∷◌, length, get_or, take, drop, Some, None, Option, MatchOption, sym, ap, ◌∙◌, subst, refl, inl, inr, ⊎_elim, arith, length-drop, ◌≢◌}
use Rattle.std.specs.List.{position_or_len, count_by, All}
use Rattle.std.specs.Option.{option_map_or}
use Rattle.std.proofs.lemmas.List.{get_or-drop, get_or-take, length-take-le}
use Rattle.std.proofs.lemmas.Bool.{cases_Bool}
use Rattle.table_text.specs.Texts.{parts, Word, Ended, Stands}

-- what stands before the first byte that parts words is a word, and ended there
pub word_first : (s : List ℕ) → Word (take (position_or_len parts s) s) × Ended (drop (position_or_len parts s) s)
word_first [] = (tt, tt)
word_first (b ∷ s) =
    let n = position_or_len parts s in
    let P = λ (x : _). Word (take (cond (not x) (1 + n) 0) (b ∷ s)) × Ended (drop (cond (not x) (1 + n) 0) (b ∷ s)) in
    ⊎_elim
    (λ (t : parts b ≡ true). subst P (sym t) (tt, t))
    (λ (f : parts b ≡ false).
    let z : suc n ≡ 1 + n = omega arith in
    subst P (sym f) (subst (λ m. Word (take m (b ∷ s)) × Ended (drop m (b ∷ s))) z ((f, (word_first s).0), (word_first s).1)))
    (cases_Bool (parts b))

-- no newline, or the last one
abbrev pub LastNewline : List ℕ → Option ℕ → Type 0
LastNewline s r = MatchOption r (All (λ b. b ≢ 10) s) (λ i. (i < length s) × (get_or s i 0 ≡ 10) × All (λ b. b ≢ 10) (drop (i + 1) s))

-- an offset stands as far behind the last newline before it
pub stands_behind : (s : List ℕ) (at line : ℕ) (r : Option ℕ) → at ≤ length s → line ≡ 1 + count_by (λ b. eqb b 10) (take at s) → LastNewline (take at s) r → Stands s at line (option_map_or (λ i. at - i - 1) r at)
stands_behind s at line None h e m =
    let n = length-take-le at s h in
    record { lines = e; back = omega arith; within = λ k low high q. m k 0 (omega (arith, n)) (get_or-take at s k 0 high ∙ q); start = inl refl }
stands_behind s at line (Some i) h e m =
    let n = length-take-le at s h in
    record {
      lines = e;
      back = omega arith;
      within = λ k low high q.
          let j : i + 1 + (k - (i + 1)) ≡ k = omega (arith, n, m.0) in
          m.2 (k - (i + 1)) 0 (omega (arith, n, m.0, length-drop (i + 1) (take at s))) (get_or-drop (i + 1) (take at s) (k - (i + 1)) 0 ∙ ap (λ j. get_or (take at s) j 0) j ∙ get_or-take at s k 0 high ∙ q);
      start = inr (let j : at - (at - i - 1) - 1 ≡ i = omega (arith, n, m.0) in ap (λ j. get_or s j 0) j ∙ sym (get_or-take at s i 0 (omega (arith, n, m.0))) ∙ m.1);
    }
