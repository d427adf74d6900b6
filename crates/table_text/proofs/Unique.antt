-- A line, and a whole table, has one text only.
use Rattle.std.proofs.Common.{◌≡◌, ℕ, zero, suc, ◌^◌, ◌<◌, ◌≤◌, true, cond, eqb, List, [], ◌∷◌, ◌++◌, get_or, ℤ, pos, negsuc, ◌≤ℤ◌, codes, decimal, sym, refl, ap, ◌∙◌, subst, ⊎_elim, append_assoc, arith, eqb-true}
use Rattle.std.specs.List.{flat_map, AllByRecursion}
use Rattle.std.specs.Fmt.{signed_decimal}
use Rattle.std.proofs.lemmas.Fmt.{decimal_injective}
use Rattle.std.proofs.lemmas.List.{append_cancel_left}
use Rattle.std.proofs.lemmas.Bool.{cases_Bool, cond-true, cond-false}
use Rattle.host.proofs.Spelled.{same_from_name}
use Rattle.table_text.specs.declared.lines.Key.{Key}
use Rattle.table_text.specs.declared.lines.Key.TheVariants.{Place, Kind, Name, Owner, Link, Up, Lo, Hi, Value}
use Rattle.table_text.specs.declared.lines.Line.{Line}
use Rattle.table_text.specs.Lines.{kind_text, place_text, key_text, value_text, word, ended, order, line_text}
use Rattle.table_text.specs.Keys.{Fits, keys_before, keys_after}
use Rattle.std.proofs.lemmas.Grind.{flat_map-append}
use Rattle.table_text.proofs.Cuts.{strip, same_word, digits}
use Rattle.numerals.proofs.Spelling.{million_fits, one_number}

-- the kind that a word of text says
abbrev kind_of : List ℕ → ℕ
kind_of s = cond (eqb (get_or s 0 0) 99) 1 (cond (eqb (get_or s 0 0) 114) 3 (cond (eqb (get_or s 1 0) 114) 2 4))

kind_back : (k : ℕ) → 0 < k → k ≤ 4 → kind_of (kind_text k) ≡ k
kind_back zero h l = absurd (omega arith)
kind_back (suc zero) h l = refl
kind_back (suc (suc zero)) h l = refl
kind_back (suc (suc (suc zero))) h l = refl
kind_back (suc (suc (suc (suc zero)))) h l = refl
kind_back (suc (suc (suc (suc (suc k))))) h l = absurd (omega arith)

not_none : (n : ℕ) → n < 2 ^ 64 → codes "none" ≡ decimal n → ⊥
not_none n h e = let d = subst (λ s. AllByRecursion (λ b. (47 < b) × (b < 58)) s) (sym e) (digits n h) in omega (arith, d.0)

place_same : (p q : ℕ) → p ≤ 255 → q ≤ 255 → place_text p ≡ place_text q → p ≡ q
place_same p q hp hq e =
    ⊎_elim
    (λ (a : eqb p 255 ≡ true). ⊎_elim
    (λ (b : eqb q 255 ≡ true). eqb-true p 255 a ∙ sym (eqb-true q 255 b))
    (λ b. absurd (not_none q (omega arith) (sym (cond-true (eqb p 255) _ _ a) ∙ e ∙ cond-false (eqb q 255) _ _ b)))
    (cases_Bool (eqb q 255)))
    (λ a. ⊎_elim
    (λ (b : eqb q 255 ≡ true). absurd (not_none p (omega arith) (sym (cond-true (eqb q 255) _ _ b) ∙ sym e ∙ cond-false (eqb p 255) _ _ a)))
    (λ b. decimal_injective p q (omega arith) (omega arith) (sym (cond-false (eqb p 255) _ _ a) ∙ e ∙ cond-false (eqb q 255) _ _ b))
    (cases_Bool (eqb q 255)))
    (cases_Bool (eqb p 255))

million_same : (y z : ℤ) → (negsuc 999999 ≤ℤ y) × (y ≤ℤ pos 1000000) → (negsuc 999999 ≤ℤ z) × (z ≤ℤ pos 1000000) → signed_decimal y ≡ signed_decimal z → y ≡ z
million_same y z p q e = one_number (signed_decimal z) y z (million_fits y p.0 p.1) (million_fits z q.0 q.1) (sym e) refl

pub split : (k : Key) → order ≡ keys_before k ++ (k ∷ keys_after k)
split Place = refl
split Kind = refl
split Name = refl
split Owner = refl
split Link = refl
split Up = refl
split Lo = refl
split Hi = refl
split Value = refl

-- a line's text, parted at a key
pub line_split : (l : Line) (k : Key) (r : List ℕ) → line_text l ++ r ≡ flat_map (ended l) (keys_before k ++ (k ∷ keys_after k)) ++ r
unfolding line_text
line_split l k r = ap (λ ks. flat_map (ended l) ks ++ r) (split k)

module _ {n m : ℕ} {e l : Line} (fe : Fits n e) (fl : Fits m l) (r s : List ℕ) (q : line_text e ++ r ≡ line_text l ++ s) where
  value_same : (k : Key) → value_text k e ≡ value_text k l
  unfolding word
  value_same k =
      let a = sym (line_split e k r) ∙ q ∙ line_split l k s in
      let b = strip fe fl (keys_before k) (k ∷ keys_after k) r _ (a ∙ ap (λ t. t ++ s) (flat_map-append (ended l) (keys_before k) (k ∷ keys_after k)) ∙ append_assoc (flat_map (ended l) (keys_before k)) (flat_map (ended l) (k ∷ keys_after k)) s) in
      append_cancel_left (key_text k) (value_text k e) (value_text k l) (same_word fe fl k (keys_after k) (keys_after k) r s b).0

  -- two lines that begin one text are the same
  pub line_same : e ≡ l
  line_same =
      let k = sym (kind_back e.row.kind fe.row.filled fe.row.kind) ∙ ap kind_of (value_same Kind) ∙ kind_back l.row.kind fl.row.filled fl.row.kind in
      let p = decimal_injective e.place l.place (omega (arith, fe.inside)) (omega (arith, fl.inside)) (value_same Place) in
      let u = decimal_injective e.row.up l.row.up (omega (arith, fe.row.up)) (omega (arith, fl.row.up)) (value_same Up) in
      let a = same_from_name e.row.name l.row.name fe.row.name fl.row.name (value_same Name) in
      let o = place_same e.row.owner l.row.owner fe.row.owner fl.row.owner (value_same Owner) in
      let i = place_same e.row.link l.row.link fe.row.link fl.row.link (value_same Link) in
      let lo = million_same e.row.lo l.row.lo fe.row.lo fl.row.lo (value_same Lo) in
      let hi = million_same e.row.hi l.row.hi fe.row.hi fl.row.hi (value_same Hi) in
      let v = million_same e.row.value l.row.value fe.row.value fl.row.value (value_same Value) in
      λ j. record { place = p j; row = record { kind = k j; name = a j; owner = o j; link = i j; up = u j; lo = lo j; hi = hi j; value = v j } }

  -- and so is what follows them
  pub rest_same : r ≡ s
  unfolding line_text
  rest_same = strip fe fl order [] r s q
