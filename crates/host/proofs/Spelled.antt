-- Names as they are packed and as they are written.
use Rattle.std.proofs.Common.{◌≡◌, ℕ, zero, suc, ◌+◌, ◌-◌, ◌*◌, ◌<◌, ◌≤◌, Bool, true, false, cond, not, ◌&&◌, ◌||◌, eqb, ltb, leb, List, [], ◌∷◌, ◌++◌, length, get_or, take, drop, replicate, Some, None, Option, Decides, MatchOption, sym, refl, ap, ◌∙◌, subst, ⊎_elim, true≢false, arith, length-append, length-drop, eq-eqb, eqb-true, ne_eqb, leb-true, ltb-false}
use Rattle.std.specs.Int.{w64, from_be_bytes}
use Rattle.std.proofs.lemmas.Nat.{be_bytes_8}
use Rattle.std.specs.Option.{option_eq, unwrap_or}
use Rattle.std.specs.List.{position, position_or_len}
use Rattle.std.proofs.lemmas.List.Sums.{prefix_len-le-length, fails_before_first, passes_at_first}
use Rattle.std.proofs.ByRecursion.{All-get_or}
use Rattle.std.proofs.lemmas.List.{take-append-le, take_all, get_or_past, get_or_append_left, get_or-append_right, get_or-drop, get_or-replicate}
use Rattle.std.proofs.lemmas.Bool.{cases_Bool, or_cases, and_parts, cond-true, cond-false, cases_lt}
use Rattle.host.specs.Names.{letter_or_digit, NameForm, IsName, packed, bytes_of, up_to_zero, name_bytes}

-- a letter or digit is a byte above 47 and below 123
pub plain_range : (b : ℕ) → letter_or_digit b ≡ true → (47 < b) × (b < 123)
plain_range b h =
    ⊎_elim
    (λ (p : (leb 48 b && leb b 57) ≡ true). let q = and_parts (leb 48 b) (leb b 57) p in (omega (arith, leb-true 48 b q.0), omega (arith, leb-true b 57 q.1)))
    (λ p. ⊎_elim
    (λ q. let r = and_parts (leb 65 b) (leb b 90) q in (omega (arith, leb-true 65 b r.0), omega (arith, leb-true b 90 r.1)))
    (λ q. let r = and_parts (leb 97 b) (leb b 122) q in (omega (arith, leb-true 97 b r.0), omega (arith, leb-true b 122 r.1)))
    (or_cases (leb 65 b && leb b 90) (leb 97 b && leb b 122) p))
    (or_cases (leb 48 b && leb b 57) ((leb 65 b && leb b 90) || (leb 97 b && leb b 122)) h)

-- what stands before the first zero byte, by its place
pub up_to_zero_lem : (bs : List ℕ) (r : ℕ) → r ≤ length bs → ((k : ℕ) → k < r → get_or bs k 0 ≡ 0 → ⊥) → (r < length bs → get_or bs r 0 ≡ 0) → take r bs ≡ up_to_zero bs
up_to_zero_lem [] zero h before there = refl
up_to_zero_lem [] (suc r) h before there = refl
up_to_zero_lem (b ∷ bs) zero h before there = sym (cond-true (eqb b 0) [] (b ∷ up_to_zero bs) (eq-eqb b 0 (there (omega arith))))
up_to_zero_lem (b ∷ bs) (suc r) h before there =
    ap (λ xs. b ∷ xs) (up_to_zero_lem bs r (omega arith) (λ k l. before (suc k) (omega arith)) (λ l. there (omega arith))) ∙ sym (cond-false (eqb b 0) [] (b ∷ up_to_zero bs) (ne_eqb b 0 (before 0 (omega arith))))

-- the first place that passes, or the length where none does
pub position-or_length : {X : Type 0} (p : X → Bool) (xs : List X) → unwrap_or (position p xs) (length xs) ≡ position_or_len p xs
position-or_length p xs =
    let i = position_or_len p xs in
    let n = length xs in
    ⊎_elim
    (λ (t : ltb i n ≡ true). ap (λ b. unwrap_or (cond b (Some i) None) n) t)
    (λ (f : ltb i n ≡ false). ap (λ b. unwrap_or (cond b (Some i) None) n) f ∙ omega (arith, ltb-false i n f, prefix_len-le-length (λ x. not (p x)) xs))
    (cases_Bool (ltb i n))

-- so it is what stands before the first place of a zero byte
pub take_first_zero : (bs : List ℕ) → take (unwrap_or (position (λ b. eqb b 0) bs) (length bs)) bs ≡ up_to_zero bs
take_first_zero bs =
    let p = λ (b : ℕ). eqb b 0 in
    let i = position_or_len p bs in
    let h = prefix_len-le-length _ bs in
    ap (λ k. take k bs) (position-or_length p bs) ∙ up_to_zero_lem bs i h (λ k l e. true≢false (sym (eq-eqb _ 0 e) ∙ fails_before_first p bs k 0 l)) (λ l. eqb-true _ 0 (passes_at_first p bs 0 l))

abbrev pub zeros : List ℕ
zeros = replicate 8 0

zero_at : (k : ℕ) → get_or zeros k 0 ≡ 0
zero_at k = let z : ℕ = 0 in ⊎_elim (get_or-replicate 8 k z z) (get_or_past (replicate 8 z) k z) (cases_lt k 8)

-- bytes with zeros behind, up to eight of them
module _ (bs : List ℕ) (few : length bs ≤ 8) where
  abbrev pub padded : List ℕ
  padded = bs ++ drop (length bs) zeros

  length_padded : length padded ≡ 8
  length_padded = length-append bs _ ∙ omega (arith, few, length-drop (length bs) zeros)

  padded_at : (k : ℕ) → get_or padded k 0 ≡ get_or bs k 0
  padded_at k =
      ⊎_elim
      (λ (l : k < length bs). get_or_append_left bs _ 0 k l)
      (λ (l : length bs ≤ k). get_or-append_right bs _ (length bs) k 0 refl l ∙ get_or-drop (length bs) zeros (k - length bs) 0 ∙ zero_at (length bs + (k - length bs)) ∙ sym (get_or_past bs k 0 l))
      (cases_lt k (length bs))

  -- they are read as they are packed
  pub packed_padded : from_be_bytes w64 padded ≡ packed bs
  packed_padded = λ i. padded_at 0 i * 72057594037927936 + padded_at 1 i * 281474976710656 + padded_at 2 i * 1099511627776 + padded_at 3 i * 4294967296 + padded_at 4 i * 16777216 + padded_at 5 i * 65536 + padded_at 6 i * 256 + padded_at 7 i

module _ (bs : List ℕ) (form : NameForm bs) where
  at_range : (k : ℕ) → k < length bs → (47 < get_or bs k 0) × (get_or bs k 0 < 123)
  at_range k h = plain_range (get_or bs k 0) (All-get_or (λ b. letter_or_digit b ≡ true) bs k 0 h form.plain)

  small : (k : ℕ) → get_or bs k 0 < 256
  small k = ⊎_elim (λ h. omega (arith, at_range k h)) (λ h. omega (arith, get_or_past bs k 0 h)) (cases_lt k (length bs))

  bytes_packed : bytes_of (packed bs) ≡ padded bs form.few
  bytes_packed = be_bytes_8 (padded bs form.few) (packed bs) (length_padded bs form.few) (λ i. omega (arith, padded_at bs form.few i, small i)) (sym (packed_padded bs form.few))

  -- a name is written as it was before it was packed
  pub name_back : name_bytes (packed bs) ≡ bs
  name_back =
      ap up_to_zero bytes_packed
      ∙ sym (up_to_zero_lem (padded bs form.few) (length bs) (omega (arith, form.few, length_padded bs form.few)) (λ k h e. omega (arith, at_range k h, padded_at bs form.few k)) (λ h. padded_at bs form.few (length bs) ∙ get_or_past bs (length bs) 0 (omega arith)))
      ∙ take-append-le (length bs) bs _ (omega arith)
      ∙ take_all (length bs) bs (omega arith)

-- the bytes that are written of a name are those of its form
pub name_form : (n : ℕ) → IsName n → NameForm (name_bytes n) × (n ≡ packed (name_bytes n))
name_form n (bs, form, e) =
    let same : bs ≡ name_bytes n = sym (name_back bs form) ∙ ap name_bytes (sym e) in
    (subst NameForm same form, e ∙ ap packed same)

-- 64 bits are a name if they are what is packed of the bytes that are written of them
pub packs_back : (n : ℕ) (o : Option ℕ) → MatchOption o (NameForm (name_bytes n) → ⊥) (λ m. NameForm (name_bytes n) × (m ≡ packed (name_bytes n))) → Decides (option_eq eqb o (Some n)) (IsName n)
packs_back n (Some m) h = (λ t. (name_bytes n, h.0, sym (eqb-true m n t) ∙ h.1), λ p. eq-eqb m n (h.1 ∙ sym (name_form n p).1))
packs_back n None h = (λ t. absurd (true≢false (sym t)), λ p. absurd (h (name_form n p).0))

-- two names that are written the same are the same
pub same_from_name : (m n : ℕ) → IsName m → IsName n → name_bytes m ≡ name_bytes n → m ≡ n
same_from_name m n p q e = (name_form m p).1 ∙ ap packed e ∙ sym (name_form n q).1
