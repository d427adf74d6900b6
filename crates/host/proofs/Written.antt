-- To write a row into packed words sets that row, and no other.
use Rattle.std.proofs.Common.{◌≡◌, ℕ, ◌+◌, ◌-◌, ◌*◌, ◌/◌, ◌%◌, ◌^◌, ◌<◌, ◌≤◌, min, ◌⊎◌, List, ◌++◌, length, get_or, take, drop, set, sym, refl, ap, ◌∙◌, inl, inr, ⊎_elim, arith, length-append, length-drop, length-set, w32, SFits, to_z}
use borrow.Rule.Slice.PartMut.{put_mid}
use Rattle.std.proofs.lemmas.List.FromFn.{length-map-range_with_len, get_or-map-range_with_len}
use Rattle.std.proofs.lemmas.List.{same_lists, length-take-le, get_or-take, get_or-drop, get_or_append_left, get_or-append_right, get_or-set_same, get_or-set_other, drop-drop}
use Rattle.std.proofs.lemmas.Int.{to_z-of_z}
use Rattle.std.proofs.lemmas.Bool.{cases_eq, cases_lt}
use Rattle.host.specs.declared.rows.Row.{Row}
use Rattle.host.specs.Packing.{row_of, words_of, row_in, put, room, rows_in, Spared}

-- each part of a row fits its type
pub record Fits (r : Row) : Type 0 where
  pub kind : r.kind < 256
  pub owner : r.owner < 256
  pub link : r.link < 256
  pub lo : SFits w32 r.lo
  pub hi : SFits w32 r.hi
  pub value : SFits w32 r.value

-- three bytes in one word, and out of it
module _ (k o l : ℕ) (pk : k < 256) (po : o < 256) (pl : l < 256) where
  kind_of : (k + 256 * o + 65536 * l) % 256 ≡ k
  kind_of = omega arith

  owner_of : (k + 256 * o + 65536 * l) / 256 % 256 ≡ o
  owner_of = omega arith

  link_of : (k + 256 * o + 65536 * l) / 65536 % 256 ≡ l
  link_of = omega arith

module _ (ws : List ℕ) (p : ℕ) (r : Row) (inside : 8 * p + 8 ≤ length ws) where
  front : length (take (8 * p) ws) ≡ 8 * p
  front = length-take-le (8 * p) ws (omega arith)

  pub length_put : length (put ws p r) ≡ length ws
  length_put = length-append (take (8 * p) ws) _ ∙ omega (arith, front, length-append (words_of r) (drop (8 * p + 7) ws), length-drop (8 * p + 7) ws)

  -- a word of the row
  own : (j : ℕ) → j < 7 → get_or (put ws p r) (8 * p + j) 0 ≡ get_or (words_of r) j 0
  own j h =
      let e : 8 * p + j - 8 * p ≡ j = omega arith in
      get_or-append_right (take (8 * p) ws) (words_of r ++ drop (8 * p + 7) ws) (8 * p) (8 * p + j) 0 front (omega arith) ∙ ap (λ k. get_or (words_of r ++ drop (8 * p + 7) ws) k 0) e ∙ get_or_append_left (words_of r) (drop (8 * p + 7) ws) 0 j h

  -- any other word
  pub other : (k : ℕ) → (k < 8 * p) ⊎ (8 * p + 7 ≤ k) → get_or (put ws p r) k 0 ≡ get_or ws k 0
  other k =
      ⊎_elim
      (λ h. get_or_append_left (take (8 * p) ws) (words_of r ++ drop (8 * p + 7) ws) 0 k (omega (arith, front)) ∙ get_or-take (8 * p) ws k 0 h)
      (λ h.
      let e : 8 * p + 7 + (k - 8 * p - 7) ≡ k = omega arith in
      get_or-append_right (take (8 * p) ws) (words_of r ++ drop (8 * p + 7) ws) (8 * p) k 0 front (omega arith)
      ∙ get_or-append_right (words_of r) (drop (8 * p + 7) ws) 7 (k - 8 * p) 0 refl (omega arith)
      ∙ get_or-drop (8 * p + 7) ws (k - 8 * p - 7) 0
      ∙ ap (λ n. get_or ws n 0) e)

  -- the row that was written is read back
  here : Fits r → row_in (put ws p r) p ≡ r
  here f =
      let e : 8 * p + 0 ≡ 8 * p = omega arith in
      let w0 = sym (ap (λ k. get_or (put ws p r) k 0) e) ∙ own 0 (omega arith) in
      let k = kind_of r.kind r.owner r.link f.kind f.owner f.link in
      let o = owner_of r.kind r.owner r.link f.kind f.owner f.link in
      let l = link_of r.kind r.owner r.link f.kind f.owner f.link in
      let n : r.name / 2 ^ 32 * 2 ^ 32 + r.name % 2 ^ 32 ≡ r.name = omega arith in
      λ i. record {
        kind = (ap (λ a. a % 256) w0 ∙ k) i;
        owner = (ap (λ a. a / 256 % 256) w0 ∙ o) i;
        link = (ap (λ a. a / 65536 % 256) w0 ∙ l) i;
        name = ((λ i. own 1 (omega arith) i * 2 ^ 32 + own 2 (omega arith) i) ∙ n) i;
        up = own 3 (omega arith) i;
        lo = (ap (to_z w32) (own 4 (omega arith)) ∙ to_z-of_z w32 r.lo f.lo) i;
        hi = (ap (to_z w32) (own 5 (omega arith)) ∙ to_z-of_z w32 r.hi f.hi) i;
        value = (ap (to_z w32) (own 6 (omega arith)) ∙ to_z-of_z w32 r.value f.value) i;
      }

  -- any other row is as it was
  there : (q : ℕ) → (q ≡ p → ⊥) → row_in (put ws p r) q ≡ row_in ws q
  there q away =
      let o = λ (k : ℕ) (l : 8 * q ≤ k) (h : k < 8 * q + 7). other k (⊎_elim (λ (x : q < p). inl (omega arith)) (λ (x : p ≤ q). inr (omega (arith, away))) (cases_lt q p)) in
      λ i. row_of (o (8 * q) (omega arith) (omega arith) i) (o (8 * q + 1) (omega arith) (omega arith) i) (o (8 * q + 2) (omega arith) (omega arith) i) (o (8 * q + 3) (omega arith) (omega arith) i) (o (8 * q + 4) (omega arith) (omega arith) i) (o (8 * q + 5) (omega arith) (omega arith) i) (o (8 * q + 6) (omega arith) (omega arith) i)

pub length_rows : (ws : List ℕ) → length (rows_in ws) ≡ room ws
length_rows ws = length-map-range_with_len (row_in ws) 0 (room ws)

pub read_row_lem : (ws : List ℕ) (p : ℕ) (d : Row) → p < room ws → get_or (rows_in ws) p d ≡ row_in ws p
read_row_lem ws p d h = get_or-map-range_with_len (row_in ws) 0 (room ws) p p d h (omega arith)

pub room_inside : (ws : List ℕ) (p : ℕ) → p < room ws → 8 * p + 8 ≤ length ws
room_inside ws p h = omega arith

module _ (ws : List ℕ) (p : ℕ) (r : Row) (h : p < room ws) where
  inside : 8 * p + 8 ≤ length ws
  inside = room_inside ws p h

  same_room : room (put ws p r) ≡ room ws
  same_room = ap (λ n. min 255 (n / 8)) (length_put ws p r inside)

  -- to write a row sets it, and no other
  pub rows_put : Fits r → rows_in (put ws p r) ≡ set (rows_in ws) p r
  rows_put f =
      same_lists _ _
      (length_rows (put ws p r) ∙ same_room ∙ sym (length_rows ws) ∙ sym (length-set (rows_in ws) p r))
      (λ k d l.
      let l' : k < room (put ws p r) = omega (arith, length_rows (put ws p r)) in
      let l'' : k < room ws = omega (arith, same_room) in
      ⊎_elim
      (λ (e : k ≡ p). read_row_lem (put ws p r) k d l' ∙ ap (row_in (put ws p r)) e ∙ here ws p r inside f ∙ sym (get_or-set_same (rows_in ws) p r d (omega (arith, length_rows ws))) ∙ ap (λ i. get_or (set (rows_in ws) p r) i d) (sym e))
      (λ (ne : k ≡ p → ⊥). read_row_lem (put ws p r) k d l' ∙ there ws p r inside k ne ∙ sym (read_row_lem ws k d l'') ∙ sym (get_or-set_other (rows_in ws) p k r d ne))
      (cases_eq k p))

  pub others_put : (k : ℕ) → (k / 8 ≡ p → ⊥) → get_or (put ws p r) k 0 ≡ get_or ws k 0
  others_put k away = other ws p r inside k (⊎_elim (λ (x : k < 8 * p). inl x) (λ (x : 8 * p ≤ k). inr (⊎_elim (λ (y : k < 8 * p + 8). absurd (away (omega arith))) (λ y. omega arith) (cases_lt k (8 * p + 8)))) (cases_lt k (8 * p)))

  pub spared_put : Spared ws (put ws p r)
  spared_put = record {
    long = length_put ws p r inside;
    spare = λ q. other ws p r inside (8 * q + 7) (⊎_elim (λ (x : q < p). inl (omega arith)) (λ (x : p ≤ q). inr (omega arith)) (cases_lt q p));
    behind = λ k l. other ws p r inside k (inr (omega (arith, h)));
  }

-- a part of the words that is overwritten by a row's seven is the words with the row put there
pub put_is : (ws vs : List ℕ) (p : ℕ) (r : Row) → vs ≡ words_of r → put_mid (8 * p) (8 * p + 7 - 8 * p) ws vs ≡ put ws p r
put_is ws vs p r e =
    let n : 8 * p + 7 - 8 * p ≡ 7 = omega arith in
    (λ i. take (8 * p) ws ++ (e i ++ drop (n i) (drop (8 * p) ws))) ∙ ap (λ t. take (8 * p) ws ++ (words_of r ++ t)) (drop-drop 7 (8 * p) ws)
