-- The lines of a table, one place after another.
use Rattle.std.proofs.Common.{◌≡◌, ℕ, suc, ◌+◌, ◌-◌, ◌<◌, ◌≤◌, Bool, true, false, cond, eqb, ◌⊎◌, List, [], ◌∷◌, ◌++◌, map, length, take, drop, set, sym, refl, ap, ◌∙◌, inl, inr, ⊎_elim, append_assoc, arith, length-append, eq-eqb}
use Rattle.std.specs.List.{flat_map, range_with_len}
use Rattle.std.proofs.lemmas.List.{take_more, append-nil, take-append-drop, length-take-le, take_all, set-append_right, drop_more, get_or_past}
use Rattle.std.proofs.lemmas.List.FromFn.{length-map-range_with_len, map-range_with_len_more, get_or-map-range_with_len}
use Rattle.std.proofs.lemmas.Bool.{cond-true, cases_lt}
use Rattle.table_text.specs.Placed.{Within}
use Rattle.host.specs.Tables.{empty_row, row_at}
use Rattle.host.specs.declared.rows.Row.{Row}
use Rattle.table_text.specs.declared.lines.Line.{Line}
use Rattle.table_text.specs.Lines.{line_text, row_text, lines_of, text_of_table}
use Rattle.std.proofs.lemmas.Grind.{flat_map-append}

cond_append : {X : Type 0} (b : Bool) (x : X) (ys zs ws : List X) → ys ≡ zs ++ ws → cond b ys (x ∷ ys) ≡ cond b zs (x ∷ zs) ++ ws
cond_append true x ys zs ws e = e
cond_append false x ys zs ws e = ap (λ t. x ∷ t) e

pub lines_append : (p : ℕ) (t u : List Row) → lines_of p (t ++ u) ≡ lines_of p t ++ lines_of (p + length t) u
lines_append p [] u = ap (λ q. lines_of q u) (omega arith)
lines_append p (r ∷ t) u =
    let e : p + 1 + length t ≡ p + suc (length t) = omega arith in
    cond_append (eqb r.kind 0) _ (lines_of (p + 1) (t ++ u)) (lines_of (p + 1) t) (lines_of (p + suc (length t)) u) (lines_append (p + 1) t u ∙ ap (λ q. lines_of (p + 1) t ++ lines_of q u) e)

row_lines : (b : Bool) (l : Line) → flat_map line_text (cond b [] (l ∷ [])) ≡ cond b [] (line_text l)
row_lines true l = refl
row_lines false l = append-nil (line_text l)

-- the text of one row more
pub text_more : (t : List Row) (i : ℕ) → i < length t → text_of_table (take (i + 1) t) ≡ text_of_table (take i t) ++ row_text i (row_at t i)
text_more t i h =
    let n : 0 + length (take i t) ≡ i = omega (arith, length-take-le i t (omega arith)) in
    ap text_of_table (take_more t i empty_row h)
    ∙ ap (flat_map line_text) (lines_append 0 (take i t) (row_at t i ∷ []) ∙ ap (λ q. lines_of 0 (take i t) ++ lines_of q (row_at t i ∷ [])) n)
    ∙ flat_map-append line_text (lines_of 0 (take i t)) (lines_of i (row_at t i ∷ []))
    ∙ ap (λ s. text_of_table (take i t) ++ s) (row_lines (eqb (row_at t i).kind 0) (record { place = i; row = row_at t i }))

-- the text of the first rows is a front of the whole
pub text_front : (t : List Row) (i : ℕ) → length (text_of_table (take i t)) ≤ length (text_of_table t)
text_front t i =
    let e = sym (ap text_of_table (take-append-drop i t)) ∙ ap (flat_map line_text) (lines_append 0 (take i t) (drop i t)) ∙ flat_map-append line_text (lines_of 0 (take i t)) _ in
    omega (arith, ap length e, length-append (text_of_table (take i t)) (flat_map line_text (lines_of (0 + length (take i t)) (drop i t))))

pub text_all : (t : List Row) (i : ℕ) → length t ≤ i → text_of_table (take i t) ≡ text_of_table t
text_all t i h = ap text_of_table (take_all i t h)

-- a row's text, as it is spelled out
module _ (t : List Row) (i : ℕ) (h : i < length t) (bytes : List ℕ) (r : Row) (spelt : bytes ≡ row_text i r) (same : r ≡ row_at t i) where
  pub text_on : text_of_table (take (i + 1) t) ≡ text_of_table (take i t) ++ bytes
  text_on = text_more t i h ∙ ap (λ s. text_of_table (take i t) ++ s) (sym (spelt ∙ ap (row_text i) same))

  pub length_on : length (text_of_table (take (i + 1) t)) ≡ length (text_of_table (take i t)) + length bytes
  length_on = ap length text_on ∙ length-append (text_of_table (take i t)) bytes

-- one place more of a table that is filled from its start
pub fill_more : (f : ℕ → Row) (u : List Row) (i : ℕ) → i < length u → set (map f (range_with_len 0 i) ++ drop i u) i (f i) ≡ map f (range_with_len 0 (i + 1)) ++ drop (i + 1) u
fill_more f u i h =
    let n = length-map-range_with_len f 0 i in
    let z : i - i ≡ 0 = omega arith in
    set-append_right (map f (range_with_len 0 i)) (drop i u) i i (f i) n (omega arith)
    ∙ (λ j. map f (range_with_len 0 i) ++ set (drop_more u i empty_row h j) (z j) (f i))
    ∙ sym (append_assoc (map f (range_with_len 0 i)) (f i ∷ []) (drop (i + 1) u))
    ∙ ap (λ t. t ++ drop (i + 1) u) (sym (map-range_with_len_more f 0 i i (omega arith)))

-- two rows of which a text says the same: they are one row, or neither is filled
abbrev Alike : Row → Row → Type 0
Alike r s = (r ≡ s) ⊎ ((r.kind ≡ 0) × (s.kind ≡ 0))

unfilled : (r : Row) → Alike empty_row r → eqb r.kind 0 ≡ true
unfilled r = ⊎_elim (λ e. eq-eqb r.kind 0 (ap (λ x. x.kind) (sym e))) (λ e. eq-eqb r.kind 0 e.1)

turned : (r s : Row) → Alike r s → Alike s r
turned r s = ⊎_elim (λ e. inl (sym e)) (λ e. inr (e.1, e.0))

lines_alike : (p : ℕ) (t u : List Row) → ((k : ℕ) → Alike (row_at t k) (row_at u k)) → lines_of p t ≡ lines_of p u
lines_alike p [] [] h = refl
lines_alike p [] (y ∷ u) h = lines_alike (p + 1) [] u (λ k. h (suc k)) ∙ sym (cond-true (eqb y.kind 0) _ _ (unfilled y (h 0)))
lines_alike p (x ∷ t) [] h = cond-true (eqb x.kind 0) _ _ (unfilled x (turned x empty_row (h 0))) ∙ lines_alike (p + 1) t [] (λ k. h (suc k))
lines_alike p (x ∷ t) (y ∷ u) h =
    let ih = lines_alike (p + 1) t u (λ k. h (suc k)) in
    ⊎_elim
    (λ (e : x ≡ y). λ i. cond (eqb (e i).kind 0) (ih i) (record { place = p; row = e i } ∷ ih i))
    (λ e. cond-true (eqb x.kind 0) _ _ (eq-eqb x.kind 0 e.0) ∙ ih ∙ sym (cond-true (eqb y.kind 0) _ _ (eq-eqb y.kind 0 e.1)))
    (h 0)

-- a table has the same text in a host that has room for all its filled rows
pub text_placed : (t : List Row) (n : ℕ) → Within t n → text_of_table (map (row_at t) (range_with_len 0 n)) ≡ text_of_table t
text_placed t n within =
    ap (flat_map line_text) (lines_alike 0 (map (row_at t) (range_with_len 0 n)) t (λ k.
    ⊎_elim
    (λ (h : k < n). inl (get_or-map-range_with_len (row_at t) 0 n k k empty_row h (omega arith)))
    (λ (h : n ≤ k). inr (ap (λ r. r.kind) (get_or_past (map (row_at t) (range_with_len 0 n)) k empty_row (omega (arith, length-map-range_with_len (row_at t) 0 n))), within k h))
    (cases_lt k n)))
