-- The packed image: eight 32-bit words to a row, the eighth of them spare.
use Rattle.std.specs.Prelude.{◌≡◌, ℕ, ◌+◌, ◌*◌, ◌/◌, ◌%◌, ◌^◌, ◌≤◌, min, List, [], ◌∷◌, ◌++◌, map, length, take, drop, slice_index, refl}
use Rattle.std.proofs.Common.{ap, ◌∙◌, arith, to_z, of_z}
use Rattle.std.specs.Int.{w32}
use Rattle.std.specs.List.{range_with_len}
use Rattle.std.proofs.lemmas.List.FromFn.{length-map-range_with_len}
use Rattle.host.specs.declared.rows.Row.{Row}

-- the row that seven words say: the first holds kind, owner and link, its top byte not read; signed numbers are in two's complement
abbrev pub row_of : ℕ → ℕ → ℕ → ℕ → ℕ → ℕ → ℕ → Row
row_of a b c d e f g = record {
  kind = a % 256;
  owner = a / 256 % 256;
  link = a / 65536 % 256;
  name = b * 2 ^ 32 + c;
  up = d;
  lo = to_z w32 e;
  hi = to_z w32 f;
  value = to_z w32 g;
}

-- the seven words of a row
abbrev pub words_of : Row → List ℕ
words_of r = (r.kind + 256 * r.owner + 65536 * r.link) ∷ (r.name / 2 ^ 32) ∷ (r.name % 2 ^ 32) ∷ r.up ∷ of_z w32 r.lo ∷ of_z w32 r.hi ∷ of_z w32 r.value ∷ []

-- the row at place p of some words
abbrev pub row_in : List ℕ → ℕ → Row
row_in ws p = row_of (slice_index ws (8 * p)) (slice_index ws (8 * p + 1)) (slice_index ws (8 * p + 2)) (slice_index ws (8 * p + 3)) (slice_index ws (8 * p + 4)) (slice_index ws (8 * p + 5)) (slice_index ws (8 * p + 6))

-- the words with a row's seven at place p, and all others as they were
abbrev pub put : List ℕ → ℕ → Row → List ℕ
put ws p r = take (8 * p) ws ++ (words_of r ++ drop (8 * p + 7) ws)

-- how many rows the words hold
abbrev pub room : List ℕ → ℕ
room ws = min 255 (length ws / 8)

abbrev pub rows_in : List ℕ → List Row
rows_in ws = map (row_in ws) (range_with_len 0 (room ws))

pub rows_small : (ws : List ℕ) → length (rows_in ws) ≤ 255
rows_small ws = omega (arith, length-map-range_with_len (row_in ws) 0 (room ws))

-- every spare word, and every word behind the last row, is as it was
pub record Spared (ws vs : List ℕ) : Type 0 where
  pub long : length vs ≡ length ws
  pub spare : (p : ℕ) → slice_index vs (8 * p + 7) ≡ slice_index ws (8 * p + 7)
  pub behind : (k : ℕ) → 8 * room ws ≤ k → slice_index vs k ≡ slice_index ws k

pub unspent : (ws : List ℕ) → Spared ws ws
unspent ws = record { long = refl; spare = λ p. refl; behind = λ k h. refl }

pub spared_on : {us vs ws : List ℕ} → Spared us vs → Spared vs ws → Spared us ws
spared_on {us} {vs} {ws} p q = record {
  long = q.long ∙ p.long;
  spare = λ k. q.spare k ∙ p.spare k;
  behind = λ k h. let n : room vs ≡ room us = ap (λ n. min 255 (n / 8)) p.long in q.behind k (omega (arith, n)) ∙ p.behind k h;
}
