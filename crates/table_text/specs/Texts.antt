-- Which bytes are table texts, and where the first wrong word of other bytes stands.
use Rattle.std.specs.Prelude.{◌≡◌, ℕ, ◌+◌, ◌-◌, ◌<◌, ◌≤◌, Bool, true, false, ◌||◌, ◌⊎◌, List, [], ◌∷◌, ◌++◌, length, take, drop, pos, negsuc, ◌≤ℤ◌, count_by, ◌==◌, ◌≢◌, nat_eq, slice_index}
use Rattle.std.specs.List.{AllByRecursion}
use Rattle.host.specs.Names.{IsName}
use Rattle.host.specs.Tables.{empty_row}
use Rattle.host.specs.declared.rows.Row.{Row}
use Rattle.table_text.specs.Lines.{text_of_table}

-- a filled row that a line can say
pub record Sayable (r : Row) : Type 0 where
  pub filled : 0 < r.kind
  pub kind : r.kind ≤ 4
  pub name : IsName r.name
  pub owner : r.owner ≤ 255
  pub link : r.link ≤ 255
  pub up : r.up ≤ 1
  pub lo : (negsuc 999999 ≤ℤ r.lo) × (r.lo ≤ℤ pos 1000000)
  pub hi : (negsuc 999999 ≤ℤ r.hi) × (r.hi ≤ℤ pos 1000000)
  pub value : (negsuc 999999 ≤ℤ r.value) × (r.value ≤ℤ pos 1000000)

-- a table that a text can say: at most 255 rows, each the empty row or one that a line can say
pub record SayableTable (t : List Row) : Type 0 where
  pub few : length t ≤ 255
  pub rows : AllByRecursion (λ r. (r ≡ empty_row) ⊎ Sayable r) t

-- a table text: the written form of such a table
abbrev pub TableText : List ℕ → Type 0
TableText s = (t : List Row) × SayableTable t × (s ≡ text_of_table t)

-- a blank or a newline, which part words
abbrev pub parts : ℕ → Bool
parts b = b == 32 || b == 10

-- a word holds neither
abbrev pub Word : List ℕ → Type 0
Word w = AllByRecursion (λ b. parts b ≡ false) w

-- a word ends where nothing follows, or a blank, or a newline
abbrev pub Ended : List ℕ → Type 0
Ended [] = Unit {0}
Ended (b ∷ s) = parts b ≡ true

-- The word w at offset `at` of s is the first that no table text can have there.
-- What stands before it, less the blank that parts it from the word before, goes on to a table text;
-- and no table text goes on with this word. An empty word is told by what ends it, so that a line
-- that ends too early lacks a word while the same line may go on after a blank.
pub record FirstWrong (s : List ℕ) (at : ℕ) (w : List ℕ) : Type 0 where
  pub part : (at + length w ≤ length s) × (take (length w) (drop at s) ≡ w)
  pub whole : Word w × Ended (drop (at + length w) s)
  pub before : (front after : List ℕ) × ((take at s ≡ front) ⊎ (take at s ≡ front ++ (32 ∷ []))) × Ended after × TableText (front ++ after)
  pub never : (after : List ℕ) → Ended after → (w ≡ [] → take 1 after ≡ take 1 (drop (at + length w) s)) → TableText (take at s ++ (w ++ after)) → ⊥

-- Offset `at` of s lies in this line, counted from 1, at this byte of it, counted from 0.
pub record Stands (s : List ℕ) (at line byte : ℕ) : Type 0 where
  pub lines : line ≡ 1 + count_by (λ b. nat_eq b 10) (take at s)
  pub back : byte ≤ at
  pub within : (k : ℕ) → at ≤ k + byte → k < at → slice_index s k ≢ 10
  pub start : (byte ≡ at) ⊎ (slice_index s (at - byte - 1) ≡ 10)
