-- A line with one value put in.
use Rattle.std.proofs.Common.{◌≡◌, ℕ, List, ℤ, pos, negsuc, ◌≤ℤ◌, sym, subst, w32, to_z, of_z}
use Rattle.std.specs.Fmt.{signed_decimal}
use Rattle.std.proofs.lemmas.Int.{to_z-of_z}
use Rattle.table_text.specs.declared.lines.Key.{Key}
use Rattle.table_text.specs.declared.lines.Line.{Line}
use Rattle.table_text.specs.Lines.{value_text}
use Rattle.table_text.specs.Keys.{Fits, before}
use Rattle.numerals.proofs.Spelling.{million_fits}

-- l is the line with what the text says put in behind the key k
abbrev pub Took : ℕ → List ℕ → Line → Line → Key → Type 0
Took next text line l k = Fits next l × (text ≡ value_text k l) × (before l k ≡ before line k)

pub took : {next : ℕ} {text : List ℕ} (line l : Line) (k : Key) {j : Key} → j ≡ k → Fits next l → text ≡ value_text k l → before l k ≡ before line k → Took next text line l j
took {next} {text} line l k e f v b = subst (Took next text line l) (sym e) (f, v, b)

-- a number that was read, as it stands in a row
abbrev pub ReadsAs : List ℕ → ℤ → Type 0
ReadsAs text z = (negsuc 999999 ≤ℤ z) × (z ≤ℤ pos 1000000) × (text ≡ signed_decimal z)

pub as_held : (text : List ℕ) (z : ℤ) → ReadsAs text z → ReadsAs text (to_z w32 (of_z w32 z))
as_held text z r = subst (ReadsAs text) (sym (to_z-of_z w32 z (million_fits z r.0 r.1))) r
