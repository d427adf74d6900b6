-- What is wrong in the rest of a text, given that places below `next` are past.
use Rattle.std.specs.Prelude.{◌≡◌, ℕ, ◌-◌, ◌≤◌, ◌⊎◌, List, [], ◌∷◌, ◌++◌, length, take, drop, ◌≢◌}
use Rattle.table_text.specs.declared.lines.Line.{Line}
use Rattle.table_text.specs.declared.words.Span.{Span}
use Rattle.table_text.specs.Keys.{Fits}
use Rattle.table_text.specs.Lines.{line_text}
use Rattle.table_text.specs.Texts.{Word, Ended}

-- the bytes of a part
abbrev pub spanned : List ℕ → Span → List ℕ
spanned s e = take (e.end - e.at) (drop e.at s)

-- what stands before a wrong word of a line goes on to a line that fits
pub record Begun (next : ℕ) (s : List ℕ) (at : ℕ) : Type 0 where
  pub line : Line
  pub front : List ℕ
  pub after : List ℕ
  pub fits : Fits next line
  pub whole : front ++ after ≡ line_text line
  pub ended : Ended after
  pub parted : (take at s ≡ front) ⊎ (take at s ≡ front ++ (32 ∷ []))

-- a part of s is the first word that no line that fits can have there
pub record WrongInLine (next : ℕ) (s : List ℕ) (e : Span) : Type 0 where
  pub inside : (e.at ≤ e.end) × (e.end ≤ length s)
  pub word : Word (spanned s e)
  pub ended : Ended (drop e.end s)
  pub before : (e.at ≡ 0) ⊎ Begun next s e.at
  pub never : (l : Line) → Fits next l → (rest after : List ℕ) → Ended after → (spanned s e ≡ [] → take 1 after ≡ take 1 (drop e.end s)) → line_text l ++ rest ≢ take e.at s ++ (spanned s e ++ after)
