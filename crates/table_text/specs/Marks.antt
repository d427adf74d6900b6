-- A wrong word as it is handed out.
use Rattle.std.specs.Prelude.{◌≡◌, ℕ, ◌-◌, List, length, take, drop}
use Rattle.host.specs.declared.rows.Row.{Row}
use Rattle.table_text.specs.declared.words.WrongWord.{WrongWord}
use Rattle.table_text.specs.Lines.{text_of_table}
use Rattle.table_text.specs.Texts.{Stands, FirstWrong, SayableTable}

-- w is the part of s from `at` up to `end`, with its line and byte
pub record Marks (s : List ℕ) (at end : ℕ) (w : WrongWord) : Type 0 where
  pub offset : w.at ≡ at
  pub part : w.word.now ≡ take (end - at) (drop at s)
  pub stands : Stands s at w.line w.byte

-- the text s is exactly the written form of the table t, of 255 rows
pub record ReadAs (s : List ℕ) (t : List Row) : Type 0 where
  pub long : length t ≡ 255
  pub sayable : SayableTable t
  pub text : s ≡ text_of_table t

-- w is the first wrong word of s as a table text, and where it says that it stands
pub record WrongIn (s : List ℕ) (w : WrongWord) : Type 0 where
  pub first : FirstWrong s w.at w.word.now
  pub stands : Stands s w.at w.line w.byte
