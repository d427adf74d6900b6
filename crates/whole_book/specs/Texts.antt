-- A book as text.
use Rattle.std.specs.Prelude.{◌≡◌, ℕ, List, Ok, Err, Result}
use Rattle.ftpl.specs.declared.books.Book.{Book}
use Rattle.book_words.specs.declared.bytes.Class.TheVariants.{Line}
use Rattle.book_words.specs.Layout.{Laid}
use Rattle.book_words.specs.Wrong.{FirstWrong}
use Rattle.table_text.specs.Texts.{Stands}
use Rattle.table_text.specs.declared.words.WrongWord.{WrongWord}
use Rattle.book_text.specs.Rules.{Text}
use Rattle.whole_book.specs.declared.books.BookError.{BookError}
use Rattle.whole_book.specs.declared.books.BookError.TheVariants.{Wrong, Memory}
use Rattle.whole_book.specs.Books.{BookSays, IsBook}

-- the text is a layout of the words of just this book
abbrev pub BookText : List ℕ → Book → Type 0
BookText s b = (p : List Text) × BookSays b p × Laid Line p s

-- w is the word v at an offset of s, with its line and byte
pub record Located (s : List ℕ) (at : ℕ) (v : List ℕ) (w : WrongWord) : Type 0 where
  pub offset : w.at ≡ at
  pub word : w.word.now ≡ v
  pub stands : Stands s w.at w.line w.byte

-- w is the first word that no book text can have where it stands in s, with its line and byte
pub record WrongIn (s : List ℕ) (w : WrongWord) : Type 0 where
  pub first : FirstWrong IsBook s w.at w.word.now
  pub stands : Stands s w.at w.line w.byte

abbrev pub BookRefused : List ℕ → BookError → Type 0
BookRefused s (Wrong w) = WrongIn s w
BookRefused s Memory = Unit {0}

-- a book text is not refused for a wrong word
abbrev pub Passes : Result Book BookError → Type 0
Passes (Ok b) = Unit {0}
Passes (Err (Wrong w)) = ⊥
Passes (Err Memory) = Unit {0}
