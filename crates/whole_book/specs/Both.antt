-- A table text and a book text read together into a host.
use Rattle.std.specs.Prelude.{◌≡◌, ℕ, List, map, length, Some, None, Ok, Err, Option, Result}
use Rattle.std.specs.List.{range_with_len}
use Rattle.host.specs.Tables.{row_at}
use Rattle.host.specs.declared.rows.Row.{Row}
use Rattle.host.specs.declared.refusals.Refusal.{Refusal}
use Rattle.host.specs.declared.refusals.Refusal.TheVariants.{TableWord, BeyondCapacity, BookWord}
use Rattle.ftpl.specs.declared.books.Book.{Book}
use Rattle.table_text.specs.Marks.{ReadAs, WrongIn as WrongInTable}
use Rattle.table_text.specs.Placed.{Within}
use Rattle.whole_book.specs.declared.both.TextsError.{TextsError}
use Rattle.whole_book.specs.declared.both.TextsError.TheVariants as why
use Rattle.whole_book.specs.declared.books.BookError.{BookError}
use Rattle.whole_book.specs.declared.books.BookError.TheVariants as book
use Rattle.whole_book.specs.Texts.{BookText, WrongIn as WrongInBook}

abbrev pub refusal_of : TextsError → Option Refusal
refusal_of (why.Table w) = Some (TableWord w.line w.byte)
refusal_of why.Beyond = Some BeyondCapacity
refusal_of (why.Book w) = Some (BookWord w.line w.byte)
refusal_of why.Memory = None

-- why two texts are refused where the book text is
abbrev pub why_of : BookError → TextsError
why_of (book.Wrong w) = why.Book w
why_of book.Memory = why.Memory

-- the table text says the table t, whose filled rows all have a place among the first n
abbrev pub Fits : List ℕ → ℕ → List Row → Type 0
Fits table n t = ReadAs table t × Within t n

-- why two texts are refused where the host has n places: the first reason that holds, of a wrong word in the table text,
-- a place beyond the host, and a wrong word in the book text
abbrev pub Refused : List ℕ → List ℕ → ℕ → TextsError → Type 0
Refused table book n (why.Table w) = WrongInTable table w
Refused table book n why.Beyond = (t : List Row) × ReadAs table t × (Within t n → ⊥)
Refused table book n (why.Book w) = ((t : List Row) × Fits table n t) × WrongInBook book w
Refused table book n why.Memory = (t : List Row) × Fits table n t

-- what the two texts make of a host h with its rows, and what is answered; a refusal leaves the host as it was
module _ {H : Type 0} (rows : H → List Row) (held : H → H → Type 0) (table book : List ℕ) where
  abbrev pub TextsRead : H → Result Book TextsError → H → Type 0
  TextsRead h (Ok b) k = ((t : List Row) × Fits table (length (rows h)) t × (rows k ≡ map (row_at t) (range_with_len 0 (length (rows h))))) × held h k × BookText book b
  TextsRead h (Err e) k = (k ≡ h) × Refused table book (length (rows h)) e
