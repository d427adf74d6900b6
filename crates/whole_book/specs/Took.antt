-- What was read from an index on, and where a reader stopped.
use Rattle.std.specs.Prelude.{◌≡◌, ℕ, ◌+◌, ◌<◌, ◌≤◌, ◌⊎◌, List, [], ◌∷◌, ◌++◌, length, take, vec_items, codes, ◌≢◌, slice_index_or}
use Rattle.ftpl.specs.declared.books.Book.{Book}
use Rattle.book_words.specs.Cuts.{part}
use Rattle.book_words.specs.Among.{WrongAt}
use Rattle.book_text.specs.Rules.{Text}
use Rattle.book_text.specs.declared.parts.Stop.{Stop}
use Rattle.book_text.specs.declared.parts.Stop.TheVariants.{Wrong, Memory}
use Rattle.whole_book.specs.declared.entries.Listed.{Listed}
use Rattle.whole_book.specs.declared.entries.Head.{Head}
use Rattle.whole_book.specs.declared.entries.Entry.{Entry}
use Rattle.whole_book.specs.declared.entries.Entry.TheVariants.{Property, Condition, Formula}
use Rattle.whole_book.specs.declared.lines.Line.{Line}
use Rattle.whole_book.specs.Books.{BookSays, IsBook}
use Rattle.whole_book.specs.Lines.{HeadSays, Body, BodySays}

-- no line ends among the words from a up to e
abbrev pub NoEnd : List Text → ℕ → ℕ → Type 0
NoEnd s a e = (k : ℕ) → a ≤ k → k < e → slice_index_or s k [] ≢ codes "\n"

-- the line that goes on at a ends before e, or with the words
abbrev pub LineEnd : List Text → ℕ → ℕ → Type 0
LineEnd s a e = ((e ≡ length s) × NoEnd s a e) ⊎ ((m : ℕ) × (a ≤ m) × (m < length s) × (e ≡ m + 1) × (slice_index_or s m [] ≡ codes "\n") × NoEnd s a m)

abbrev pub BodyStopped : ℕ → Head → List Text → Stop → Type 0
BodyStopped k h s (Wrong e) = WrongAt (Body k h) s e
BodyStopped k h s Memory = Unit {0}

-- the book has what the line says behind what it had
abbrev pub Entered : Book → Entry → Book → Type 0
Entered b (Property x) c = (vec_items c.properties ≡ vec_items b.properties ++ (x ∷ [])) × (vec_items c.conditions ≡ vec_items b.conditions) × (vec_items c.formulas ≡ vec_items b.formulas)
Entered b (Condition n) c = (vec_items c.properties ≡ vec_items b.properties) × (vec_items c.conditions ≡ vec_items b.conditions ++ (n ∷ [])) × (vec_items c.formulas ≡ vec_items b.formulas)
Entered b (Formula x) c = (vec_items c.properties ≡ vec_items b.properties) × (vec_items c.conditions ≡ vec_items b.conditions) × (vec_items c.formulas ≡ vec_items b.formulas ++ (x ∷ []))

-- the words from a on are a line that may stand there
pub record LineTook (σ : Listed) (s : List Text) (a : ℕ) (x : Line) : Type 0 where
  pub ahead : a < x.next
  pub inside : x.next ≤ length s
  pub head : Head
  pub announced : HeadSays σ head (slice_index_or s a [])
  pub says : BodySays σ.properties head x.entry (part s (a + 1) x.next)

-- The line at a stopped being one at e: its first word may not stand there, or a later one.
pub record InLine (σ : Listed) (s : List Text) (a e : ℕ) : Type 0 where
  pub head : Head
  pub announced : HeadSays σ head (slice_index_or s a [])
  pub end : ℕ
  pub ends : LineEnd s (a + 1) end
  pub at : ℕ
  pub wrong : WrongAt (Body σ.properties head) (part s (a + 1) end) at
  pub there : e ≡ a + 1 + at

abbrev pub LineStopped : Listed → List Text → ℕ → Stop → Type 0
LineStopped σ s a (Wrong e) = ((e ≡ a) × ((h : Head) → HeadSays σ h (slice_index_or s a []) → ⊥)) ⊎ InLine σ s a e
LineStopped σ s a Memory = Unit {0}

-- the reader stopped at the first word that no book can have there, or for want of memory
abbrev pub Stopped : List Text → Stop → Type 0
Stopped s (Wrong e) = WrongAt IsBook s e
Stopped s Memory = Unit {0}

-- the words up to the next line say the book
pub record NextTook (s : List Text) (a : ℕ) (b : Book) (next : ℕ) : Type 0 where
  pub ahead : a < next
  pub inside : next ≤ length s
  pub says : BookSays b (take next s)
