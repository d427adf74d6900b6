-- The first wrong word with its line and byte.
use Rattle.std.proofs.Common.{◌≡◌, ℕ, ◌+◌, ◌≤◌, List, length, take, drop, sym, subst}
use Rattle.book_words.specs.declared.tokens.Token.{Token}
use Rattle.book_words.specs.Wrong.{FirstWrong}
use Rattle.table_text.specs.declared.words.WrongWord.{WrongWord}
use Rattle.whole_book.specs.Books.{IsBook}
use Rattle.host.specs.declared.rows.Row.{Row}
use Rattle.whole_book.specs.declared.books.BookError.{BookError}
use Rattle.whole_book.specs.declared.books.BookError.TheVariants.{Wrong, Memory}
use Rattle.whole_book.specs.Both.{Fits, Refused, why_of}
use Rattle.whole_book.specs.Texts.{Located, WrongIn, BookRefused}

pub wrong_in : (s : List ℕ) (r : Token) (w : WrongWord) → FirstWrong IsBook s r.at r.word.now → (r.at + length r.word.now ≤ length s → take (length r.word.now) (drop r.at s) ≡ r.word.now → Located s r.at r.word.now w) → WrongIn s w
wrong_in s r w f l =
    let m = l f.inside f.word in
    record {
      first = subst (λ z. FirstWrong IsBook s z w.word.now) (sym m.offset) (subst (FirstWrong IsBook s r.at) (sym m.word) f);
      stands = m.stands;
    }

-- where the book text is refused, both texts are
pub book_refused : (table book : List ℕ) (n : ℕ) (t : List Row) (e : BookError) → Fits table n t → BookRefused book e → Refused table book n (why_of e)
book_refused table book n t (Wrong w) f h = ((t, f), h)
book_refused table book n t Memory f h = (t, f)
