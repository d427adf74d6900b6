use Rattle.std.proofs.Common.{◌≤◌, length, vec_items, subst, arith}
use Rattle.book_words.specs.Cuts.{words_of}
use Rattle.book_words.proofs.Told.{text_wrong, text_broken, no_text}
use Rattle.whole_book.specs.Books.{IsBook}
use Rattle.whole_book.specs.Took.{Stopped}
use Rattle.whole_book.proofs.Adding.{some_book}
use Rattle.whole_book.proofs.Counting.{book_proper}
use Rattle.whole_book.proofs.Locating.{wrong_in}
use Rattle.whole_book.proofs.books.read_book.Goals as goal

pub returns-in-Ok-2 : goal.returns-in-Ok-2
returns-in-Ok-2 c =
    let w = c.in_ok-words.words in
    let s = c.args.text.now in
    let k = c.in_ok-words.ensures in
    let xs = c.as_slice.result.now in
    let n : length (vec_items w.tokens) ≤ c.len.result = omega (arith, c.len.ensures, w.tokens.ok.0) in
    let r = c.point-token.result in
    let p = c.point-token.ensures in
    let f = wrong_in s r c.located.result (text_broken IsBook book_proper s w k xs c.as_slice.ensures.value c.len.result r p (some_book c.in-Ok.book (words_of xs) c.in-Ok.ensures) n (λ e. omega (arith, c.if-words-text.false, e))) c.located.ensures in
    record { answer = f; passes = no_text IsBook s _ _ f.first }

pub returns-in-Err-Wrong : goal.returns-in-Err-Wrong
returns-in-Err-Wrong c =
    let s = c.args.text.now in
    let k = c.in_ok-words.ensures in
    let xs = c.as_slice.result.now in
    let h = c.in-Err-Wrong in
    let f = subst (Stopped (words_of xs)) h.field-0-is h.ensures in
    let r = c.point.result in
    let g = wrong_in s r c.located-in-Err-Wrong.result (text_wrong IsBook book_proper s c.in_ok-words.words k xs c.as_slice.ensures.value h.n r c.point.ensures f) c.located-in-Err-Wrong.ensures in
    record { answer = g; passes = no_text IsBook s _ _ g.first }
