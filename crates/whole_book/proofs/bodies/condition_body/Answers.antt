use Rattle.std.proofs.Common.{[], get_or, codes, sym, refl, ap, ◌∙◌, arith}
use Rattle.std.specs.Str.{bytes_eq}
use Rattle.book_words.specs.Cuts.{words_of}
use Rattle.book_text.proofs.Lexical.{same_true}
use Rattle.book_text.proofs.Steps.{as_long}
use Rattle.whole_book.proofs.Ending.{only_end, behind_end}
use Rattle.whole_book.proofs.bodies.condition_body.Goals as goal

pub returns-then-words-gt1 : goal.returns-then-words-gt1
returns-then-words-gt1 c = λ k.
    let s = words_of c.args.words.now in
    behind_end k c.args.number s (same_true (get_or s 0 []) (codes "\n") (ap (λ z. bytes_eq z (codes "\n")) (sym c.word_at.ensures) ∙ sym c.if-not-is.ensures)) (omega (arith, as_long c.args.words.now))

pub returns : goal.returns
returns c = λ k.
    let s = words_of c.args.words.now in
    (refl, only_end s (same_true (get_or s 0 []) (codes "\n") (ap (λ z. bytes_eq z (codes "\n")) (sym c.word_at.ensures) ∙ sym c.if-not-is.ensures)) (omega (arith, as_long c.args.words.now)))
