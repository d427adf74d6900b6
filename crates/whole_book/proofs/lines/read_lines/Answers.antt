use Rattle.std.proofs.Common.{subst, arith}
use Rattle.std.proofs.lemmas.List.{take_all}
use Rattle.book_words.specs.Cuts.{words_of}
use Rattle.book_text.proofs.Steps.{as_long}
use Rattle.whole_book.specs.Books.{BookSays}
use Rattle.whole_book.proofs.Adding.{empty_book}
use Rattle.whole_book.proofs.lines.read_lines.Goals as goal

pub loop-at-init : goal.loop-at-init
loop-at-init c = (omega arith, empty_book (record { properties = c.new.result; conditions = c.new-2.result; formulas = c.new-3.result }) c.new.ensures.items c.new-2.ensures.items c.new-3.ensures.items)

pub loop-at-preserved : goal.loop-at-preserved
loop-at-preserved c = (omega (arith, c.in_ok-at.ensures.inside, as_long c.args.tokens.now), c.in_ok-at.ensures.says)

pub returns : goal.returns
returns c = subst (BookSays c.loop-at.book) (take_all c.loop-at.at (words_of c.args.tokens.now) (omega (arith, as_long c.args.tokens.now))) c.loop-at.invariant.1
