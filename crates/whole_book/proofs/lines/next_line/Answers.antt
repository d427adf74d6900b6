use Rattle.std.proofs.Common.{◌<◌, length, take, subst, arith, rules}
use Rattle.book_words.specs.Cuts.{words_of}
use Rattle.book_text.proofs.Moves.{stops_with}
use Rattle.book_text.proofs.Steps.{as_long}
use Rattle.whole_book.specs.Took.{LineTook, LineStopped}
use Rattle.whole_book.proofs.Adding.{few_listed}
use Rattle.whole_book.proofs.Stopping.{line_stopped, line_taken}
use Rattle.whole_book.proofs.lines.next_line.Goals as goal

pub listed_in-requires : goal.listed_in-requires
listed_in-requires c =
    let b = c.args.book.now in
    let f = few_listed b (take c.args.at (words_of c.args.tokens.now)) c.requires.1 in
    (omega (arith, f.0, b.properties.ok.0), (omega (arith, f.1, b.conditions.ok.0), omega (arith, f.2, b.formulas.ok.0)))

pub returns-in_err-line : goal.returns-in_err-line
returns-in_err-line c =
    let s = words_of c.args.tokens.now in
    let h : c.args.at < length s = omega (arith, c.requires.0, as_long c.args.tokens.now) in
    let e = c.in_err-line.field-0.0 in
    stops_with _ _ c.from_residual.result e (search rules)
    (line_stopped c.args.book.now s c.args.at h c.requires.1 e (subst (λ z. LineStopped z s c.args.at e) c.listed_in.ensures c.in_err-line.ensures))

pub returns : goal.returns
returns c =
    let s = words_of c.args.tokens.now in
    let h : c.args.at < length s = omega (arith, c.requires.0, as_long c.args.tokens.now) in
    line_taken c.args.book.now s c.args.at h c.requires.1 c.enter.new.book c.in_ok-line.line (subst (λ z. LineTook z s c.args.at c.in_ok-line.line) c.listed_in.ensures c.in_ok-line.ensures) c.in_ok-enter.ensures
