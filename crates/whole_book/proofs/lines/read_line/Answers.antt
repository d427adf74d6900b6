use Rattle.std.proofs.Common.{◌+◌, subst, inr}
use Rattle.std.proofs.lemmas.Option.{MatchOption-at_some}
use Rattle.book_words.specs.Cuts.{words_of, part}
use Rattle.whole_book.specs.Lines.{HeadSays}
use Rattle.whole_book.specs.Took.{BodyStopped}
use Rattle.whole_book.proofs.Stopping.{line_took, in_line}
use Rattle.whole_book.proofs.lines.read_line.Goals as goal

pub returns-in-Ok : goal.returns-in-Ok
returns-in-Ok c =
    let h = MatchOption-at_some _ _ _ c.in_ok-head.ensures.ok_part c.head_of.ensures in
    line_took c.args.listed c.args.tokens.now c.args.at c.line_end-end.result c.in-Ok.entry c.in_ok-head.head c.line_end-end.ensures.ahead c.line_end-end.ensures.inside
    (subst (HeadSays c.args.listed c.in_ok-head.head) c.word_at.ensures h) c.in-Ok.ensures

pub returns-in-Err-Wrong : goal.returns-in-Err-Wrong
returns-in-Err-Wrong c =
    let ts = c.args.tokens.now in
    let e = c.line_end-end.result in
    let h = MatchOption-at_some _ _ _ c.in_ok-head.ensures.ok_part c.head_of.ensures in
    let w = subst (BodyStopped c.args.listed.properties c.in_ok-head.head (words_of (part ts (c.args.at + 1) e))) c.in-Err-Wrong.field-0-is c.in-Err-Wrong.ensures in
    inr (in_line c.args.listed ts c.args.at e c.in-Err-Wrong.n c.in_ok-head.head (subst (HeadSays c.args.listed c.in_ok-head.head) c.word_at.ensures h) c.line_end-end.ensures.ends w)
