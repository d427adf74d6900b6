use Rattle.std.proofs.Common.{◌≤◌, arith, rules}
use Rattle.book_words.specs.Cuts.{words_of}
use Rattle.book_text.proofs.Moves.{stops_with}
use Rattle.book_text.proofs.Steps.{as_long}
use Rattle.formula_text.proofs.Opened.{no_properties, front_failed, front_took, front_behind}
use Rattle.formula_text.proofs.rules.read_formula.Goals as goal

pub returns-then-count-eq0 : goal.returns-then-count-eq0
returns-then-count-eq0 c = no_properties c.args.count (words_of c.args.words.now) (omega arith)

pub returns-in_err-line_start : goal.returns-in_err-line_start
returns-in_err-line_start c =
    let e = c.in_err-line_start.field-0.0 in
    let m : 1 ≤ c.args.count = omega arith in
    stops_with _ _ c.from_residual.result e (search rules) (c.in_err-line_start.ensures c.args.count m)

pub returns-in_err-line : goal.returns-in_err-line
returns-in_err-line c =
    let s = words_of c.args.words.now in
    let m : 1 ≤ c.args.count = omega arith in
    let a = c.in_ok-line_start.field-0 in
    let e = c.in_err-line.field-0.0 in
    stops_with _ _ c.from_residual-in_err-line.result e (search rules) (front_failed c.args.count s a m (c.in_ok-line_start.ensures c.args.count m) e c.in_err-line.ensures)

pub returns-then-line-words : goal.returns-then-line-words
returns-then-line-words c =
    let s = words_of c.args.words.now in
    let m : 1 ≤ c.args.count = omega arith in
    let a = c.in_ok-line_start.field-0 in
    front_took c.args.count s a m (c.in_ok-line_start.ensures c.args.count m) c.in_ok-line.line c.in_ok-line.ensures (omega (arith, as_long c.args.words.now, c.if-line-words.true))

pub returns-else-line-words : goal.returns-else-line-words
returns-else-line-words c =
    let s = words_of c.args.words.now in
    let m : 1 ≤ c.args.count = omega arith in
    let a = c.in_ok-line_start.field-0 in
    front_behind c.args.count s a m (c.in_ok-line_start.ensures c.args.count m) c.in_ok-line.line c.in_ok-line.ensures (λ e. omega (arith, as_long c.args.words.now, c.if-line-words.false, e))
