use Rattle.std.proofs.Common.{◌≡◌, ◌+◌, sym, subst, arith, rules}
use Rattle.book_text.proofs.Moves.{stops_with, read_at}
use Rattle.formula_text.specs.States.{ready, bracket, Stuck}
use Rattle.formula_text.specs.Took.{IsList, ListTook, Lines, LineTook, Failed}
use Rattle.formula_text.specs.Words.{rule_words}
use Rattle.formula_text.proofs.Moves.{as_stop}
use Rattle.formula_text.proofs.Steps.{rule_long}
use Rattle.formula_text.proofs.Afters.{line_ended, line_failed, lists_failed, rest_failed, rest_took, too_many}
use Rattle.formula_text.proofs.readers.Reader.+read_line.Goals as goal

pub returns-in_err-ending : goal.returns-in_err-ending
returns-in_err-ending t c =
    let x = c.args.cursor in
    let e = c.in_err-ending.field-0.0 in
    stops_with _ _ c.from_residual.result e (search rules) (line_failed c.args.self.most c.args.lists (rule_words x.tokens.now) x.at c.requires e (c.in_err-ending.ensures c.args.lists))

pub returns-in_default : goal.returns-in_default
returns-in_default t c =
    let x = c.args.cursor in
    line_ended c.args.self.most c.args.lists (rule_words x.tokens.now) x.at c.requires c.in_ok-ending.ending (c.in_ok-ending.ensures c.args.lists)

pub returns-then-lists-eq3 : goal.returns-then-lists-eq3
returns-then-lists-eq3 t c =
    let n = c.args.self.most in
    let x = c.args.cursor in
    let s = rule_words x.tokens.now in
    let m : c.args.lists ≡ 3 = omega arith in
    subst (λ z. Stuck n (Lines n z) (ready z) s x.at x.at) (sym m) (too_many n s x.at c.args.self.some (omega (arith, rule_long x.tokens.now, x.inside)) c.in-Some.ensures.word)

pub returns-in_err-events : goal.returns-in_err-events
returns-in_err-events t c =
    let n = c.args.self.most in
    let x = c.args.cursor in
    let o = c.in-Some.ensures in
    let e = c.in_err-events.field-0.0 in
    stops_with _ _ c.from_residual-in_err-events.result e (search rules)
    (as_stop e (λ z. lists_failed n c.args.lists (rule_words x.tokens.now) x.at o.word (omega arith) c.args.self.some z)
    (read_at rule_words (λ s a. Failed n IsList (bracket (ready (c.args.lists + 1))) s a e) x c.in-Some.list o.tokens o.at (c.in_err-events.ensures n (ready (c.args.lists + 1)))))

pub to-requires : goal.to-requires
to-requires t c =
    let x = c.args.cursor in
    let o = c.in-Some.ensures in
    omega (arith, (read_at rule_words (λ s a. ListTook s a c.in_ok-events.events) x c.in-Some.list o.tokens o.at (c.in_ok-events.ensures c.args.self.most (ready (c.args.lists + 1)))).inside, rule_long x.tokens.now)

pub returns-in_err-rest : goal.returns-in_err-rest
returns-in_err-rest t c =
    let n = c.args.self.most in
    let x = c.args.cursor in
    let o = c.in-Some.ensures in
    let i = c.to.ensures in
    let e = c.in_err-rest.field-0.0 in
    stops_with _ _ c.from_residual-in_err-rest.result e (search rules)
    (rest_failed n c.args.lists (rule_words x.tokens.now) x.at o.word (omega arith) c.in_ok-events.events
    (read_at rule_words (λ s a. ListTook s a c.in_ok-events.events) x c.in-Some.list o.tokens o.at (c.in_ok-events.ensures n (ready (c.args.lists + 1)))) e
    (read_at rule_words (λ s a. Failed n (Lines n (c.args.lists + 1)) (ready (c.args.lists + 1)) s a e) x c.to.result i.tokens i.at c.in_err-rest.ensures))

pub returns : goal.returns
returns t c =
    let n = c.args.self.most in
    let x = c.args.cursor in
    let o = c.in-Some.ensures in
    let i = c.to.ensures in
    let y = c.in_ok-rest.rest in
    rest_took n c.args.lists (rule_words x.tokens.now) x.at o.word (omega arith) c.in_ok-events.events
    (read_at rule_words (λ s a. ListTook s a c.in_ok-events.events) x c.in-Some.list o.tokens o.at (c.in_ok-events.ensures n (ready (c.args.lists + 1)))) y
    (read_at rule_words (λ s a. LineTook n (c.args.lists + 1) s a y) x c.to.result i.tokens i.at c.in_ok-rest.ensures)
