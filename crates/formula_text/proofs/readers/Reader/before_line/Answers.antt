use Rattle.std.proofs.Common.{◌+◌, false, ◌∷◌, [], codes, sym, ap, ◌∙◌, subst, arith, rules}
use Rattle.std.specs.Str.{bytes_eq}
use Rattle.ftpl.specs.declared.formulas.Core.TheVariants as cores
use Rattle.book_text.specs.declared.parts.Stop.TheVariants.{Wrong}
use Rattle.book_text.proofs.Moves.{stops_with, read_at, word_there}
use Rattle.formula_text.specs.States.{tracing}
use Rattle.formula_text.specs.Took.{TraceTook, IsTrace, EndTook, Failed}
use Rattle.formula_text.specs.Words.{rule_words}
use Rattle.formula_text.proofs.Moves.{as_stop}
use Rattle.formula_text.proofs.Steps.{rule_long}
use Rattle.formula_text.proofs.Lined.{before_list_failed, before_failed, before_open, before_took}
use Rattle.formula_text.proofs.readers.Reader.before_line.Goals as goal

pub returns-in_err-events : goal.returns-in_err-events
returns-in_err-events c =
    let n = c.args.self.most in
    let x = c.args.cursor in
    let e = c.in_err-events.field-0.0 in
    stops_with _ _ c.from_residual.result e (search rules) (as_stop e (λ z. before_list_failed n (rule_words x.tokens.now) x.at c.args.self.some z) (c.in_err-events.ensures n (tracing false 0 0)))

pub to-requires : goal.to-requires
to-requires c = omega (arith, (c.in_ok-events.ensures c.args.self.most (tracing false 0 0)).inside, rule_long c.args.cursor.tokens.now)

pub returns-in_err-part : goal.returns-in_err-part
returns-in_err-part c =
    let n = c.args.self.most in
    let x = c.args.cursor in
    let e = c.in_err-part.field-0.0 in
    stops_with _ _ c.from_residual-in_err-part.result e (search rules)
    (before_failed n (rule_words x.tokens.now) x.at c.in_ok-events.events (c.in_ok-events.ensures n (tracing false 0 0)) e
    (read_at rule_words (λ s a. Failed n (IsTrace n) (tracing false 0 0) s a e) x c.to.result c.to.ensures.tokens c.to.ensures.at (c.in_err-part.ensures false)))

pub to-requires-2 : goal.to-requires-2
to-requires-2 c =
    let n = c.args.self.most in
    let x = c.args.cursor in
    omega (arith, (read_at rule_words (λ s a. TraceTook n s a c.in_ok-part.part) x c.to.result c.to.ensures.tokens c.to.ensures.at (c.in_ok-part.ensures false)).inside, rule_long x.tokens.now)

pub returns-in_err-next : goal.returns-in_err-next
returns-in_err-next c =
    let n = c.args.self.most in
    let x = c.args.cursor in
    let y = c.in_ok-part.part in
    stops_with _ _ c.from_residual-in_err-next.result (Wrong y.place.at) (search rules)
    (before_open n (rule_words x.tokens.now) x.at c.in_ok-events.events (c.in_ok-events.ensures n (tracing false 0 0)) y
    (read_at rule_words (λ s a. TraceTook n s a y) x c.to.result c.to.ensures.tokens c.to.ensures.at (c.in_ok-part.ensures false))
    (ap (λ z. bytes_eq z (codes "\n")) (sym (word_there rule_words x c.to-2.result c.to-2.ensures.tokens c.to-2.ensures.at)) ∙ c.in_err-next.ensures.1))

pub returns : goal.returns
returns c =
    let n = c.args.self.most in
    let x = c.args.cursor in
    let s = rule_words x.tokens.now in
    let y = c.in_ok-part.part in
    let l = c.in_ok-events.events in
    let e = c.in_ok-next.ensures in
    subst (λ k. EndTook n (codes "before" ∷ []) s x.at (record { core = cores.Before l.list y.trace; leaves = y.place.leaves; next = k })) (sym (e.at ∙ ap (λ k. k + 1) c.to-2.ensures.at))
    (before_took n s x.at l (c.in_ok-events.ensures n (tracing false 0 0)) y
    (read_at rule_words (λ s a. TraceTook n s a y) x c.to.result c.to.ensures.tokens c.to.ensures.at (c.in_ok-part.ensures false))
    (sym (word_there rule_words x c.to-2.result c.to-2.ensures.tokens c.to-2.ensures.at) ∙ e.word))
