use Rattle.std.proofs.Common.{◌+◌, true, [], codes, sym, ap, ◌∙◌, subst, arith, rules}
use Rattle.std.specs.Str.{bytes_eq}
use Rattle.ftpl.specs.declared.formulas.Core.TheVariants as cores
use Rattle.book_text.specs.declared.parts.Stop.TheVariants.{Wrong}
use Rattle.book_text.proofs.Moves.{stops_with, read_at, word_there}
use Rattle.formula_text.specs.States.{bracket, closing}
use Rattle.formula_text.specs.Took.{IsList, ListTook, EndTook, Failed}
use Rattle.formula_text.specs.Words.{rule_words}
use Rattle.formula_text.proofs.Moves.{as_stop}
use Rattle.formula_text.proofs.Steps.{rule_long}
use Rattle.formula_text.proofs.Lined.{plain_failed, plain_took, not_ended, until_failed, until_open, until_took}
use Rattle.formula_text.proofs.readers.Reader.trace_line.Goals as goal

pub returns-in_err-part : goal.returns-in_err-part
returns-in_err-part c =
    let x = c.args.cursor in
    let e = c.in_err-part.field-0.0 in
    stops_with _ _ c.from_residual.result e (search rules) (plain_failed c.args.self.most (rule_words x.tokens.now) x.at e (c.in_err-part.ensures true))

pub to-end-requires : goal.to-end-requires
to-end-requires c = omega (arith, (c.in_ok-part.ensures true).inside, rule_long c.args.cursor.tokens.now)

pub returns-in-Some : goal.returns-in-Some
returns-in-Some c =
    let n = c.args.self.most in
    let x = c.args.cursor in
    let y = c.in_ok-part.part in
    let o = c.in-Some.ensures in
    let i = c.to-end.ensures in
    subst (λ k. EndTook n [] (rule_words x.tokens.now) x.at (record { core = cores.Plain y.trace; leaves = y.place.leaves; next = k })) (sym (o.at ∙ ap (λ k. k + 1) i.at))
    (plain_took n (rule_words x.tokens.now) x.at y (c.in_ok-part.ensures true) (sym (word_there rule_words x c.to-end.result i.tokens i.at) ∙ o.word))

pub returns-in_err-until : goal.returns-in_err-until
returns-in_err-until c =
    let n = c.args.self.most in
    let x = c.args.cursor in
    let y = c.in_ok-part.part in
    let i = c.to-end.ensures in
    let w = sym (word_there rule_words x c.to-end.result i.tokens i.at) in
    stops_with _ _ c.from_residual-in_err-until.result (Wrong y.place.at) (search rules)
    (not_ended n (rule_words x.tokens.now) x.at y (c.in_ok-part.ensures true) (ap (λ z. bytes_eq z (codes "\n")) w ∙ c.in_default.ensures) (ap (λ z. bytes_eq z (codes "until")) w ∙ c.in_err-until.ensures.1))

pub returns-in_err-events : goal.returns-in_err-events
returns-in_err-events c =
    let n = c.args.self.most in
    let x = c.args.cursor in
    let y = c.in_ok-part.part in
    let i = c.to-end.ensures in
    let u = c.in_ok-until.ensures in
    let q = sym (word_there rule_words x c.to-end.result i.tokens i.at) ∙ u.word in
    let e = c.in_err-events.field-0.0 in
    stops_with _ _ c.from_residual-in_err-events.result e (search rules)
    (as_stop e (λ z. until_failed n (rule_words x.tokens.now) x.at y (c.in_ok-part.ensures true) q z)
    (read_at rule_words (λ s a. Failed n IsList (bracket closing) s a e) x c.in_ok-until.until (u.tokens ∙ i.tokens) (u.at ∙ ap (λ k. k + 1) i.at) (c.in_err-events.ensures n closing)))

pub to-requires : goal.to-requires
to-requires c =
    let n = c.args.self.most in
    let x = c.args.cursor in
    let i = c.to-end.ensures in
    let u = c.in_ok-until.ensures in
    omega (arith, (read_at rule_words (λ s a. ListTook s a c.in_ok-events.events) x c.in_ok-until.until (u.tokens ∙ i.tokens) (u.at ∙ ap (λ k. k + 1) i.at) (c.in_ok-events.ensures n closing)).inside, rule_long x.tokens.now)

pub returns-in_err-next : goal.returns-in_err-next
returns-in_err-next c =
    let n = c.args.self.most in
    let x = c.args.cursor in
    let y = c.in_ok-part.part in
    let i = c.to-end.ensures in
    let u = c.in_ok-until.ensures in
    let q = sym (word_there rule_words x c.to-end.result i.tokens i.at) ∙ u.word in
    let l = c.in_ok-events.events in
    stops_with _ _ c.from_residual-in_err-next.result (Wrong l.next) (search rules)
    (until_open n (rule_words x.tokens.now) x.at y (c.in_ok-part.ensures true) q l
    (read_at rule_words (λ s a. ListTook s a l) x c.in_ok-until.until (u.tokens ∙ i.tokens) (u.at ∙ ap (λ k. k + 1) i.at) (c.in_ok-events.ensures n closing))
    (ap (λ z. bytes_eq z (codes "\n")) (sym (word_there rule_words x c.to.result c.to.ensures.tokens c.to.ensures.at)) ∙ c.in_err-next.ensures.1))

pub returns : goal.returns
returns c =
    let n = c.args.self.most in
    let x = c.args.cursor in
    let y = c.in_ok-part.part in
    let i = c.to-end.ensures in
    let u = c.in_ok-until.ensures in
    let q = sym (word_there rule_words x c.to-end.result i.tokens i.at) ∙ u.word in
    let l = c.in_ok-events.events in
    let e = c.in_ok-next.ensures in
    subst (λ k. EndTook n [] (rule_words x.tokens.now) x.at (record { core = cores.Until y.trace l.list; leaves = y.place.leaves; next = k })) (sym (e.at ∙ ap (λ k. k + 1) c.to.ensures.at))
    (until_took n (rule_words x.tokens.now) x.at y (c.in_ok-part.ensures true) q l
    (read_at rule_words (λ s a. ListTook s a l) x c.in_ok-until.until (u.tokens ∙ i.tokens) (u.at ∙ ap (λ k. k + 1) i.at) (c.in_ok-events.ensures n closing))
    (sym (word_there rule_words x c.to.result c.to.ensures.tokens c.to.ensures.at) ∙ e.word))
