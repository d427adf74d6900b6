use Rattle.std.proofs.Common.{arith, rules}
use Rattle.std.proofs.lemmas.Result.{MatchResult-weaker}
use Rattle.book_text.specs.declared.parts.Stop.TheVariants.{Wrong}
use Rattle.book_text.proofs.Moves.{stops_with, read_at}
use Rattle.formula_text.specs.Rules.{no_events}
use Rattle.formula_text.specs.Words.{rule_words}
use Rattle.formula_text.specs.States.{operation}
use Rattle.formula_text.specs.Took.{Lists, EventsTook, Failed}
use Rattle.formula_text.proofs.Moves.{as_stop}
use Rattle.formula_text.proofs.Steps.{rule_long}
use Rattle.formula_text.proofs.Listed.{no_bracket, list_took, list_stuck}
use Rattle.formula_text.proofs.events.event_list.Goals as goal

pub returns-in_err-expect : goal.returns-in_err-expect
returns-in_err-expect c = λ n st.
    let x = c.args.cursor in
    stops_with _ _ c.from_residual.result (Wrong x.at) (search rules) (no_bracket n st (rule_words x.tokens.now) x.at (omega (arith, rule_long x.tokens.now, x.inside)) c.in_err-expect.ensures.1)

pub returns : goal.returns
returns c = λ n st.
    let x = c.args.cursor in
    let s = rule_words x.tokens.now in
    let y = c.in_ok-expect.field-0 in
    let b = c.in_ok-expect.ensures in
    MatchResult-weaker c.rest_of_list.result (c.rest_of_list.ensures n st)
    (λ z h. list_took n st s x.at b.word z (read_at rule_words (λ s a. EventsTook no_events s a z) x y b.tokens b.at h))
    (λ e h. as_stop e (λ z. list_stuck n st s x.at b.word z) (read_at rule_words (λ s a. Failed n (Lists no_events) (operation st) s a e) x y b.tokens b.at h))
