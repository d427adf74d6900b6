use Rattle.std.proofs.Common.{arith, rules}
use Rattle.book_words.specs.Cuts.{words_of}
use Rattle.book_text.proofs.Moves.{stops_with}
use Rattle.book_text.proofs.Steps.{as_long}
use Rattle.book_text.proofs.Stopping.{stopped, behind}
use Rattle.book_text.proofs.rules.read_property.Goals as goal

pub returns-in_err-rule : goal.returns-in_err-rule
returns-in_err-rule c =
    let e = c.in_err-rule.field-0.0 in
    stops_with _ _ c.from_residual.result e (search rules) (stopped (words_of c.args.words.now) e c.in_err-rule.ensures)

pub returns-else-rule-words : goal.returns-else-rule-words
returns-else-rule-words c = behind (words_of c.args.words.now) c.in_ok-rule.rule c.in_ok-rule.ensures (λ e. omega (arith, as_long c.args.words.now, c.if-rule-words.false, e))
