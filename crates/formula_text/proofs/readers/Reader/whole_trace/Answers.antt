use Rattle.std.proofs.lemmas.Result.{MatchResult-weaker}
use Rattle.formula_text.specs.Words.{rule_words}
use Rattle.formula_text.proofs.Lined.{trace_took, trace_failed}
use Rattle.formula_text.proofs.readers.Reader.whole_trace.Goals as goal

pub returns : goal.returns
returns c = λ b.
    let n = c.args.self.most in
    let x = c.args.cursor in
    MatchResult-weaker c.either.result (c.either.ensures b) (λ y w. trace_took n (rule_words x.tokens.now) x.at _ y w) (λ r f. trace_failed n b (rule_words x.tokens.now) x.at r f)
