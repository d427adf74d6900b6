use Rattle.std.proofs.Common.{false, [], ◌∷◌, codes}
use Rattle.std.proofs.lemmas.Result.{MatchResult-weaker}
use Rattle.book_text.proofs.Moves.{read_at}
use Rattle.formula_text.specs.States.{tracing, bracket}
use Rattle.formula_text.specs.Took.{EndTook, Ends, Failed}
use Rattle.formula_text.specs.Words.{rule_words}
use Rattle.formula_text.proofs.Lined.{core_trace, core_before_failed, core_before_took}
use Rattle.formula_text.proofs.readers.Reader.core_line.Goals as goal

pub returns-in-Some : goal.returns-in-Some
returns-in-Some c = λ j.
    let n = c.args.self.most in
    let x = c.args.cursor in
    let s = rule_words x.tokens.now in
    let y = c.in-Some.list in
    let o = c.in-Some.ensures in
    MatchResult-weaker c.before_line.result c.before_line.ensures
    (λ z w. core_before_took n j s x.at o.word z (read_at rule_words (λ s a. EndTook n (codes "before" ∷ []) s a z) x y o.tokens o.at w))
    (λ r f. core_before_failed n j s x.at o.word r (read_at rule_words (λ s a. Failed n (Ends n (codes "before" ∷ [])) (bracket (tracing false 0 0)) s a r) x y o.tokens o.at f))

pub returns-in-None : goal.returns-in-None
returns-in-None c = λ j.
    let x = c.args.cursor in
    MatchResult-weaker c.trace_line.result c.trace_line.ensures (λ y w. w) (λ r f. core_trace c.args.self.most j (rule_words x.tokens.now) x.at r c.requires c.in-None.ensures f)
