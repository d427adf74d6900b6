use Rattle.std.proofs.Common.{sym, subst, rules, MatchResult}
use Rattle.book_words.specs.Cuts.{words_of}
use Rattle.book_text.proofs.Moves.{stops_with}
use Rattle.whole_book.specs.Lines.{BodySays}
use Rattle.whole_book.specs.Took.{BodyStopped}
use Rattle.whole_book.proofs.Ending.{property_stopped, formula_stopped}
use Rattle.whole_book.proofs.bodies.read_body.Goals as goal

pub returns-in_err-read_property-in-Property : goal.returns-in_err-read_property-in-Property
returns-in_err-read_property-in-Property c =
    let s = words_of c.args.words.now in
    let e = c.in_err-read_property-in-Property.field-0.0 in
    stops_with _ _ c.from_residual.result e (search rules)
    (subst (λ h. BodyStopped c.args.count h s e) (sym c.in-Property.is) (property_stopped c.args.count s e c.in_err-read_property-in-Property.ensures))

pub returns-in-Condition : goal.returns-in-Condition
returns-in-Condition c =
    let s = words_of c.args.words.now in
    subst (λ h. MatchResult c.condition_body.result (λ x. BodySays c.args.count h x s) (λ e. BodyStopped c.args.count h s e)) (sym c.in-Condition.is) (c.condition_body.ensures c.args.count)

pub returns-in_err-read_formula-in-Formula : goal.returns-in_err-read_formula-in-Formula
returns-in_err-read_formula-in-Formula c =
    let s = words_of c.args.words.now in
    let e = c.in_err-read_formula-in-Formula.field-0.0 in
    stops_with _ _ c.from_residual-in_err-read_formula-in-Formula.result e (search rules)
    (subst (λ h. BodyStopped c.args.count h s e) (sym c.in-Formula.is) (formula_stopped c.args.count s e (c.requires c.in-Formula.is) c.in_err-read_formula-in-Formula.ensures))
