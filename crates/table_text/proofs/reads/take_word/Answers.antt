use Rattle.std.proofs.Common.{◌++◌, Some, None, sym, ap, ◌∙◌}
use Rattle.std.proofs.lemmas.Slice.Eq.{strip_prefix_is}
use Rattle.std.proofs.lemmas.Bool.Decides.{Decides-eqb}
use Rattle.std.proofs.lemmas.List.{append_cancel_left}
use Rattle.numerals.proofs.Spelling.{none_says}
use Rattle.table_text.specs.Lines.{word, key_text, value_text}
use Rattle.table_text.proofs.Wrong.{some_weaker}
use Rattle.table_text.proofs.reads.take_word.Goals as goal

pub returns-in_err-strip_prefix : goal.returns-in_err-strip_prefix
unfolding word
returns-in_err-strip_prefix c =
    none_says c.from_residual.result _ _ c.from_residual.ensures
    (λ l f q. strip_prefix_is Decides-eqb c.args.text.now c.text.result.now None c.in_err-strip_prefix.ensures.cases (value_text c.args.key l) (q ∙ ap (λ p. p ++ value_text c.args.key l) (sym c.text.ensures.value)))

pub returns : goal.returns
unfolding word
returns c =
    let k = c.args.key in
    let s = c.args.text.now in
    let v = c.in_ok-strip_prefix.field-0.now in
    let e = strip_prefix_is Decides-eqb s c.text.result.now (Some c.in_ok-strip_prefix.field-0) c.in_ok-strip_prefix.ensures.cases ∙ ap (λ p. p ++ v) c.text.ensures.value in
    some_weaker c.take_value.result c.take_value.ensures
    (λ none l f q. none l f (append_cancel_left (key_text k) v (value_text k l) (sym e ∙ q)))
    (λ l t. (t.0, e ∙ ap (λ x. key_text k ++ x) t.1, t.2))
