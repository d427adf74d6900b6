use Rattle.std.proofs.Common.{◌≤◌, length, vec_items, subst, arith}
use Rattle.book_words.specs.Cuts.{words_of}
use Rattle.book_text.specs.Wrong.{IsRule, Stopped}
use Rattle.book_words.proofs.Told.{text_wrong, text_broken}
use Rattle.book_text.specs.Rules.{form}
use Rattle.book_text.proofs.PropertyLines.{rule_proper}
use Rattle.book_text.proofs.texts.read_rule_text.Goals as goal

pub returns-in-Ok-2 : goal.returns-in-Ok-2
returns-in-Ok-2 c =
    let w = c.in_ok-words.words in
    let n : length (vec_items w.tokens) ≤ c.len.result = omega (arith, c.len.ensures, w.tokens.ok.0) in
    text_broken IsRule rule_proper c.args.text.now w c.in_ok-words.ensures c.as_slice.result.now c.as_slice.ensures.value c.len.result c.point.result c.point.ensures (c.in-Ok.property.outer, c.in-Ok.property.inner, form c.in-Ok.property.tests, c.in-Ok.ensures) n (λ e. omega (arith, c.if-words-text.false, e))

pub returns-in-Err-Wrong : goal.returns-in-Err-Wrong
returns-in-Err-Wrong c =
    let h = c.in-Err-Wrong in
    let f = subst (Stopped (words_of c.as_slice.result.now)) h.field-0-is h.ensures in
    text_wrong IsRule rule_proper c.args.text.now c.in_ok-words.words c.in_ok-words.ensures c.as_slice.result.now c.as_slice.ensures.value h.n c.point-in-Err-Wrong.result c.point-in-Err-Wrong.ensures f
