use Rattle.std.proofs.Common.{◌<◌, ◌≤◌, [], length, take, codes, sym, ap, ◌∙◌, arith, rules}
use Rattle.std.specs.Str.{bytes_eq}
use Rattle.std.proofs.lemmas.Slice.Eq.{text_from_reads}
use Rattle.book_words.specs.Cuts.{words_of}
use Rattle.formula_text.proofs.Steps.{not_empty, not_sign}
use Rattle.formula_text.proofs.Opened.{no_front, front_group, front_first, front_second, no_group}
use Rattle.formula_text.proofs.rules.line_start.Goals as goal

pub returns-then-not-has_front : goal.returns-then-not-has_front
returns-then-not-has_front c = λ n m.
    let s = words_of c.args.words.now in
    let f = ap (λ z. bytes_eq (take 5 z) (codes "rule=")) (sym c.word_at.ensures) ∙ sym c.if-not-has_front.ensures in
    no_front n s m f

pub returns-in-40-default : goal.returns-in-40-default
returns-in-40-default c = λ n m.
    let s = words_of c.args.words.now in
    let f = ap (λ z. bytes_eq (take 5 z) (codes "rule=")) (sym c.word_at.ensures) ∙ sym c.if-not-has_front.ensures in
    front_group n s m f (sym c.rule_word.ensures ∙ text_from_reads c.rule_word.result.now (codes "(") (omega arith) (search rules))

pub returns-in-empty-eq40 : goal.returns-in-empty-eq40
returns-in-empty-eq40 c = λ n m.
    let s = words_of c.args.words.now in
    let f = ap (λ z. bytes_eq (take 5 z) (codes "rule=")) (sym c.word_at.ensures) ∙ sym c.if-not-has_front.ensures in
    let w = c.rule_word-2.result.now in
    let a : 1 ≤ length w = search rules in
    let b : length w < 2 = search rules in
    front_second s f (sym c.rule_word.ensures ∙ text_from_reads c.rule_word.result.now [] (search rules) tt) (sym c.rule_word-2.ensures ∙ text_from_reads w (codes "(") (omega arith) (search rules))

pub returns-in-empty-default : goal.returns-in-empty-default
returns-in-empty-default c = λ n m.
    let s = words_of c.args.words.now in
    let f = ap (λ z. bytes_eq (take 5 z) (codes "rule=")) (sym c.word_at.ensures) ∙ sym c.if-not-has_front.ensures in
    no_group n s m f (sym c.rule_word.ensures ∙ text_from_reads c.rule_word.result.now [] (search rules) tt) (ap (λ z. bytes_eq z (codes "(")) (sym c.rule_word-2.ensures) ∙ not_sign c.rule_word-2.result.now 40 (λ l h. search rules))

pub returns-in-empty-default-2 : goal.returns-in-empty-default-2
returns-in-empty-default-2 c = λ n m.
    let s = words_of c.args.words.now in
    let f = ap (λ z. bytes_eq (take 5 z) (codes "rule=")) (sym c.word_at.ensures) ∙ sym c.if-not-has_front.ensures in
    no_group n s m f (sym c.rule_word.ensures ∙ text_from_reads c.rule_word.result.now [] (search rules) tt) (ap (λ z. bytes_eq z (codes "(")) (sym c.rule_word-2.ensures) ∙ not_sign c.rule_word-2.result.now 40 (λ l h. search rules))

pub returns-in-empty-default-3 : goal.returns-in-empty-default-3
returns-in-empty-default-3 c = λ n m.
    let s = words_of c.args.words.now in
    let f = ap (λ z. bytes_eq (take 5 z) (codes "rule=")) (sym c.word_at.ensures) ∙ sym c.if-not-has_front.ensures in
    no_group n s m f (sym c.rule_word.ensures ∙ text_from_reads c.rule_word.result.now [] (search rules) tt) (ap (λ z. bytes_eq z (codes "(")) (sym c.rule_word-2.ensures) ∙ not_sign c.rule_word-2.result.now 40 (λ l h. search rules))

pub returns-in_default : goal.returns-in_default
returns-in_default c = λ n m.
    let s = words_of c.args.words.now in
    let f = ap (λ z. bytes_eq (take 5 z) (codes "rule=")) (sym c.word_at.ensures) ∙ sym c.if-not-has_front.ensures in
    front_first s f (ap (λ z. bytes_eq z (codes "(")) (sym c.rule_word.ensures) ∙ not_sign c.rule_word.result.now 40 (λ l h. search rules)) (ap (λ z. bytes_eq z []) (sym c.rule_word.ensures) ∙ not_empty c.rule_word.result.now (omega arith))

pub returns-in_default-2 : goal.returns-in_default-2
returns-in_default-2 c = λ n m.
    let s = words_of c.args.words.now in
    let f = ap (λ z. bytes_eq (take 5 z) (codes "rule=")) (sym c.word_at.ensures) ∙ sym c.if-not-has_front.ensures in
    front_first s f (ap (λ z. bytes_eq z (codes "(")) (sym c.rule_word.ensures) ∙ not_sign c.rule_word.result.now 40 (λ l h. search rules)) (ap (λ z. bytes_eq z []) (sym c.rule_word.ensures) ∙ not_empty c.rule_word.result.now (omega arith))
