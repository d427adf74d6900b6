use Rattle.std.proofs.Common.{◌≡◌, ◌+◌, ◌-◌, Some, true, [], ◌∷◌, get_or, sym, ap, ◌∙◌, subst, arith, rules}
use Rattle.std.proofs.lemmas.Option.{MatchOption-at_none, MatchOption-at_some}
use Rattle.book_text.specs.Rules.{Over, TestSays}
use Rattle.book_text.specs.States.{variable_of, variable_fits, first_fits, second_fits, kind_in}
use Rattle.book_words.specs.Cuts.{words_of}
use Rattle.book_text.specs.Words.{keyword_of, keyword_text, variable_text}
use Rattle.book_text.specs.declared.parts.Stop.TheVariants.{Wrong}
use Rattle.book_text.proofs.Moves.{stops_with}
use Rattle.book_text.proofs.Steps.{as_long}
use Rattle.book_text.proofs.Tested.{no_keyword, not_viable, no_first, no_second, took_up, took_test, two_operands}
use Rattle.book_text.proofs.single_tests.single_test.Goals as goal

pub returns-in_err-keyword : goal.returns-in_err-keyword
returns-in_err-keyword c =
    let p = c.args.place in
    let s = words_of p.cursor.tokens.now in
    stops_with _ _ c.from_residual.result (Wrong p.cursor.at) (search rules) (no_keyword c.args.scope (8 - p.depth) p.count s p.cursor.at (omega (arith, as_long p.cursor.tokens.now, p.cursor.inside)) (ap keyword_of (sym c.word_at.ensures) ∙ sym c.as_keyword.ensures ∙ c.in_err-keyword.ensures.ok_part))

pub returns-then-not-is_viable : goal.returns-then-not-is_viable
returns-then-not-is_viable c =
    let p = c.args.place in
    let s = words_of p.cursor.tokens.now in
    let e : keyword_of (get_or s p.cursor.at []) ≡ Some c.in_ok-keyword.keyword = ap keyword_of (sym c.word_at.ensures) ∙ sym c.as_keyword.ensures ∙ c.in_ok-keyword.ensures.ok_part in
    not_viable c.args.scope (8 - p.depth) p.count s p.cursor.at c.in_ok-keyword.keyword (omega (arith, as_long p.cursor.tokens.now, p.cursor.inside)) e (sym c.if-not-is_viable.ensures)

pub returns-in_err-subject : goal.returns-in_err-subject
returns-in_err-subject c =
    let p = c.args.place in
    let s = words_of p.cursor.tokens.now in
    let sc = c.args.scope in
    let w = c.in_ok-keyword.keyword in
    let e : keyword_of (get_or s p.cursor.at []) ≡ Some w = ap keyword_of (sym c.word_at.ensures) ∙ sym c.as_keyword.ensures ∙ c.in_ok-keyword.ensures.ok_part in
    let f = MatchOption-at_none _ _ c.in_err-subject.ensures.ok_part c.first_operand.ensures in
    stops_with _ _ c.from_residual-in_err-subject.result (Wrong (p.cursor.at + 1)) (search rules) (no_first sc (8 - p.depth) p.count s p.cursor.at w e (sym c.if-not-is_viable.ensures) (ap (λ z. variable_fits sc (first_fits w) (variable_of sc z)) (sym c.word_at-first.ensures) ∙ f))

pub returns-in_err-test-in_default : goal.returns-in_err-test-in_default
returns-in_err-test-in_default c =
    let p = c.args.place in
    let s = words_of p.cursor.tokens.now in
    let sc = c.args.scope in
    let w = c.in_ok-keyword.keyword in
    let x = c.in_ok-subject.subject in
    let e : keyword_of (get_or s p.cursor.at []) ≡ Some w = ap keyword_of (sym c.word_at.ensures) ∙ sym c.as_keyword.ensures ∙ c.in_ok-keyword.ensures.ok_part in
    let f = MatchOption-at_some _ _ _ c.in_ok-subject.ensures.ok_part c.first_operand.ensures in
    let g = MatchOption-at_none _ _ c.in_err-test-in_default.ensures.ok_part c.second_operand.ensures in
    stops_with _ _ c.from_residual-in_err-test-in_default.result (Wrong (p.cursor.at + 2)) (search rules)
    (no_second sc (8 - p.depth) p.count s p.cursor.at w e (sym c.if-not-is_viable.ensures) x (ap (variable_of sc) (sym c.word_at-first.ensures) ∙ f.0) f.1 (two_operands sc (8 - p.depth) p.count w c.in_default.not-Up) (ap (second_fits sc w) (sym c.word_at-second.ensures) ∙ g))

pub returns-in-Up : goal.returns-in-Up
returns-in-Up c =
    let p = c.args.place in
    let s = words_of p.cursor.tokens.now in
    let sc = c.args.scope in
    let w = c.in_ok-keyword.keyword in
    let e : keyword_of (get_or s p.cursor.at []) ≡ Some w = ap keyword_of (sym c.word_at.ensures) ∙ sym c.as_keyword.ensures ∙ c.in_ok-keyword.ensures.ok_part in
    let f = MatchOption-at_some _ _ _ c.in_ok-subject.ensures.ok_part c.first_operand.ensures in
    took_up sc (8 - p.depth) p.count s p.cursor.at w e (sym c.if-not-is_viable.ensures) c.in_ok-subject.subject (ap (variable_of sc) (sym c.word_at-first.ensures) ∙ f.0) f.1 p.depth c.in-Up.is p.few

pub returns-in_ok-test-in_default : goal.returns-in_ok-test-in_default
returns-in_ok-test-in_default c =
    let p = c.args.place in
    let s = words_of p.cursor.tokens.now in
    let sc = c.args.scope in
    let w = c.in_ok-keyword.keyword in
    let x = c.in_ok-subject.subject in
    let t = c.in_ok-test-in_default.test in
    let e : keyword_of (get_or s p.cursor.at []) ≡ Some w = ap keyword_of (sym c.word_at.ensures) ∙ sym c.as_keyword.ensures ∙ c.in_ok-keyword.ensures.ok_part in
    let f = MatchOption-at_some _ _ _ c.in_ok-subject.ensures.ok_part c.first_operand.ensures in
    let g = MatchOption-at_some _ _ _ c.in_ok-test-in_default.ensures.ok_part c.second_operand.ensures in
    took_test sc (8 - p.depth) p.count s p.cursor.at w e (sym c.if-not-is_viable.ensures) x (ap (variable_of sc) (sym c.word_at-first.ensures) ∙ f.0) f.1 p.depth t
    (subst (λ z. Over sc x (kind_in sc x) → first_fits w (kind_in sc x) ≡ true → TestSays sc t (keyword_text w ∷ variable_text x ∷ z ∷ [])) c.word_at-second.ensures g) p.few
