use Rattle.std.proofs.Common.{Some, None, sym, refl, ap, ◌∙◌, arith, rules}
use Rattle.std.proofs.lemmas.Result.{MatchResult-weaker}
use Rattle.book_words.specs.Cuts.{words_of}
use Rattle.book_text.specs.States.{naming, scoped}
use Rattle.book_text.specs.Took.{Failed, Bound, TestsTaken}
use Rattle.book_text.specs.Words.{opening_of, quantifier_of}
use Rattle.book_text.proofs.Moves.{stops_with, read_at, word_there}
use Rattle.book_text.specs.declared.parts.Stop.TheVariants.{Wrong}
use Rattle.book_text.proofs.Steps.{as_long}
use Rattle.book_text.proofs.Binding.{not_opened, first_failed, one_failed, second_failed, two_failed, one_taken, two_taken}
use Rattle.book_text.proofs.rules.read_rule.Goals as goal

pub returns-in_err-quantifier : goal.returns-in_err-quantifier
returns-in_err-quantifier c =
    let x = c.args.cursor in
    stops_with _ _ c.from_residual.result (Wrong x.at) (search rules) (not_opened (words_of x.tokens.now) x.at (omega (arith, as_long x.tokens.now, x.inside)) (ap opening_of (sym c.word.ensures) ∙ sym c.as_opening.ensures ∙ c.in_err-quantifier.ensures.ok_part))

pub returns-in_err-kind : goal.returns-in_err-kind
returns-in_err-kind c =
    let x = c.args.cursor in
    let e = c.in_err-kind.field-0.0 in
    let q = ap opening_of (sym c.word.ensures) ∙ sym c.as_opening.ensures ∙ c.in_ok-quantifier.ensures.ok_part in
    stops_with _ _ c.from_residual-in_err-kind.result e (search rules)
    (first_failed (words_of x.tokens.now) x.at c.in_ok-quantifier.quantifier q e (read_at words_of (λ s a. Failed (naming None) s a e) x c.to.result c.to.ensures.tokens c.to.ensures.at (c.in_err-kind.ensures None refl)))

pub to-behind-requires : goal.to-behind-requires
to-behind-requires c =
    let x = c.args.cursor in
    omega (arith, as_long x.tokens.now, (read_at words_of (λ s a. Bound None s a c.in_ok-kind.kind) x c.to.result c.to.ensures.tokens c.to.ensures.at (c.in_ok-kind.ensures None refl)).inside)

pub returns-in_default : goal.returns-in_default
returns-in_default c =
    let x = c.args.cursor in
    let s = words_of x.tokens.now in
    let k = c.in_ok-kind.kind in
    let q = ap opening_of (sym c.word.ensures) ∙ sym c.as_opening.ensures ∙ c.in_ok-quantifier.ensures.ok_part in
    let w = read_at words_of (λ s a. Bound None s a k) x c.to.result c.to.ensures.tokens c.to.ensures.at (c.in_ok-kind.ensures None refl) in
    let t = c.to-behind.ensures in
    MatchResult-weaker c.rule_tests.result c.rule_tests.ensures
    (λ y h. one_taken s x.at c.in_ok-quantifier.quantifier q k w y (read_at words_of (λ s a. TestsTaken (record { quantifier = c.in_ok-quantifier.quantifier; kind = k }) None s a y) x c.to-behind.result t.tokens t.at h))
    (λ r h. one_failed s x.at c.in_ok-quantifier.quantifier q k w r (read_at words_of (λ s a. Failed (scoped (record { outer = k; inner = None })) s a r) x c.to-behind.result t.tokens t.at h))

pub returns-in_err-kind-2 : goal.returns-in_err-kind-2
returns-in_err-kind-2 c =
    let x = c.args.cursor in
    let s = words_of x.tokens.now in
    let k = c.in_ok-kind.kind in
    let e = c.in_err-kind-2.field-0.0 in
    let q = ap opening_of (sym c.word.ensures) ∙ sym c.as_opening.ensures ∙ c.in_ok-quantifier.ensures.ok_part in
    let w = read_at words_of (λ s a. Bound None s a k) x c.to.result c.to.ensures.tokens c.to.ensures.at (c.in_ok-kind.ensures None refl) in
    let t = c.to-behind.ensures in
    let q₂ = ap quantifier_of (sym (word_there words_of x c.to-behind.result t.tokens t.at) ∙ sym c.word-2.ensures) ∙ sym c.in-Some.ensures in
    stops_with _ _ c.from_residual-in_err-kind-2.result e (search rules)
    (second_failed s x.at c.in_ok-quantifier.quantifier q k w c.in-Some.quantifier q₂ e (read_at words_of (λ s a. Failed (naming (Some k)) s a e) x c.to-2.result c.to-2.ensures.tokens c.to-2.ensures.at (c.in_err-kind-2.ensures (Some k) refl)))

pub to-requires-3 : goal.to-requires-3
to-requires-3 c =
    let x = c.args.cursor in
    omega (arith, as_long x.tokens.now, (read_at words_of (λ s a. Bound (Some c.in_ok-kind.kind) s a c.in_ok-kind-2.kind) x c.to-2.result c.to-2.ensures.tokens c.to-2.ensures.at (c.in_ok-kind-2.ensures (Some c.in_ok-kind.kind) refl)).inside)

pub returns : goal.returns
returns c =
    let x = c.args.cursor in
    let s = words_of x.tokens.now in
    let k = c.in_ok-kind.kind in
    let j = c.in_ok-kind-2.kind in
    let q = ap opening_of (sym c.word.ensures) ∙ sym c.as_opening.ensures ∙ c.in_ok-quantifier.ensures.ok_part in
    let w = read_at words_of (λ s a. Bound None s a k) x c.to.result c.to.ensures.tokens c.to.ensures.at (c.in_ok-kind.ensures None refl) in
    let t = c.to-behind.ensures in
    let q₂ = ap quantifier_of (sym (word_there words_of x c.to-behind.result t.tokens t.at) ∙ sym c.word-2.ensures) ∙ sym c.in-Some.ensures in
    let w₂ = read_at words_of (λ s a. Bound (Some k) s a j) x c.to-2.result c.to-2.ensures.tokens c.to-2.ensures.at (c.in_ok-kind-2.ensures (Some k) refl) in
    let u = c.to-3.ensures in
    MatchResult-weaker c.rule_tests-2.result c.rule_tests-2.ensures
    (λ y h. two_taken s x.at c.in_ok-quantifier.quantifier q k w c.in-Some.quantifier q₂ j w₂ y (read_at words_of (λ s a. TestsTaken (record { quantifier = c.in_ok-quantifier.quantifier; kind = k }) (Some (record { quantifier = c.in-Some.quantifier; kind = j })) s a y) x c.to-3.result u.tokens u.at h))
    (λ r h. two_failed s x.at c.in_ok-quantifier.quantifier q k w c.in-Some.quantifier q₂ j w₂ r (read_at words_of (λ s a. Failed (scoped (record { outer = k; inner = Some j })) s a r) x c.to-3.result u.tokens u.at h))
