use Rattle.std.proofs.Common.{◌+◌, codes, sym, ap, ◌∙◌, subst, arith, rules}
use Rattle.std.specs.Str.{bytes_eq}
use Rattle.book_text.specs.Rules.{loose, scope_of}
use Rattle.book_text.specs.States.{turning}
use Rattle.book_text.specs.Took.{Took, Failed, TestsTaken}
use Rattle.book_words.specs.Cuts.{words_of}
use Rattle.book_text.proofs.Moves.{stops_with, read_at, word_there}
use Rattle.book_text.specs.declared.parts.Stop.TheVariants.{Wrong}
use Rattle.book_text.proofs.Steps.{as_long}
use Rattle.book_text.proofs.Binding.{not_colon, tests_failed, not_ended, tests_taken}
use Rattle.book_text.proofs.rules.rule_tests.Goals as goal

pub returns-in_err-tests : goal.returns-in_err-tests
returns-in_err-tests c =
    let x = c.args.cursor in
    stops_with _ _ c.from_residual.result (Wrong x.at) (search rules) (not_colon c.args.outer c.args.inner (words_of x.tokens.now) x.at (omega (arith, as_long x.tokens.now, x.inside)) c.in_err-tests.ensures.1 c.requires)

pub returns-in_err-part : goal.returns-in_err-part
returns-in_err-part c =
    let x = c.args.cursor in
    let y = c.in_ok-tests.tests in
    let b = c.in_ok-tests.ensures in
    let e = c.in_err-part.field-0.0 in
    stops_with _ _ c.from_residual-in_err-part.result e (search rules)
    (tests_failed c.args.outer c.args.inner (words_of x.tokens.now) x.at b.word e
    (read_at words_of (λ s a. Failed (turning (scope_of c.args.outer c.args.inner) 0 0) s a e) x y b.tokens b.at
    (subst (λ z. Failed (turning z 0 0) (words_of y.tokens.now) y.at e) c.scope_of-scope.ensures c.in_err-part.ensures)))

pub returns-in_err-end : goal.returns-in_err-end
returns-in_err-end c =
    let x = c.args.cursor in
    let y = c.in_ok-tests.tests in
    let b = c.in_ok-tests.ensures in
    let z = c.in_ok-part.part in
    stops_with _ _ c.from_residual-in_err-end.result (Wrong z.next) (search rules)
    (not_ended c.args.outer c.args.inner (words_of x.tokens.now) x.at b.word z
    (read_at words_of (λ s a. Took loose (scope_of c.args.outer c.args.inner) 8 0 s a z) x y b.tokens b.at
    (subst (λ c. Took loose c 8 0 (words_of y.tokens.now) y.at z) c.scope_of-scope.ensures c.in_ok-part.ensures))
    (ap (λ t. bytes_eq t (codes "\n")) (sym (word_there words_of x c.to.result c.to.ensures.tokens c.to.ensures.at)) ∙ c.in_err-end.ensures.1))

pub returns : goal.returns
returns c =
    let x = c.args.cursor in
    let y = c.in_ok-tests.tests in
    let b = c.in_ok-tests.ensures in
    let z = c.in_ok-part.part in
    let e = c.in_ok-end.ensures in
    subst (λ n. TestsTaken c.args.outer c.args.inner (words_of x.tokens.now) x.at (record { property = record { outer = c.args.outer; inner = c.args.inner; tests = z.tests }; next = n })) (sym (e.at ∙ ap (λ n. n + 1) c.to.ensures.at))
    (tests_taken c.args.outer c.args.inner (words_of x.tokens.now) x.at b.word z
    (read_at words_of (λ s a. Took loose (scope_of c.args.outer c.args.inner) 8 0 s a z) x y b.tokens b.at
    (subst (λ c. Took loose c 8 0 (words_of y.tokens.now) y.at z) c.scope_of-scope.ensures c.in_ok-part.ensures))
    (sym (word_there words_of x c.to.result c.to.ensures.tokens c.to.ensures.at) ∙ e.word))
