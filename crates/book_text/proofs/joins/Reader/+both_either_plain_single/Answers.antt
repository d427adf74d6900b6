use Rattle.std.specs.Str.{bytes_eq}
use Rattle.std.proofs.Common.{◌≡◌, ◌+◌, ◌-◌, codes, sym, ap, ◌∙◌, subst, arith, rules}
use Rattle.std.proofs.lemmas.Result.{MatchResult-weaker}
use Rattle.book_text.specs.Rules.{loose, tight, plain}
use Rattle.book_text.specs.States.{turning, grouping, testing, Stuck}
use Rattle.book_text.specs.Took.{Took, Failed}
use Rattle.book_words.specs.Cuts.{words_of}
use Rattle.book_text.proofs.Moves.{stops_with, read_on, read_behind, continued, word_there}
use Rattle.book_text.specs.declared.parts.Stop.TheVariants.{Wrong}
use Rattle.book_text.proofs.Steps.{as_long, failed_or, failed_and, took_or, took_and, took_loose, took_tight, took_plain, took_not, took_group, failed_as, failed_group, not_closed, as_group, as_test, too_deep, stuck_here, failed_turned}
use Rattle.book_text.proofs.joins.Reader.+both_either_plain_single.Goals as goal

pub both-returns-in_default : goal.both-returns-in_default
both-returns-in_default t c = took_tight (words_of c.args.place.cursor.tokens.now) c.in_ok-left.left c.in_ok-left.ensures c.in_default.ensures

pub both-returns-in_err-right : goal.both-returns-in_err-right
both-returns-in_err-right t c =
    let p = c.args.place in
    let e = c.in_err-right.field-0.0 in
    stops_with _ _ c.from_residual-in_err-right.result e (search rules)
    (failed_and (words_of p.cursor.tokens.now) c.in_ok-left.left e c.in_ok-left.ensures (omega (arith, p.shallow)) (continued c.in-Some.ensures)
    (read_on (λ d k s a. Failed (turning c.args.self.scope (8 - d) k) s a e) c.in-Some.next c.in-Some.ensures c.in_err-right.ensures))

pub both-returns : goal.both-returns
both-returns t c =
    let p = c.args.place in
    let x = c.in_ok-right.right in
    took_and (words_of p.cursor.tokens.now) c.in_ok-left.left x c.in_ok-both_of.field-0 c.in_ok-left.ensures (continued c.in-Some.ensures)
    (read_on (λ d k s a. Took tight c.args.self.scope d k s a x) c.in-Some.next c.in-Some.ensures c.in_ok-right.ensures) c.in_ok-both_of.ensures

pub either-returns-in_default : goal.either-returns-in_default
either-returns-in_default t c = took_loose (words_of c.args.place.cursor.tokens.now) c.in_ok-left.left c.in_ok-left.ensures c.in_default.ensures

pub either-returns-in_err-right : goal.either-returns-in_err-right
either-returns-in_err-right t c =
    let p = c.args.place in
    let e = c.in_err-right.field-0.0 in
    stops_with _ _ c.from_residual-in_err-right.result e (search rules)
    (failed_or (words_of p.cursor.tokens.now) c.in_ok-left.left e c.in_ok-left.ensures (omega (arith, p.shallow)) (continued c.in-Some.ensures)
    (read_on (λ d k s a. Failed (turning c.args.self.scope (8 - d) k) s a e) c.in-Some.next c.in-Some.ensures c.in_err-right.ensures))

pub either-returns : goal.either-returns
either-returns t c =
    let p = c.args.place in
    let x = c.in_ok-right.right in
    took_or (words_of p.cursor.tokens.now) c.in_ok-left.left x c.in_ok-either_of.field-0 c.in_ok-left.ensures (continued c.in-Some.ensures)
    (read_on (λ d k s a. Took loose c.args.self.scope d k s a x) c.in-Some.next c.in-Some.ensures c.in_ok-right.ensures) c.in_ok-either_of.ensures

pub plain-returns-in_default : goal.plain-returns-in_default
plain-returns-in_default t c =
    let sc = c.args.self.scope in
    let p = c.args.place in
    let s = words_of p.cursor.tokens.now in
    MatchResult-weaker c.single_test.result c.single_test.ensures (λ x h. h)
    (λ e h. failed_as (grouping sc (8 - p.depth) p.count) (testing sc (8 - p.depth) p.count) s p.cursor.at e tt (as_test sc (8 - p.depth) p.count _ c.in_default.ensures) h)

pub plain-returns-then-place-eq0 : goal.plain-returns-then-place-eq0
plain-returns-then-place-eq0 t c =
    let sc = c.args.self.scope in
    let p = c.args.place in
    let s = words_of p.cursor.tokens.now in
    let m : 8 - p.depth ≡ 8 = omega arith in
    subst (λ d. Stuck (grouping sc d p.count) s p.cursor.at p.cursor.at) (sym m)
    (stuck_here s p.cursor.at tt (omega (arith, as_long p.cursor.tokens.now, p.cursor.inside)) (too_deep sc p.count _ c.in-Some.ensures.word))

pub plain-returns-in_err-group : goal.plain-returns-in_err-group
plain-returns-in_err-group t c =
    let sc = c.args.self.scope in
    let p = c.args.place in
    let e = c.in_err-group.field-0.0 in
    let i = c.inside.ensures in
    stops_with _ _ c.from_residual.result e (search rules)
    (failed_group sc p.depth p.count p.cursor.at (words_of p.cursor.tokens.now) e (omega arith) (omega (arith, p.shallow)) c.in-Some.ensures.word
    (read_behind (λ d k s a. Failed (turning sc (8 - d) k) s a e) p c.inside.result c.in-Some.ensures i.cursor i.depth i.count c.in_err-group.ensures))

pub plain-returns-in_err-end : goal.plain-returns-in_err-end
plain-returns-in_err-end t c =
    let sc = c.args.self.scope in
    let p = c.args.place in
    let x = c.in_ok-group.group in
    let e = c.in_err-end.ensures in
    let i = c.inside.ensures in
    let b = c.in-Some.ensures in
    stops_with _ _ c.from_residual-in_err-end.result (Wrong x.next) (search rules)
    (not_closed sc p.depth p.count p.cursor.at (words_of p.cursor.tokens.now) x (omega arith) (omega (arith, p.shallow)) b.word
    (read_behind (λ d k s a. Took loose sc d k s a x) p c.inside.result b i.cursor i.depth i.count c.in_ok-group.ensures)
    (ap (λ z. bytes_eq z (codes ")")) (sym (word_there words_of p.cursor c.to.result (c.to.ensures.tokens ∙ b.tokens) c.to.ensures.at)) ∙ e.1))

pub plain-returns : goal.plain-returns
plain-returns t c =
    let sc = c.args.self.scope in
    let p = c.args.place in
    let x = c.in_ok-group.group in
    let e = c.in_ok-end.ensures in
    let i = c.inside.ensures in
    let b = c.in-Some.ensures in
    let z = sym (word_there words_of p.cursor c.to.result (c.to.ensures.tokens ∙ b.tokens) c.to.ensures.at) ∙ e.word in
    subst (λ n. Took plain sc p.depth p.count (words_of p.cursor.tokens.now) p.cursor.at (record { tests = x.tests; next = n; count = x.count })) (sym (e.at ∙ ap (λ n. n + 1) c.to.ensures.at))
    (took_group (words_of p.cursor.tokens.now) x (omega arith) b.word (read_behind (λ d k s a. Took loose sc d k s a x) p c.inside.result b i.cursor i.depth i.count c.in_ok-group.ensures) z)

pub single-returns-in_default : goal.single-returns-in_default
single-returns-in_default t c =
    let sc = c.args.self.scope in
    let p = c.args.place in
    let s = words_of p.cursor.tokens.now in
    MatchResult-weaker c.plain.result c.plain.ensures (λ x h. took_plain s x h)
    (λ e h. failed_as (turning sc (8 - p.depth) p.count) (grouping sc (8 - p.depth) p.count) s p.cursor.at e tt (as_group sc (8 - p.depth) p.count _ c.in_default.ensures) h)

pub single-returns-in_err-turned : goal.single-returns-in_err-turned
single-returns-in_err-turned t c =
    let sc = c.args.self.scope in
    let p = c.args.place in
    let e = c.in_err-turned.field-0.0 in
    let i = c.to.ensures in
    stops_with _ _ c.from_residual.result e (search rules)
    (failed_turned sc (8 - p.depth) p.count (words_of p.cursor.tokens.now) p.cursor.at e c.in-Some.ensures.word
    (read_behind (λ d k s a. Failed (grouping sc (8 - d) k) s a e) p c.to.result c.in-Some.ensures i.cursor i.depth i.count c.in_err-turned.ensures))

pub single-returns : goal.single-returns
single-returns t c =
    let sc = c.args.self.scope in
    let p = c.args.place in
    let x = c.in_ok-turned.turned in
    let i = c.to.ensures in
    took_not (words_of p.cursor.tokens.now) x c.in_ok-not_of.field-0 c.in-Some.ensures.word
    (read_behind (λ d k s a. Took plain sc d k s a x) p c.to.result c.in-Some.ensures i.cursor i.depth i.count c.in_ok-turned.ensures) c.in_ok-not_of.ensures
