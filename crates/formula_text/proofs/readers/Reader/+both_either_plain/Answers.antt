use Rattle.std.proofs.Common.{◌≡◌, ◌+◌, ◌-◌, false, length, codes, sym, ap, ◌∙◌, subst, arith, rules}
use Rattle.std.specs.Str.{bytes_eq}
use Rattle.book_text.specs.Rules.{loose, tight, plain}
use Rattle.book_text.specs.declared.parts.Stop.TheVariants.{Wrong}
use Rattle.book_text.proofs.Moves.{stops_with, word_there}
use Rattle.formula_text.specs.Rules.{one_tight, one_loose}
use Rattle.formula_text.specs.Spots.{place_of}
use Rattle.formula_text.specs.States.{tracing, Stuck}
use Rattle.formula_text.specs.Took.{Took, Tracks, Failed}
use Rattle.formula_text.specs.Words.{rule_words}
use Rattle.formula_text.proofs.Moves.{read_on, read_inside, continued}
use Rattle.formula_text.proofs.Steps.{rule_long}
use Rattle.formula_text.proofs.Traced.{failed_weaker}
use Rattle.formula_text.proofs.Grouped.{ands, ors, took_alone, failed_join, took_join, failed_group, not_closed, took_group, too_deep}
use Rattle.formula_text.proofs.readers.Reader.+both_either_plain.Goals as goal

pub both-returns-in_err-left : goal.both-returns-in_err-left
both-returns-in_err-left t c = λ b.
    let n = c.args.self.most in
    let x = c.args.spot in
    let e = c.in_err-left.field-0.0 in
    stops_with _ _ c.from_residual.result e (search rules)
    (failed_weaker n (Tracks n tight x.depth x.count) (Tracks n plain x.depth x.count) (tracing b (8 - x.depth) x.count) (rule_words x.cursor.tokens.now) x.cursor.at e (λ p y. (y.0, one_tight y.1, y.2)) (c.in_err-left.ensures b))

pub both-joined-requires-clause-inside : goal.both-joined-requires-clause-inside
both-joined-requires-clause-inside t c = omega (arith, (c.in_ok-left.ensures false).inside, rule_long c.args.spot.cursor.tokens.now)

pub both-returns-in_default : goal.both-returns-in_default
both-returns-in_default t c = λ b. took_alone ands c.in_ok-left.left (c.in_ok-left.ensures b) c.in_default.ensures

pub both-both-requires : goal.both-both-requires
both-both-requires t c = omega (arith, (c.in_ok-left.ensures false).more, c.in-Some.ensures.depth, ap (λ z. z.count) c.in-Some.ensures.place, c.in-Some.next.few)

pub both-returns-in_err-right : goal.both-returns-in_err-right
both-returns-in_err-right t c = λ b.
    let n = c.args.self.most in
    let x = c.args.spot in
    let e = c.in_err-right.field-0.0 in
    stops_with _ _ c.from_residual-in_err-right.result e (search rules)
    (failed_join ands c.in_ok-left.left (c.in_ok-left.ensures b) (continued ands c.in-Some.ensures) x.shallow b e
    (read_on (λ d s p. Failed n (Tracks n tight d p.count) (tracing b (8 - d) p.count) s p.at e) c.in-Some.next c.in-Some.ensures (c.in_err-right.ensures b)))

pub both-returns : goal.both-returns
both-returns t c = λ b.
    let y = c.in_ok-right.right in
    took_join ands c.in_ok-left.left (c.in_ok-left.ensures b) (continued ands c.in-Some.ensures) y c.in_ok-both_of.field-0
    (read_on (λ d s p. Took tight c.args.self.most d s p y) c.in-Some.next c.in-Some.ensures (c.in_ok-right.ensures b)) c.in_ok-both_of.ensures

pub either-returns-in_err-left : goal.either-returns-in_err-left
either-returns-in_err-left t c = λ b.
    let n = c.args.self.most in
    let x = c.args.spot in
    let e = c.in_err-left.field-0.0 in
    stops_with _ _ c.from_residual.result e (search rules)
    (failed_weaker n (Tracks n loose x.depth x.count) (Tracks n tight x.depth x.count) (tracing b (8 - x.depth) x.count) (rule_words x.cursor.tokens.now) x.cursor.at e (λ p y. (y.0, one_loose y.1, y.2)) (c.in_err-left.ensures b))

pub either-joined-requires-clause-inside : goal.either-joined-requires-clause-inside
either-joined-requires-clause-inside t c = omega (arith, (c.in_ok-left.ensures false).inside, rule_long c.args.spot.cursor.tokens.now)

pub either-returns-in_default : goal.either-returns-in_default
either-returns-in_default t c = λ b. took_alone ors c.in_ok-left.left (c.in_ok-left.ensures b) c.in_default.ensures

pub either-either-requires : goal.either-either-requires
either-either-requires t c = omega (arith, (c.in_ok-left.ensures false).more, c.in-Some.ensures.depth, ap (λ z. z.count) c.in-Some.ensures.place, c.in-Some.next.few)

pub either-returns-in_err-right : goal.either-returns-in_err-right
either-returns-in_err-right t c = λ b.
    let n = c.args.self.most in
    let x = c.args.spot in
    let e = c.in_err-right.field-0.0 in
    stops_with _ _ c.from_residual-in_err-right.result e (search rules)
    (failed_join ors c.in_ok-left.left (c.in_ok-left.ensures b) (continued ors c.in-Some.ensures) x.shallow b e
    (read_on (λ d s p. Failed n (Tracks n loose d p.count) (tracing b (8 - d) p.count) s p.at e) c.in-Some.next c.in-Some.ensures (c.in_err-right.ensures b)))

pub either-returns : goal.either-returns
either-returns t c = λ b.
    let y = c.in_ok-right.right in
    took_join ors c.in_ok-left.left (c.in_ok-left.ensures b) (continued ors c.in-Some.ensures) y c.in_ok-either_of.field-0
    (read_on (λ d s p. Took loose c.args.self.most d s p y) c.in-Some.next c.in-Some.ensures (c.in_ok-right.ensures b)) c.in_ok-either_of.ensures

pub plain-returns-then-spot-eq0 : goal.plain-returns-then-spot-eq0
plain-returns-then-spot-eq0 t c = λ b.
    let n = c.args.self.most in
    let x = c.args.spot in
    let s = rule_words x.cursor.tokens.now in
    let m : x.depth ≡ 0 = omega arith in
    subst (λ z. Stuck n (Tracks n plain z x.count) (tracing b (8 - z) x.count) s x.cursor.at x.cursor.at) (sym m) (too_deep n b x.count s x.cursor.at c.args.self.some x.few (omega (arith, rule_long x.cursor.tokens.now, x.cursor.inside)) c.in-Some.ensures.word)

pub plain-returns-in_err-group : goal.plain-returns-in_err-group
plain-returns-in_err-group t c = λ b.
    let n = c.args.self.most in
    let x = c.args.spot in
    let e = c.in_err-group.field-0.0 in
    let i = c.inside.ensures in
    stops_with _ _ c.from_residual.result e (search rules)
    (failed_group n x.depth (rule_words x.cursor.tokens.now) (place_of x) (omega arith) x.shallow c.in-Some.ensures.word b e
    (read_inside (λ d s p. Failed n (Tracks n loose d p.count) (tracing b (8 - d) p.count) s p.at e) x c.inside.result c.in-Some.ensures i.cursor i.depth i.count i.leaves (c.in_err-group.ensures b)))

pub plain-to-requires : goal.plain-to-requires
plain-to-requires t c =
    let x = c.args.spot in
    let i = c.inside.ensures in
    omega (arith, rule_long x.cursor.tokens.now, ap (λ z. length z.now) c.in-Some.ensures.tokens, (read_inside (λ d s p. Took loose c.args.self.most d s p c.in_ok-group.group) x c.inside.result c.in-Some.ensures i.cursor i.depth i.count i.leaves (c.in_ok-group.ensures false)).inside)

pub plain-returns-in_err-end : goal.plain-returns-in_err-end
plain-returns-in_err-end t c = λ b.
    let n = c.args.self.most in
    let x = c.args.spot in
    let y = c.in_ok-group.group in
    let i = c.inside.ensures in
    let o = c.in-Some.ensures in
    stops_with _ _ c.from_residual-in_err-end.result (Wrong y.place.at) (search rules)
    (not_closed n x.depth (rule_words x.cursor.tokens.now) (place_of x) (omega arith) x.shallow o.word y
    (read_inside (λ d s p. Took loose n d s p y) x c.inside.result o i.cursor i.depth i.count i.leaves (c.in_ok-group.ensures b)) b
    (ap (λ z. bytes_eq z (codes ")")) (sym (word_there rule_words x.cursor c.to.result (c.to.ensures.tokens ∙ o.tokens) c.to.ensures.at)) ∙ c.in_err-end.ensures.1))

pub plain-returns : goal.plain-returns
plain-returns t c = λ b.
    let n = c.args.self.most in
    let x = c.args.spot in
    let y = c.in_ok-group.group in
    let i = c.inside.ensures in
    let o = c.in-Some.ensures in
    let e = c.in_ok-end.ensures in
    subst (λ k. Took plain n x.depth (rule_words x.cursor.tokens.now) (place_of x) (record { trace = y.trace; place = record { at = k; count = y.place.count; leaves = y.place.leaves } })) (sym (e.at ∙ ap (λ k. k + 1) c.to.ensures.at))
    (took_group n x.depth (rule_words x.cursor.tokens.now) (place_of x) (omega arith) x.shallow o.word y
    (read_inside (λ d s p. Took loose n d s p y) x c.inside.result o i.cursor i.depth i.count i.leaves (c.in_ok-group.ensures b))
    (sym (word_there rule_words x.cursor c.to.result (c.to.ensures.tokens ∙ o.tokens) c.to.ensures.at) ∙ e.word))
