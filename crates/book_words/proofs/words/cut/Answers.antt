use Rattle.std.proofs.Common.{◌≡◌, [], ◌∷◌, ◌++◌, vec_items, sym, subst, arith, rules}
use Rattle.book_words.specs.declared.bytes.Class.TheVariants.{Line}
use Rattle.book_words.specs.Cuts.{Cut, start, next}
use Rattle.book_words.proofs.Finding.{whole, broken_short}
use Rattle.book_words.proofs.words.cut.Goals as goal

pub loop-found-init : goal.loop-found-init
loop-found-init c = (subst (λ ts. Cut c.args.text.now ts 0 Line) (sym c.new-tokens.ensures.items) start, omega arith, tt)

pub loop-found-preserved : goal.loop-found-preserved
loop-found-preserved c =
    let x = c.in-Some.found in
    let h = c.in-Some.ensures in
    let e : vec_items c.push.new.self ≡ vec_items c.loop-found.tokens ++ (x.token ∷ []) = search rules in
    (subst (λ ts. Cut c.args.text.now ts x.end x.class) (sym e) (next c.loop-found.invariant.0 h), h.inside, h.ended)

pub returns : goal.returns
returns c =
    let h = c.in_default.ensures in
    record { cut = c.loop-found.invariant.0; inside = c.loop-found.invariant.1; stop = h; whole = whole c.loop-found.invariant.0; broken = broken_short c.loop-found.invariant.0 h }
