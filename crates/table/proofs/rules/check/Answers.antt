use Rattle.std.proofs.Common.{Ok, Err, arith}
use Rattle.table.specs.Rules.{FirstBreach, Lawful}
use Rattle.table.specs.Verdicts.{lawful_within}
use Rattle.table.proofs.Ruling.{is_verdict}
use Rattle.table.proofs.rules.check.Goals as goal

pub returns-in-Some : goal.returns-in-Some
returns-in-Some g c =
    let t = g.H.Host.rows c.args.host.now in
    let b : FirstBreach t (record { place = c.loop-place.place; rule = c.in-Some.rule }) = record { here = c.in-Some.ensures; before = c.loop-place.invariant } in
    record { finds = b; verdict = is_verdict t (Err _) b }

pub returns : goal.returns
returns g c =
    let t = g.H.Host.rows c.args.host.now in
    let law : Lawful t = lawful_within t (λ p h. c.loop-place.invariant p (omega (arith, h, c.capacity-place-end.ensures, c.loop-place-test.false))) in
    record { finds = law; verdict = is_verdict t (Ok tt) law }
