use Rattle.std.proofs.Common.{◌∙◌, arith, below_more}
use Rattle.table.specs.Climbing.{climb_more, soon}
use Rattle.table.specs.Places.{Reaches}
use Rattle.table.proofs.Telling.{told_false}
use Rattle.table.proofs.places.reaches.Goals as goal

pub loop-climbs-preserved : goal.loop-climbs-preserved
loop-climbs-preserved g c =
    let t = g.H.Host.rows c.args.host.now in
    let l = c.loop-climbs in
    let r = c.row_at-here in
    (climb_more t l._climbs c.args.place l.here r.result l.invariant.0 r.ensures, below_more _ _ l.invariant.1 (λ h. c.if-here-goal.false (l.invariant.0 ∙ h)))

pub returns : goal.returns
returns g c =
    let t = g.H.Host.rows c.args.host.now in
    told_false (Reaches t c.args.place c.args.goal)
    (λ h. let s = soon t _ _ h in c.loop-climbs.invariant.1 s.0 (omega (arith, s.1, g.H.Host.small c.args.host.now, c.loop-climbs-test.false)) s.2)
