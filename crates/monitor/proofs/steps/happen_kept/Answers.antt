use Rattle.std.proofs.Common.{◌≡◌, true, sym}
use Rattle.ftpl.specs.Paths.{holds}
use Rattle.monitor.specs.Layout.{clauses}
use Rattle.monitor.proofs.Made.{before_hit}
use Rattle.monitor.proofs.steps.happen_kept.Goals as goal

pub returns-in-Before : goal.returns-in-Before
returns-in-Before g c =
    let s = g.S.Scale.ops in
    let hit : holds c.in-Before.e c.args.event ≡ true = sym c.if-holds.ensures in
    before_hit s (λ e. holds e c.args.event) (clauses s c.args.w.now.0) c.args.kept c.in-Before.is hit c.both.ensures c.bare.ensures c.absorb.ensures
