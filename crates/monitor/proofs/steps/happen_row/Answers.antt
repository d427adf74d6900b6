use Rattle.std.proofs.Common.{◌≡◌, true, sym}
use Rattle.ftpl.specs.Paths.{holds}
use Rattle.monitor.specs.Layout.{clauses}
use Rattle.monitor.proofs.Made.{until_hit}
use Rattle.monitor.proofs.steps.happen_row.Goals as goal

pub returns-in-Until : goal.returns-in-Until
returns-in-Until g c =
    let s = g.S.Scale.ops in
    let hit : holds c.in-Until.e c.args.event ≡ true = sym c.if-holds.ensures in
    until_hit s (λ e. holds e c.args.event) (clauses s c.args.w.now.0) c.in-Until.is hit c.absorb.ensures
