use Rattle.ftpl.specs.Paths.{holds}
use Rattle.monitor.proofs.Made.{state_made}
use Rattle.monitor.proofs.steps.Held.advance.Goals as goal

pub returns : goal.returns
returns g c =
    state_made g.S.Scale.ops c.args.f.now c.args.values (λ e. holds e c.args.event) c.args.self _
    c.pass-h1.ensures c.pass-h2.ensures c.pass-h3.ensures c.go_row-clauses.ensures c.happen_kept.ensures c.top.ensures c.hold.ensures c.hold-2.ensures c.hold-3.ensures
