use Rattle.ftpl.specs.Paths.{holds}
use Rattle.monitor.specs.Layout.{clauses}
use Rattle.monitor.proofs.Made.{row_made}
use Rattle.monitor.proofs.steps.go_row.Goals as goal

pub returns : goal.returns
returns g c =
    let s = g.S.Scale.ops in
    row_made s c.args.f.now.leaves c.args.f.now.core c.args.h c.args.values (λ e. holds e c.args.event) (clauses s c.args.w.now.0)
    c.happen_row.ensures c.launch.ensures c.lengthen.ensures c.lengthen-2.ensures c.lengthen-3.ensures c.lengthen-4.ensures
