use Rattle.monitor.specs.Monitor.{launch_row}
use Rattle.monitor.specs.Layout.{clauses}
use Rattle.monitor.proofs.clauses.Clauses.launch.Goals as goal

pub returns : goal.returns
returns g c = c.of.ensures (launch_row g.S.Scale.ops c.args.leaves c.args.h (clauses g.S.Scale.ops c.args.self.now.0)) (λ k x e. e.1)
