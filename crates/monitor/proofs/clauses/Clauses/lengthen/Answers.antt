use Rattle.monitor.specs.Monitor.{lengthen}
use Rattle.monitor.specs.Layout.{clauses}
use Rattle.monitor.proofs.clauses.Clauses.lengthen.Goals as goal

pub returns : goal.returns
returns g c = c.of.ensures (lengthen g.S.Scale.ops c.args.j c.args.l c.args.value (clauses g.S.Scale.ops c.args.self.now.0)) (λ k x e. e.1)
