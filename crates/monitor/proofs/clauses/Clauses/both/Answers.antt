use Rattle.monitor.specs.Monitor.{Set}
use Rattle.monitor.specs.Layout.{clauses}
use Rattle.monitor.proofs.clauses.Clauses.both.Goals as goal

pub returns : goal.returns
returns g c = c.of.ensures (λ (d : Set). g.S.Scale.ops.both (clauses g.S.Scale.ops c.args.self.now.0 d) (clauses g.S.Scale.ops c.args.other.now.0 d)) (λ k x e. e.1)
