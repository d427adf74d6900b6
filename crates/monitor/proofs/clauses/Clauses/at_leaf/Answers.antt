use Rattle.monitor.specs.Monitor.{Set, with}
use Rattle.monitor.specs.Layout.{clauses}
use Rattle.monitor.proofs.clauses.Clauses.at_leaf.Goals as goal

pub returns : goal.returns
returns g c = c.of.ensures (λ (d : Set). clauses g.S.Scale.ops c.args.self.now.0 (with c.args.j d)) (λ k x e. e.1)
