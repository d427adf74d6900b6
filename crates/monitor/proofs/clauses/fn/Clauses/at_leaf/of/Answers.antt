use Rattle.std.proofs.Common.{ap, ◌∙◌}
use Rattle.monitor.specs.Layout.{clauses}
use Rattle.monitor.proofs.clauses.fn.Clauses.at_leaf.of.Goals as goal

pub returns : goal.returns
returns g c = c.at.ensures ∙ ap (clauses g.S.Scale.ops c.captures.self.now.0) c.with.ensures
