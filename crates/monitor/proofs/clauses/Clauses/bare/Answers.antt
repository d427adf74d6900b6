use Rattle.std.proofs.Common.{ap, ◌∙◌}
use Rattle.monitor.specs.Layout.{clauses}
use Rattle.monitor.proofs.clauses.Clauses.bare.Goals as goal

pub returns : goal.returns
returns g c = c.at.ensures ∙ ap (clauses g.S.Scale.ops c.args.self.now.0) c.none.ensures
