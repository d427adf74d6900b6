use Rattle.monitor.specs.Layout.{clauses}
use Rattle.monitor.proofs.Made.{plain_read}
use Rattle.monitor.proofs.steps.Held.show.Goals as goal

pub returns-in-Plain : goal.returns-in-Plain
returns-in-Plain g c = let s = g.S.Scale.ops in plain_read s (clauses s c.args.self.now.clauses.0) c.args.self.now.kept c.in-Plain.is c.bare.ensures c.absorb.ensures
