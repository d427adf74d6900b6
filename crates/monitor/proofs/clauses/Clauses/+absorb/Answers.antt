use Rattle.monitor.specs.Layout.{clauses}
use Rattle.monitor.proofs.Traces.{at_made, and_made, or_made}
use Rattle.monitor.proofs.clauses.Clauses.+absorb.Goals as goal

pub returns-in-At : goal.returns-in-At
returns-in-At g t c = let s = g.S.Scale.ops in at_made s (clauses s c.args.self.now.0) c.in-At.is c.at_leaf.ensures

pub returns-in-Both : goal.returns-in-Both
returns-in-Both g t c = let s = g.S.Scale.ops in and_made s (clauses s c.args.self.now.0) c.in-Both.is c.deref.ensures c.deref-in-Both.ensures c.absorb.ensures c.absorb-in-Both.ensures c.both.ensures

pub returns-in-Either : goal.returns-in-Either
returns-in-Either g t c = let s = g.S.Scale.ops in or_made s (clauses s c.args.self.now.0) c.in-Either.is c.deref-in-Either-2.ensures c.deref-in-Either.ensures c.absorb-in-Either.ensures c.absorb-in-Either-2.ensures
