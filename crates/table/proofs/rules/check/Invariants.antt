use Rattle.std.proofs.Common.{ℕ, ◌<◌}
use Rattle.table.specs.Rules.{KeepsAll}
use Rattle.table.proofs.rules.check.Given as goal

abbrev pub invariant-loop-place : goal.invariant-loop-place
invariant-loop-place g l = (q : ℕ) → q < l.place → KeepsAll (g.H.Host.rows l.host) q
