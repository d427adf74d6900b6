use Rattle.std.proofs.Common.{◌≡◌, length}
use Rattle.monitor_tests.proofs.main.Given as goal

abbrev pub invariant-loop-position : goal.invariant-loop-position
invariant-loop-position l = length l.board ≡ 544
