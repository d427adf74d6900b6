use Rattle.std.proofs.Common.{◌≡◌, length}
use Rattle.bench.proofs.main.Given as goal

abbrev pub invariant-loop-tenth : goal.invariant-loop-tenth
invariant-loop-tenth l = length l.board ≡ 224
