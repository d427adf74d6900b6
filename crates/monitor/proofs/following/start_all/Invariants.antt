use Rattle.std.proofs.Common.{◌≡◌}
use Rattle.monitor.specs.Monitor.{begin}
use Rattle.monitor.specs.Layout.{viewed}
use Rattle.monitor.proofs.Followed.{Gone}
use Rattle.monitor.proofs.following.start_all.Given as goal

abbrev pub invariant-loop-i : goal.invariant-loop-i
invariant-loop-i g l =
    let s = g.S.Scale.ops in
    Gone (λ k p. viewed s p ≡ begin s) l.initial.board l.board l.i
