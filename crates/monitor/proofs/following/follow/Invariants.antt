use Rattle.ftpl.specs.Paths.{holds}
use Rattle.monitor.specs.Monitor.{step_with}
use Rattle.monitor.specs.Boards.{values_in}
use Rattle.monitor.proofs.Followed.{Gone, Going}
use Rattle.monitor.proofs.following.follow.Given as goal

abbrev pub invariant-loop-i : goal.invariant-loop-i
invariant-loop-i g l =
    let s = g.S.Scale.ops in
    Gone (Going s l.formulas (λ f. step_with s f (values_in s l.working f.leaves) (λ e. holds e l.event)) l.initial.parts) l.initial.parts l.parts l.i
