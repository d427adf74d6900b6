use Rattle.std.proofs.Common.{◌+◌, ◌*◌, ◌≤◌, List, length, ◌∙◌, ap, arith}
use Rattle.ftpl.specs.Paths.{holds}
use Rattle.ftpl.specs.declared.formulas.Formula.{Formula}
use Rattle.monitor.specs.Monitor.{step_with}
use Rattle.monitor.specs.Layout.{viewed}
use Rattle.monitor.specs.Boards.{values_in}
use Rattle.monitor.proofs.Followed.{Going, gone_put, going_here, part_todo}
use Rattle.monitor.proofs.following.follow.Goals as goal

pub loop-i-preserved : goal.loop-i-preserved
loop-i-preserved g c =
    let s = g.S.Scale.ops in
    let fs = c.args.formulas.now in
    let n = c.loop-i.i in
    let x = c.index-formulas-i.result in
    let old = c.args.parts.now in
    let now = c.loop-i.parts in
    let go = λ (f : Formula). step_with s f (values_in s c.args.working.now f.leaves) (λ e. holds e c.args.event) in
    let inside : 40 * n + 40 ≤ length now = omega arith in
    gone_put (Going s fs go old) old now c.follow_at.new.cells n c.loop-i.invariant inside (omega arith)
    (going_here s go old (viewed s c.follow_at.new.cells) x c.index-formulas-i.is
    (c.follow_at.ensures ∙ ap (λ (ps : List g.row.S.Denot). step_with s x (values_in s c.args.working.now x.leaves) (λ e. holds e c.args.event) (viewed s ps)) (part_todo old now n c.loop-i.invariant.todo)))

pub returns : goal.returns
returns g c i f st = c.loop-i.invariant.done i (omega (arith, st.inside)) f st
