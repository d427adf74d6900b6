use Rattle.std.proofs.Common.{◌≤◌, length, mul-le-mul_right, ap₂, ◌∙◌, arith}
use Rattle.ftpl.specs.declared.formulas.PerLeaf.{PerLeaf}
use Rattle.ftpl.specs.Paths.{holds}
use Rattle.monitor.specs.Monitor.{State, step_with}
use Rattle.monitor.proofs.Sizes.{held_fits}
use Rattle.monitor.proofs.following.follow_at.Goals as goal

pub load-requires : goal.load-requires
load-requires g c =
    let le : 40 ≤ length c.args.cells.now = omega arith in
    let m = mul-le-mul_right (prog.Memory.size (denote.Memory.lone g.row.S.mir)) le in
    (held_fits (denote.Memory.lone g.row.S.mir) (omega arith), omega arith)

pub advance-requires : goal.advance-requires
advance-requires g c =
    let le : 40 ≤ length c.args.cells.now = omega arith in
    let m = mul-le-mul_right (prog.Memory.size (denote.Memory.lone g.row.S.mir)) le in
    held_fits (denote.Memory.lone g.row.S.mir) (omega arith)

pub store-requires : goal.store-requires
store-requires g c =
    let le : 40 ≤ length c.args.cells.now = omega arith in
    let m = mul-le-mul_right (prog.Memory.size (denote.Memory.lone g.row.S.mir)) le in
    (held_fits (denote.Memory.lone g.row.S.mir) (omega arith), omega arith)

pub returns : goal.returns
returns g c =
    let s = g.S.Scale.ops in
    c.store.ensures.held ∙ c.advance.ensures ∙ ap₂ (λ (v : PerLeaf g.row.S.Denot) (b : State g.row.S.Denot). step_with s c.args.f.now v (λ e. holds e c.args.event) b) c.values_of.ensures c.load.ensures
