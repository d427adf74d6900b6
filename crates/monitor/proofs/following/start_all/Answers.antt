use Rattle.std.proofs.Common.{◌≡◌, ◌+◌, ◌*◌, ◌≤◌, length, mul-le-mul_right, ◌∙◌, arith, rules}
use Rattle.monitor.specs.Monitor.{begin}
use Rattle.monitor.specs.Layout.{viewed}
use Rattle.monitor.proofs.Sizes.{held_fits}
use Rattle.monitor.proofs.Followed.{gone_put, gone_rest}
use Rattle.monitor.proofs.following.start_all.Goals as goal

pub begin-requires : goal.begin-requires
begin-requires g c =
    let le : 40 ≤ length c.args.board.now = omega arith in
    let m = mul-le-mul_right (prog.Memory.size (denote.Memory.lone g.row.S.mir)) le in
    held_fits (denote.Memory.lone g.row.S.mir) (omega arith)

pub store-requires : goal.store-requires
store-requires g c =
    let le : 40 ≤ length c.args.board.now = omega arith in
    let m = mul-le-mul_right (prog.Memory.size (denote.Memory.lone g.row.S.mir)) le in
    (held_fits (denote.Memory.lone g.row.S.mir) (omega arith), search rules)

pub loop-i-preserved : goal.loop-i-preserved
loop-i-preserved g c =
    let s = g.S.Scale.ops in
    let inside : 40 * c.loop-i.i + 40 ≤ length c.loop-i.board = omega arith in
    gone_put (λ k p. viewed s p ≡ begin s) c.args.board.now c.loop-i.board c.store.new.cells c.loop-i.i c.loop-i.invariant inside (omega arith) (c.store.ensures.held ∙ c.begin.ensures)

pub returns : goal.returns
returns g c =
    let s = g.S.Scale.ops in
    record {
      started = λ i h. c.loop-i.invariant.done i (omega arith);
      beyond = gone_rest (λ k p. viewed s p ≡ begin s) c.args.board.now c.loop-i.board c.loop-i.i c.args.formulas (omega arith) c.loop-i.invariant;
    }
