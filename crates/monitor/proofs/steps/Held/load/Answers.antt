use Rattle.std.proofs.Common.{◌<◌, length, arith}
use Rattle.std.proofs.lemmas.List.{get_or_read}
use Rattle.monitor.specs.Layout.{clauses}
use Rattle.monitor.proofs.Made.{same_state}
use Rattle.monitor.proofs.steps.Held.load.Goals as goal

pub returns : goal.returns
returns g c =
    let s = g.S.Scale.ops in
    let xs = c.args.cells.now in
    let inside : 20 < length xs = omega arith in
    same_state s _ xs (c.of.ensures (clauses s xs) (λ k x e. e.1))
    (get_or_read xs 16 c.index-cells-16.result (omega arith) c.index-cells-16.is s.top)
    (get_or_read xs 17 c.index-cells-17.result (omega arith) c.index-cells-17.is s.top)
    (get_or_read xs 18 c.index-cells-18.result (omega arith) c.index-cells-18.is s.top)
    (get_or_read xs 19 c.index-cells-19.result (omega arith) c.index-cells-19.is s.top)
    (get_or_read xs 20 c.index-cells-20.result inside c.index-cells-20.is s.top)
