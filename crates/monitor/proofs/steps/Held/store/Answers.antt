use Rattle.std.proofs.Common.{arith}
use Rattle.std.proofs.lemmas.List.{length-take-le}
use Rattle.monitor.proofs.Made.{stored_rest}
use Rattle.monitor.proofs.steps.Held.store.Goals as goal

pub returns-clause-rest : goal.returns-clause-rest
returns-clause-rest g c k h = stored_rest g.S.Scale.ops c.copy_from_slice.new.self c.args.cells.now k _ _ _ _ _ (omega (arith, c.copy_from_slice.ensures.len, length-take-le 16 c.args.cells.now (omega arith))) h
