use Rattle.std.proofs.Common.{arith}
use Rattle.host.proofs.Written.{length_rows}
use Rattle.host.proofs.packed.rows_in.Goals as goal

pub returns : goal.returns
returns c = omega (arith, length_rows c.args.words.now, c.min.ensures)
