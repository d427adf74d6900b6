use Rattle.std.proofs.Common.{arith}
use borrow.Author.Differences.{ints}
use Rattle.std.proofs.lemmas.Int.{clamps}
use Rattle.ftpl.proofs.values.margin.Goals as goal

pub returns : goal.returns
returns c = record { value = omega (arith, ints, clamps); least = omega (arith, ints); most = omega (arith, ints) }
