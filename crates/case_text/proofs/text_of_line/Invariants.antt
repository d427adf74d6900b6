use Rattle.std.proofs.Common.{◌≡◌, ◌++◌, length}
use Rattle.case_text.specs.Escapes.{unescaped}
use Rattle.case_text.proofs.text_of_line.Given as goal

abbrev pub invariant-loop-rest : goal.invariant-loop-rest
invariant-loop-rest l = l.text.items ++ unescaped l.rest ≡ unescaped l.fn.line

abbrev pub decreases-loop-rest : goal.decreases-loop-rest
decreases-loop-rest l = length l.rest
