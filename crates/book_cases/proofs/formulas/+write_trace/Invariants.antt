use Rattle.ftpl.proofs.formulas.Trace.TheLaws.{the_size}
use Rattle.book_cases.proofs.formulas.+write_trace.Given as goal

abbrev pub decreases-write_trace : goal.decreases-write_trace
decreases-write_trace g l = the_size l.trace.now
