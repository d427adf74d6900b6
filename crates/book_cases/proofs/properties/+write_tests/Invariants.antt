use Rattle.ftpl.proofs.properties.Tests.TheLaws.{the_size}
use Rattle.book_cases.proofs.properties.+write_tests.Given as goal

abbrev pub decreases-write_tests : goal.decreases-write_tests
decreases-write_tests g l = the_size l.tests.now
