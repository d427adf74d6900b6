use Rattle.ftpl.proofs.properties.Tests.TheLaws.{the_size}
use Rattle.ftpl.proofs.values.+tests_value.Given as goal

abbrev pub decreases-tests_value : goal.decreases-tests_value
decreases-tests_value g l = the_size l.tests.now
