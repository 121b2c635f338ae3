use Rattle.std.proofs.Common.{◌+◌, ◌*◌}
use Rattle.read_expressions.proofs.reading.+fn-read-new+read.Given as goal

abbrev pub decreases-new : goal.decreases-new
decreases-new l = 2 * l.inner + 1

abbrev pub decreases-read : goal.decreases-read
decreases-read l = 2 * l.budget
