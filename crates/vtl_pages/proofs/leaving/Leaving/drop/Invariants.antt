use Rattle.std.proofs.Common.{length}
use Rattle.vtl_pages.proofs.leaving.Leaving.drop.Given as goal

abbrev pub decreases-loop-values : goal.decreases-loop-values
decreases-loop-values g l = length l.values
