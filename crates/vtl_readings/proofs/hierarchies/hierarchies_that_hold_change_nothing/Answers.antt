use Rattle.vtl_readings.proofs.Unchanged.{nothing_changes}
use Rattle.vtl_readings.proofs.hierarchies.hierarchies_that_hold_change_nothing.Goals as goal

pub returns : goal.returns
returns c = λ p rules a s is set hold. nothing_changes p rules a.structure s a.points set is hold
