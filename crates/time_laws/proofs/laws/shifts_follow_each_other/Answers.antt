use Rattle.time_laws.proofs.Shifts.{shift_again}
use Rattle.time_laws.proofs.laws.shifts_follow_each_other.Goals as goal

pub returns : goal.returns
returns c = shift_again
