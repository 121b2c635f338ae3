use Rattle.vtl_time.proofs.PeriodLaws.{ordered_by_index}
use Rattle.vtl_time.proofs.laws.periods_are_ordered_by_index.Goals as goal

pub returns : goal.returns
returns c = ordered_by_index
