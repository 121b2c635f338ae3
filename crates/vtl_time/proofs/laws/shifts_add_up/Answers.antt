use Rattle.vtl_time.proofs.PeriodLaws.{shift_frequency, shift_sum, shift_whole}
use Rattle.vtl_time.proofs.laws.shifts_add_up.Goals as goal

pub returns-clause-whole : goal.returns-clause-whole
returns-clause-whole c = shift_whole

pub returns-clause-frequency : goal.returns-clause-frequency
returns-clause-frequency c = shift_frequency

pub returns-clause-sum : goal.returns-clause-sum
returns-clause-sum c = shift_sum
