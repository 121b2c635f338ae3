use Rattle.vtl_time.proofs.PeriodLemmas.{index_below, period_at-index, period_at_is}
use Rattle.vtl_time.proofs.laws.periods_stand_at_their_indexes.Goals as goal

pub returns-clause-period : goal.returns-clause-period
returns-clause-period c = period_at-index

pub returns-clause-below : goal.returns-clause-below
returns-clause-below c = index_below

pub returns-clause-valid : goal.returns-clause-valid
returns-clause-valid c = period_at_is
