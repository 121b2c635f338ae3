use Rattle.vtl_readings.proofs.Pairs.{pair_first, pair_same}
use Rattle.vtl_readings.proofs.laws.operators_are_read_by_agreeing_pairs.Goals as goal

pub returns-clause-any : goal.returns-clause-any
returns-clause-any c = pair_same

pub returns-clause-first : goal.returns-clause-first
returns-clause-first c = pair_first
