use Rattle.vtl_timing.proofs.Timed.{timed_kept, timed_profile}
use Rattle.vtl_timing.proofs.laws.time_operators_keep_data_sets.Goals as goal

pub returns-clause-kept : goal.returns-clause-kept
returns-clause-kept c = timed_kept

pub returns-clause-profile : goal.returns-clause-profile
returns-clause-profile c = timed_profile
