use Rattle.vtl_aggregate_laws.proofs.OwnTargets.{as_targets}
use Rattle.vtl_aggregate_laws.proofs.laws.aggregates_of_data_sets_are_aggr.Goals as goal

pub returns : goal.returns
returns c = as_targets
