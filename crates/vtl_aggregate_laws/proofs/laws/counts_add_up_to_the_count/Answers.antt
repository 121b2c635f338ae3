use Rattle.vtl_aggregate_laws.proofs.Counts.{points_add_up, values_add_up}
use Rattle.vtl_aggregate_laws.proofs.laws.counts_add_up_to_the_count.Goals as goal

pub returns-clause-points : goal.returns-clause-points
returns-clause-points c = points_add_up

pub returns-clause-values : goal.returns-clause-values
returns-clause-values c = values_add_up
