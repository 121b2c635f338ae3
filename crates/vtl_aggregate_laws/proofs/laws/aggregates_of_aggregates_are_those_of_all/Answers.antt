use Rattle.vtl_aggregate_laws.proofs.Nested.{aggregate_of_aggregate}
use Rattle.vtl_aggregate_laws.proofs.laws.aggregates_of_aggregates_are_those_of_all.Goals as goal

pub returns : goal.returns
returns c = aggregate_of_aggregate
