use Rattle.vtl_aggregate_laws.proofs.Having.{having_is_filter}
use Rattle.vtl_aggregate_laws.proofs.laws.having_is_a_filter.Goals as goal

pub returns : goal.returns
returns c = having_is_filter
