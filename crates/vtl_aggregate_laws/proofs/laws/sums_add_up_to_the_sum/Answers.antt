use Rattle.vtl_aggregate_laws.proofs.Sums.{sums_add_up}
use Rattle.vtl_aggregate_laws.proofs.laws.sums_add_up_to_the_sum.Goals as goal

pub returns : goal.returns
returns c = sums_add_up
