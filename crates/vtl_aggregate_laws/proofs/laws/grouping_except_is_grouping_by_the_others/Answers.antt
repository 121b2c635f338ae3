use Rattle.vtl_aggregate_laws.proofs.OtherGroups.{except_is_by}
use Rattle.vtl_aggregate_laws.proofs.laws.grouping_except_is_grouping_by_the_others.Goals as goal

pub returns : goal.returns
returns c = except_is_by
