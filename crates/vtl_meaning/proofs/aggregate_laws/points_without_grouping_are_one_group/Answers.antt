use Rattle.vtl_meaning.proofs.GroupLooks.{all_points, one_key}
use Rattle.vtl_meaning.proofs.aggregate_laws.points_without_grouping_are_one_group.Goals as goal

pub returns-clause-one : goal.returns-clause-one
returns-clause-one c = one_key

pub returns-clause-all : goal.returns-clause-all
returns-clause-all c = all_points
