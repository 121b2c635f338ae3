use Rattle.expressions_to_sql.proofs.OverGroups.{group_value_is}
use Rattle.expressions_to_sql.proofs.OverPoints.{point_value}
use Rattle.expressions_to_sql.proofs.laws.values_stay.Goals as goal

pub returns-clause-points : goal.returns-clause-points
returns-clause-points c = point_value

pub returns-clause-groups : goal.returns-clause-groups
returns-clause-groups c = λ b alias scope names xs key g low named e i w. group_value_is alias names xs scope named b key g low e i w
