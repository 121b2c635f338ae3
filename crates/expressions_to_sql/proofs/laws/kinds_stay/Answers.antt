use Rattle.expressions_to_sql.proofs.OverGroups.{group_kind}
use Rattle.expressions_to_sql.proofs.OverPoints.{point_kind}
use Rattle.expressions_to_sql.proofs.laws.kinds_stay.Goals as goal

pub returns-clause-points : goal.returns-clause-points
returns-clause-points c = point_kind

pub returns-clause-groups : goal.returns-clause-groups
returns-clause-groups c = λ p alias scope names xs named e i. group_kind alias names xs scope named p e i
