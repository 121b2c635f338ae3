use Rattle.expressions_to_sql.proofs.OverGroups.{group_fits}
use Rattle.expressions_to_sql.proofs.OverPoints.{point_fits}
use Rattle.expressions_to_sql.proofs.laws.translations_fit.Goals as goal

pub returns-clause-points : goal.returns-clause-points
returns-clause-points c = point_fits

pub returns-clause-groups : goal.returns-clause-groups
returns-clause-groups c = λ p tables alias scope names xs low named e i w. group_fits alias names xs scope named p tables low e i w
