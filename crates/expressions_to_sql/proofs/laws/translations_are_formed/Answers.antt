use Rattle.expressions_to_sql.proofs.OverGroups.{group_formed}
use Rattle.expressions_to_sql.proofs.OverPoints.{point_formed}
use Rattle.expressions_to_sql.proofs.laws.translations_are_formed.Goals as goal

pub returns-clause-points : goal.returns-clause-points
returns-clause-points c = point_formed

pub returns-clause-groups : goal.returns-clause-groups
returns-clause-groups c = λ p alias names xs low formed e i w. group_formed alias names xs p low formed e i w
