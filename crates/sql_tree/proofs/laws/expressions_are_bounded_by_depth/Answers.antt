use Rattle.sql_tree.proofs.Depths.{expr-back, expr-there}
use Rattle.sql_tree.proofs.laws.expressions_are_bounded_by_depth.Goals as goal

pub returns-clause-there : goal.returns-clause-there
returns-clause-there c = expr-there

pub returns-clause-back : goal.returns-clause-back
returns-clause-back c = expr-back
