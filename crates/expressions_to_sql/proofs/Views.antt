-- One level of what the program's trees stand for.
use Rattle.sql_tree.specs.declared.expressions.Branch as branch
use Rattle.sql_tree.specs.declared.expressions.SqlExpr as expr
use Rattle.vtl_tree.specs.declared.expression.CompExpr as comp

pub ruleset views = (expr.the_lemmas, branch.the_lemmas, comp.the_lemmas)
