-- One level of the view from the program's trees.
use Rattle.sql_tree.specs.declared.expressions.SqlExpr as expr
use Rattle.sql_tree.specs.declared.expressions.Branch as branch

pub ruleset views = (expr.the_lemmas, branch.the_lemmas)
