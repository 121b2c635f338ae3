-- One level of what the program's trees and its resolved expressions stand for.
use Rattle.sql_tree.specs.declared.expressions.Branch as branch
use Rattle.sql_tree.specs.declared.expressions.SqlExpr as expr
use Rattle.sql_eval.specs.declared.resolved.Resolved as resolved
use Rattle.sql_eval.specs.declared.resolved.ResolvedBranch as resolved_branch

pub ruleset views = (expr.the_lemmas, branch.the_lemmas, resolved.the_lemmas, resolved_branch.the_lemmas)
