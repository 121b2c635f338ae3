use Rattle.std.proofs.Common.{◌≡◌, drop, map}
use Rattle.sql_tree.specs.Trees.{branches_of, exps_of}
use Rattle.sql_tree.specs.View.{branch_tree, expr_tree}
use Rattle.sql_check_parts.specs.Expressions.{branches_aggregate, some_aggregate}
use Rattle.sql_check_expressions.proofs.aggregates.+aggregates.Given as goal

abbrev pub invariant-some_aggregate-loop-operand : goal.invariant-some_aggregate-loop-operand
invariant-some_aggregate-loop-operand l = some_aggregate (exps_of (map expr_tree (drop l.operand-index l.operands))) ≡ some_aggregate (exps_of (map expr_tree l.operands))

abbrev pub invariant-branches_aggregate-loop-branch : goal.invariant-branches_aggregate-loop-branch
invariant-branches_aggregate-loop-branch l = branches_aggregate (branches_of (map branch_tree (drop l.branch-index l.branches))) ≡ branches_aggregate (branches_of (map branch_tree l.branches))
