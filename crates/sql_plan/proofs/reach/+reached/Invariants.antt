use Rattle.std.proofs.Common.{◌≡◌, drop, map}
use Rattle.sql_tree.specs.Trees.{branches_of, exps_of}
use Rattle.sql_tree.specs.View.{branch_tree, expr_tree}
use Rattle.sql_meaning.specs.Early.{columns_of, columns_within}
use Rattle.sql_plan.specs.Reach.{reach}
use Rattle.sql_plan.proofs.reach.+reached.Given as goal

abbrev pub invariant-reach_operands-loop-operand : goal.invariant-reach_operands-loop-operand
invariant-reach_operands-loop-operand l = reach l.places l.last (columns_of (exps_of (map expr_tree (drop l.operand-index l.operands)))) ≡ reach l.places l.from (columns_of (exps_of (map expr_tree l.operands)))

abbrev pub invariant-reach_branches-loop-branch : goal.invariant-reach_branches-loop-branch
invariant-reach_branches-loop-branch l = reach l.places l.last (columns_within (branches_of (map branch_tree (drop l.branch-index l.branches)))) ≡ reach l.places l.from (columns_within (branches_of (map branch_tree l.branches)))
