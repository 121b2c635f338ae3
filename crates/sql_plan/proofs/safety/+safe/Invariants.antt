use Rattle.std.proofs.Common.{◌≡◌, drop, map}
use Rattle.sql_tree.specs.Trees.{branches_of, exps_of}
use Rattle.sql_tree.specs.View.{branch_tree, expr_tree}
use Rattle.sql_meaning.specs.Early.{are_safe, have_safe}
use Rattle.sql_plan.proofs.safety.+safe.Given as goal

abbrev pub invariant-are_safe-loop-operand : goal.invariant-are_safe-loop-operand
invariant-are_safe-loop-operand l = are_safe (exps_of (map expr_tree (drop l.operand-index l.operands))) ≡ are_safe (exps_of (map expr_tree l.operands))

abbrev pub invariant-have_safe-loop-branch : goal.invariant-have_safe-loop-branch
invariant-have_safe-loop-branch l = have_safe (branches_of (map branch_tree (drop l.branch-index l.branches))) ≡ have_safe (branches_of (map branch_tree l.branches))
