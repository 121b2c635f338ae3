use Rattle.std.proofs.Common.{◌≡◌, drop, map}
use Rattle.sql_tree.specs.Trees.{branches_of, exps_of}
use Rattle.sql_tree.specs.View.{branch_tree, expr_tree}
use Rattle.sql_from.specs.Asking.{branches_ask, some_ask}
use Rattle.sql_from.proofs.asking.+asking.Given as goal

abbrev pub invariant-some_ask-loop-operand : goal.invariant-some_ask-loop-operand
invariant-some_ask-loop-operand l = some_ask (exps_of (map expr_tree (drop l.operand-index l.operands))) ≡ some_ask (exps_of (map expr_tree l.operands))

abbrev pub invariant-branches_ask-loop-branch : goal.invariant-branches_ask-loop-branch
invariant-branches_ask-loop-branch l = branches_ask (branches_of (map branch_tree (drop l.branch-index l.branches))) ≡ branches_ask (branches_of (map branch_tree l.branches))
