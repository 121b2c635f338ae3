use Rattle.sql_check_expressions.proofs.Steps.{BranchesFrom, OperandsFrom}
use Rattle.sql_check_expressions.proofs.walk.+expressions.Given as goal

abbrev pub invariant-all-loop-operand : goal.invariant-all-loop-operand
invariant-all-loop-operand l = OperandsFrom l.at l.group l.operands l.operand-index l.parts

abbrev pub invariant-branch_values-loop-branch : goal.invariant-branch_values-loop-branch
invariant-branch_values-loop-branch l = BranchesFrom l.at l.group l.branches l.branch-index l.parts
