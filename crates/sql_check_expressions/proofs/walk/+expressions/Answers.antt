use Rattle.sql_check_expressions.proofs.Steps.{branch_taken, branches_done, operand_taken, operands_done}
use Rattle.sql_check_expressions.proofs.walk.+expressions.Goals as goal

pub all-loop-operand-preserved : goal.all-loop-operand-preserved
all-loop-operand-preserved t c =
    operand_taken c.args.at.now c.args.group.now c.args.operands.now c.loop-operand.operand-index c.operand-item.result c.in_ok-expression.field-0 c.loop-operand.parts c.put.new.self c.loop-operand-test.true c.operand-item.is c.in_ok-expression.ensures (record { kinds_are = c.in_ok-put.ensures.kinds; fault_is = c.in_ok-put.ensures.fault }) c.loop-operand.invariant

pub all-returns : goal.all-returns
all-returns t c = operands_done c.args.at.now c.args.group.now c.args.operands.now c.loop-operand.operand-index c.loop-operand.parts c.loop-operand-test.false c.loop-operand.invariant

pub branch_values-loop-branch-preserved : goal.branch_values-loop-branch-preserved
branch_values-loop-branch-preserved t c =
    branch_taken c.args.at.now c.args.group.now c.args.branches.now c.loop-branch.branch-index c.branch-item.result c.in_ok-branch_value.field-0 c.loop-branch.parts c.put.new.self c.loop-branch-test.true c.branch-item.is c.in_ok-branch_value.ensures (record { kinds_are = c.in_ok-put.ensures.kinds; fault_is = c.in_ok-put.ensures.fault }) c.loop-branch.invariant

pub branch_values-returns : goal.branch_values-returns
branch_values-returns t c = branches_done c.args.at.now c.args.group.now c.args.branches.now c.loop-branch.branch-index c.loop-branch.parts c.loop-branch-test.false c.loop-branch.invariant
