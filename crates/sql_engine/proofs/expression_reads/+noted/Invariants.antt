use Rattle.sql_engine.proofs.Noting.{BranchesLeft, EachLeft, NotedBut}
use Rattle.sql_engine.proofs.expression_reads.+noted.Given as goal

abbrev pub invariant-note_branches-loop-branch : goal.invariant-note_branches-loop-branch
invariant-note_branches-loop-branch l = NotedBut l.place l.initial.last l.last (BranchesLeft l.branches l.branch-index) (BranchesLeft l.branches 0)

abbrev pub invariant-note_operands-loop-operand : goal.invariant-note_operands-loop-operand
invariant-note_operands-loop-operand l = NotedBut l.place l.initial.last l.last (EachLeft l.operands l.operand-index) (EachLeft l.operands 0)
