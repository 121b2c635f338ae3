use Rattle.std.proofs.Common.{◌≡◌, drop}
use Rattle.vtl_tree.specs.NodeView.{node_tree}
use Rattle.vtl_walks.specs.Lent.{lent}
use Rattle.vtl_walks.specs.Operands.{size}
use Rattle.vtl_check.proofs.CountLemmas.{left_behind}
use Rattle.vtl_check.proofs.count.+spend.Given as goal

abbrev pub decreases-spend : goal.decreases-spend
decreases-spend l = size (node_tree l.node.now)

abbrev pub invariant-loop-i : goal.invariant-loop-i
invariant-loop-i l = left_behind (drop l.i (lent l.operands)) l.left ≡ left_behind (lent l.operands) l.initial.left
