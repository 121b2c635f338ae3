use Rattle.std.proofs.Common.{◌≡◌, ◌++◌, drop}
use Rattle.vtl_tree.specs.NodeView.{node_tree}
use Rattle.vtl_walks.specs.Lent.{lent}
use Rattle.vtl_walks.specs.Operands.{size}
use Rattle.vtl_check.specs.Names.{names_of}
use Rattle.vtl_check.proofs.names.+push_names.Given as goal

abbrev pub decreases-push_names : goal.decreases-push_names
decreases-push_names l = size (node_tree l.node.now)

abbrev pub invariant-loop-i : goal.invariant-loop-i
invariant-loop-i l = l.out.items ++ names_of (drop l.i (lent l.operands)) ≡ l.initial.out.items ++ names_of (lent l.operands)
