use Rattle.std.proofs.Common.{◌≡◌, ◌++◌, drop, map}
use Rattle.vtl_tree.specs.NodeView.{node_tree}
use Rattle.vtl_walks.specs.Lent.{lent}
use Rattle.vtl_walks.specs.Operands.{size}
use Rattle.vtl_lineage.specs.Lines.{traced_node}
use Rattle.vtl_lineage.proofs.nodes.+traced.Given as goal

abbrev pub decreases-trace : goal.decreases-trace
decreases-trace l = size (node_tree l.node.now)

abbrev pub invariant-loop-i : goal.invariant-loop-i
invariant-loop-i l = l.given.items ++ map (traced_node l.known) (drop l.i (lent l.below)) ≡ map (traced_node l.known) (lent l.below)
