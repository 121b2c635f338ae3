use Rattle.vtl_tree.specs.NodeView.{node_tree}
use Rattle.vtl_walks.specs.Operands.{size}
use Rattle.vtl_interp.proofs.windows.+has_window.Given as goal

abbrev pub decreases-has_window : goal.decreases-has_window
decreases-has_window l = size (node_tree l.node.now)
