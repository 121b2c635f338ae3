use Rattle.std.proofs.Common.{◌≡◌, ◌++◌, drop, map}
use Rattle.vtl_tree.specs.NodeView.{node_tree}
use Rattle.vtl_check.specs.Names.{names_of}
use Rattle.vtl_check.proofs.names.read_names.Given as goal

abbrev pub invariant-loop-node : goal.invariant-loop-node
invariant-loop-node l = l.names.items ++ names_of (map node_tree (drop l.node-index l.nodes)) ≡ names_of (map node_tree l.nodes)
