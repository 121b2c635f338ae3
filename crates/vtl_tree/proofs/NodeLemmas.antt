-- The structure of a node is that of its tree.
use Rattle.std.proofs.Common.{◌≡◌, rules}
use Rattle.vtl_tree.specs.NodeView.{node_tree}
use Rattle.vtl_tree.specs.Trees.{structure_of}
use Rattle.vtl_tree.specs.declared.nodes.Node.{Node}
use Rattle.vtl_tree.specs.declared.nodes.Node as nodes

pub structure-there : (n : Node) → structure_of (node_tree n) ≡ n.structure
structure-there n = search (rules, nodes.the_lemmas)
