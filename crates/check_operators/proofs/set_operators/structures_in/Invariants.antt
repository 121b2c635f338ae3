use Rattle.std.proofs.Common.{◌≡◌, take}
use Rattle.std.specs.Prelude.{map}
use Rattle.vtl_tree.specs.NodeView.{node_tree}
use Rattle.vtl_tree.specs.Shown.{shown}
use Rattle.check_operators.specs.Sets.{structures_in}
use Rattle.check_operators.proofs.set_operators.structures_in.Given as goal

abbrev pub invariant-loop-node : goal.invariant-loop-node
invariant-loop-node l = shown l.structures.items ≡ structures_in (map node_tree (take l.node-index l.nodes))
