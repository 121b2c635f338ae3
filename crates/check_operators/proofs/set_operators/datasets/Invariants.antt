use Rattle.std.proofs.Common.{◌≡◌}
use Rattle.std.specs.Prelude.{map}
use Rattle.std.specs.Vec.Iter.{into_iter_items}
use Rattle.vtl_tree.specs.NodeView.{node_tree}
use Rattle.check_faults.specs.InTurn.{in_turn}
use Rattle.check_operators.specs.Sets.{datasets_in}
use Rattle.check_operators.specs.Typed.{dataset_in, typed_tree, typed_trees}
use Rattle.check_operators.proofs.set_operators.datasets.Given as goal

abbrev pub invariant-loop-operand : goal.invariant-loop-operand
invariant-loop-operand l = in_turn (λ done x. dataset_in x) (map node_tree l.nodes.items) (map typed_tree (into_iter_items l.operand-iterator)) ≡ datasets_in (typed_trees l.fn.operands)
