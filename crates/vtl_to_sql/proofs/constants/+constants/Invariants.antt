use Rattle.std.proofs.Common.{drop}
use Rattle.std.specs.List.{AllByRecursion}
use Rattle.vtl_tree.specs.NodeView.{node_tree}
use Rattle.vtl_to_sql.specs.Accepted.{HoldsParts}
use Rattle.vtl_to_sql.proofs.constants.+constants.Given as goal

abbrev pub invariant-nodes_are_held-loop-node : goal.invariant-nodes_are_held-loop-node
invariant-nodes_are_held-loop-node l = AllByRecursion (λ n. HoldsParts (node_tree n)) (drop l.node-index l.nodes) → AllByRecursion (λ n. HoldsParts (node_tree n)) l.nodes

abbrev pub invariant-operands_are_held-loop-operand : goal.invariant-operands_are_held-loop-operand
invariant-operands_are_held-loop-operand l = AllByRecursion (λ o. HoldsParts (node_tree o.node)) (drop l.operand-index l.operands) → AllByRecursion (λ o. HoldsParts (node_tree o.node)) l.operands
