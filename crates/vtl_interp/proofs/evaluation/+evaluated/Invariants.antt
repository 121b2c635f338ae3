use Rattle.std.proofs.Common.{◌≡◌, ◌++◌, Ok, drop, map}
use Rattle.vtl_cell.specs.Outcome.{after}
use Rattle.vtl_tree.specs.Trees.{nodes_of, operands_of}
use Rattle.vtl_tree.specs.NodeView.{node_tree, operand_tree}
use Rattle.vtl_scripts.specs.Meaning.{nodes_value, operands_value}
use Rattle.vtl_tree.specs.Environment.{known_in}
use Rattle.vtl_scripts.specs.Made.{AreMade, AreMadeOperands}
use Rattle.vtl_interp.specs.Values.{values_view}
use Rattle.vtl_interp.proofs.evaluation.+evaluated.Given as goal

abbrev pub invariant-evaluate_all-loop-node : goal.invariant-evaluate_all-loop-node
invariant-evaluate_all-loop-node l =
    let rest = nodes_of (map node_tree (drop l.node-index l.nodes)) in
    record {
      given : nodes_value l.p l.known.entries (nodes_of (map node_tree l.nodes)) ≡ after (nodes_value l.p l.known.entries rest) (λ ds. Ok (values_view l.sets ++ ds));
      made : AreMade l.p (known_in l.known.entries) rest;
    }

abbrev pub invariant-evaluate_operands-loop-operand : goal.invariant-evaluate_operands-loop-operand
invariant-evaluate_operands-loop-operand l =
    let rest = operands_of (map operand_tree (drop l.operand-index l.operands)) in
    record {
      given : operands_value l.p l.known.entries (operands_of (map operand_tree l.operands)) ≡ after (operands_value l.p l.known.entries rest) (λ ds. Ok (values_view l.sets ++ ds));
      made : AreMadeOperands l.p (known_in l.known.entries) rest;
    }
