use Rattle.std.proofs.Common.{◌≡◌, take}
use Rattle.std.specs.Prelude.{map}
use Rattle.vtl_tree.specs.NodeView.{operand_tree}
use Rattle.check_clauses.specs.JoinOperands.{shape_of}
use Rattle.check_clauses.proofs.join_nodes.shapes_of.Given as goal

abbrev pub invariant-loop-operand : goal.invariant-loop-operand
invariant-loop-operand l = l.shapes.items ≡ map shape_of (map operand_tree (take l.operand-index l.operands))
