-- The operands of a join that are kept in vectors.
use Rattle.std.specs.Prelude.{List, Vec, map}
use Rattle.std.specs.declared.alloc.Global.{Global}
use Rattle.vtl_tree.specs.Trees.{OperandTree}
use Rattle.vtl_tree.specs.NodeView.{operand_tree}
use Rattle.vtl_tree.specs.declared.nodes.JoinOperand.{JoinOperand}
use Rattle.check_operators.specs.Typed.{typed_tree}
use Rattle.check_clauses.specs.JoinOperands.{PartTyped}
use Rattle.check_clauses.specs.declared.join_operands.Part.{Part}

abbrev pub part_view : Part → PartTyped
part_view p = record { operand = typed_tree p.operand; alias = p.alias }

abbrev pub parts_view : Vec Part Global → List PartTyped
parts_view v = map part_view v.items

abbrev pub operands_view : Vec JoinOperand Global → List OperandTree
operands_view v = map operand_tree v.items
