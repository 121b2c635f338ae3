use Rattle.std.proofs.Common.{◌≡◌, ◌++◌, drop, length, map}
use Rattle.vtl_tree.specs.Shown.{shown}
use Rattle.vtl_tree.specs.Joins.{structures_of}
use Rattle.vtl_tree.specs.Trees.{operands_of}
use Rattle.vtl_tree.specs.NodeView.{operand_tree}
use Rattle.vtl_scripts.specs.Made.{operands_in}
use Rattle.vtl_to_sql.proofs.walk.joined_structures.Given as goal

abbrev pub invariant-loop-operand : goal.invariant-loop-operand
invariant-loop-operand l = record {
  structures : shown l.structures.items ++ structures_of (operands_in (operands_of (map operand_tree (drop l.operand-index l.operands)))) ≡ structures_of (operands_in (operands_of (map operand_tree l.operands)));
  many : length l.structures.items ≡ l.operand-index;
}
