use Rattle.std.proofs.Common.{◌≡◌, length}
use Rattle.std.specs.Prelude.{map}
use Rattle.std.specs.Vec.Iter.{into_iter_items, into_iter_len}
use Rattle.vtl_tree.specs.NodeView.{operand_tree}
use Rattle.check_clauses.specs.JoinOperands.{operands_in}
use Rattle.check_clauses.specs.JoinView.{part_view}
use Rattle.check_clauses.proofs.OperandLemmas.{behind}
use Rattle.check_clauses.proofs.join_operands.operands.Given as goal

abbrev pub invariant-loop-part : goal.invariant-loop-part
invariant-loop-part l = (behind (map operand_tree l.operands.items) (operands_in (map part_view (into_iter_items l.part-iterator))) ≡ operands_in (map part_view l.fn.parts.items))
    × (into_iter_len l.part-iterator ≡ length (into_iter_items l.part-iterator))
