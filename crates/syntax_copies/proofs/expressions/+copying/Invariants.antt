use Rattle.std.proofs.Common.{◌≡◌, map, take}
use Rattle.vtl_syntax.specs.View.{calc_tree, expr_tree, part_tree}
use Rattle.syntax_copies.proofs.expressions.+copying.Given as goal

abbrev pub invariant-all-loop-e : goal.invariant-all-loop-e
invariant-all-loop-e l = map expr_tree l.copies.items ≡ map expr_tree (take l.e-index l.es)

abbrev pub invariant-calc_parts-loop-part : goal.invariant-calc_parts-loop-part
invariant-calc_parts-loop-part l = map calc_tree l.copies.items ≡ map calc_tree (take l.part-index l.parts)

abbrev pub invariant-join_parts-loop-part : goal.invariant-join_parts-loop-part
invariant-join_parts-loop-part l = map part_tree l.copies.items ≡ map part_tree (take l.part-index l.parts)
