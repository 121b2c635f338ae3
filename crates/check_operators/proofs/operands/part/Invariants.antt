use Rattle.std.proofs.Common.{◌≡◌}
use Rattle.std.specs.Prelude.{map}
use Rattle.std.specs.Vec.Iter.{into_iter_items}
use Rattle.check_operators.specs.Operators.{no_operands, parted, parted_view}
use Rattle.check_operators.specs.Typed.{typed_tree, typed_trees}
use Rattle.check_operators.proofs.operands.part.Given as goal

abbrev pub invariant-loop-operand : goal.invariant-loop-operand
invariant-loop-operand l = parted (parted_view l.parted) (map typed_tree (into_iter_items l.operand-iterator)) ≡ parted no_operands (typed_trees l.fn.operands)
