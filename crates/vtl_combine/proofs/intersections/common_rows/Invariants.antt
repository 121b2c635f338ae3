use Rattle.std.proofs.Common.{◌≡◌, length, take}
use Rattle.std.specs.List.{filter, range_with_len}
use Rattle.vtl_tree.specs.Shown.{shown}
use Rattle.vtl_combine.specs.Operands.{all_have}
use Rattle.vtl_combine.proofs.intersections.common_rows.Given as goal

abbrev pub invariant-loop-other : goal.invariant-loop-other
invariant-loop-other l = l.rows.items ≡ filter (all_have l.operand (shown (take l.other-index l.others)) l.made) (range_with_len 0 (length l.operand.points))
