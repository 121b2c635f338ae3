use Rattle.std.proofs.Common.{◌≡◌, ◌-◌, drop, length}
use Rattle.vtl_cell.specs.ScalarKinds.{common_kind}
use Rattle.vtl_cell.proofs.operator_kinds.common_kind.Given as goal

abbrev pub invariant-loop-i : goal.invariant-loop-i
invariant-loop-i l = l.common ≡ common_kind (drop (length l.kinds - l.i) l.kinds)
