use Rattle.std.proofs.Common.{◌≡◌, take}
use Rattle.vtl_cell.specs.OperatorKinds.{counted_kinds}
use Rattle.vtl_cell.proofs.operator_kinds.counted_kinds.Given as goal

abbrev pub invariant-loop-kind : goal.invariant-loop-kind
invariant-loop-kind l = l.counted.items ≡ counted_kinds l.op (take l.kind-index l.kinds)
