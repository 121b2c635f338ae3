use Rattle.std.proofs.Common.{take}
use Rattle.vtl_interp.specs.Reordered.{AreReordered}
use Rattle.vtl_interp.proofs.ordered.in_order.Given as goal

abbrev pub invariant-loop-i : goal.invariant-loop-i
invariant-loop-i l = AreReordered (take l.i l.inputs) l.sorted
