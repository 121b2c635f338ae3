use Rattle.std.proofs.Common.{◌≡◌, ◌≤◌, filter, length, take}
use Rattle.vtl_tree.specs.Times.{is_time}
use Rattle.vtl_tree.proofs.times.count_times.Given as goal

abbrev pub invariant-loop-i : goal.invariant-loop-i
invariant-loop-i l = (l.count ≡ length (filter is_time (take l.i l.components))) × (l.count ≤ l.i)
