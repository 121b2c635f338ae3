use Rattle.std.proofs.Common.{◌≡◌, take}
use Rattle.std.specs.List.{range_with_len}
use Rattle.vtl_times.specs.Filling.{beside_each}
use Rattle.vtl_times.proofs.fill.numbered.Given as goal

abbrev pub invariant-loop-i : goal.invariant-loop-i
invariant-loop-i l = l.pairs.items ≡ beside_each (range_with_len 0 l.i) (take l.i l.numbers)
