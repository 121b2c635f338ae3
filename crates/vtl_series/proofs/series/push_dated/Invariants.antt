use Rattle.std.proofs.Common.{◌≡◌, take}
use Rattle.vtl_series.proofs.series.push_dated.Given as goal

abbrev pub invariant-loop-cell : goal.invariant-loop-cell
invariant-loop-cell l = l.room.items ≡ take l.cell-index l.key
