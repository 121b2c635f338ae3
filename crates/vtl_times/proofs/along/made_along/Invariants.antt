use Rattle.std.proofs.Common.{◌≡◌, map, take}
use Rattle.std.specs.List.{sum}
use Rattle.vtl_rows.specs.Places.{row_at}
use Rattle.vtl_times.specs.Along.{value_at}
use Rattle.vtl_times.proofs.along.made_along.Given as goal

abbrev pub invariant-loop-count : goal.invariant-loop-count
invariant-loop-count l = record {
  start : l.start ≡ sum (take l.count-index l.count-items);
  made : l.made.items ≡ map (λ k. value_at l.p l.along l.column l.a (row_at l.a.points k)) (take l.start l.series.numbers.items);
}
