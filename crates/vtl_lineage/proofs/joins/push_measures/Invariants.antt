use Rattle.std.proofs.Common.{◌≡◌, [], ◌++◌, take}
use Rattle.std.specs.List.{flat_map}
use Rattle.vtl_sources.specs.Sources.{measure_sources}
use Rattle.vtl_lineage.specs.Numbers.{merged}
use Rattle.vtl_lineage.proofs.joins.push_measures.Given as goal

abbrev pub invariant-loop-a : goal.invariant-loop-a
invariant-loop-a l = l.out.items ≡ l.fn.out.items ++ flat_map (measure_sources merged []) (take l.a-index l.given)
