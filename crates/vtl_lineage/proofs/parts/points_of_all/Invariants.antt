use Rattle.std.proofs.Common.{◌≡◌, [], drop, map}
use Rattle.vtl_sources.specs.Sources.{with_all}
use Rattle.vtl_sources.specs.Table.{points_of_all}
use Rattle.vtl_lineage.specs.Numbers.{merged}
use Rattle.vtl_lineage.proofs.parts.points_of_all.Given as goal

abbrev pub invariant-loop-a : goal.invariant-loop-a
invariant-loop-a l = with_all merged [] l.set (map (λ d. d.sources.points) (drop l.a-index l.given)) ≡ points_of_all merged [] l.given
