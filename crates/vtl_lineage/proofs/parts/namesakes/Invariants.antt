use Rattle.std.proofs.Common.{◌≡◌, [], drop, map}
use Rattle.vtl_sources.specs.Sources.{source_named, with_all}
use Rattle.vtl_sources.specs.Table.{namesakes}
use Rattle.vtl_lineage.specs.Numbers.{merged}
use Rattle.vtl_lineage.proofs.parts.namesakes.Given as goal

abbrev pub invariant-loop-a : goal.invariant-loop-a
invariant-loop-a l = with_all merged [] l.set (map (λ d. source_named merged [] d l.column.name) (drop l.a-index l.given)) ≡ namesakes merged [] l.given l.column
