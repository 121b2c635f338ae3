use Rattle.std.proofs.Common.{◌≡◌, [], map, take}
use Rattle.vtl_tree.specs.Shown.{shown}
use Rattle.vtl_sources.specs.Table.{source_counted}
use Rattle.vtl_lineage.specs.Numbers.{merged}
use Rattle.vtl_lineage.proofs.made.aggregate.Given as goal

abbrev pub invariant-loop-column : goal.invariant-loop-column
invariant-loop-column l = l.sets.items ≡ map (source_counted merged [] l.a l.spec.items) (shown (take l.column-index l.column-items))
