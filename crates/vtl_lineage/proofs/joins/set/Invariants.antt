use Rattle.std.proofs.Common.{◌≡◌, [], map, take}
use Rattle.vtl_tree.specs.Shown.{shown}
use Rattle.vtl_sources.specs.Table.{namesakes}
use Rattle.vtl_lineage.specs.Numbers.{merged}
use Rattle.vtl_lineage.proofs.joins.set.Given as goal

abbrev pub invariant-loop-column : goal.invariant-loop-column
invariant-loop-column l = l.sets.items ≡ map (namesakes merged [] l.given) (shown (take l.column-index l.column-items))
