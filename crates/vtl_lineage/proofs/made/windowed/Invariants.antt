use Rattle.std.proofs.Common.{◌≡◌, [], map, take}
use Rattle.vtl_tree.specs.Shown.{shown}
use Rattle.vtl_tree.specs.Trees as nodes
use Rattle.vtl_tree.specs.declared.calls.AnalyticOp.{AnalyticOp}
use Rattle.vtl_sources.specs.Table.{source_made}
use Rattle.vtl_lineage.specs.Numbers.{merged}
use Rattle.vtl_lineage.proofs.made.windowed.Given as goal

abbrev pub invariant-loop-column : goal.invariant-loop-column
invariant-loop-column l = (o : AnalyticOp) → l.sets.items ≡ map (source_made merged [] l.a (nodes.of_measures o l.window)) (shown (take l.column-index l.column-items))
