use Rattle.std.proofs.Common.{◌≡◌, [], map, take}
use Rattle.vtl_tree.specs.NodeView.{item_tree}
use Rattle.vtl_tree.specs.Shown.{shown}
use Rattle.vtl_tree.specs.Trees as nodes
use Rattle.vtl_sources.specs.Table.{source_made}
use Rattle.vtl_lineage.specs.Numbers.{merged}
use Rattle.vtl_lineage.proofs.made.calculated.Given as goal

abbrev pub invariant-loop-column : goal.invariant-loop-column
invariant-loop-column l = l.sets.items ≡ map (source_made merged [] l.a (nodes.of_items (map item_tree l.items))) (shown (take l.column-index l.column-items))
