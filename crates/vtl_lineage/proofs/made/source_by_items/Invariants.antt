use Rattle.std.proofs.Common.{◌≡◌, [], drop, map}
use Rattle.vtl_tree.specs.NodeView.{item_tree}
use Rattle.vtl_tree.specs.Trees as nodes
use Rattle.vtl_sources.specs.Table.{source_made}
use Rattle.vtl_lineage.specs.Numbers.{merged}
use Rattle.vtl_lineage.proofs.made.source_by_items.Given as goal

abbrev pub invariant-loop-item : goal.invariant-loop-item
invariant-loop-item l = source_made merged [] l.a (nodes.of_items (map item_tree l.items)) l.column ≡ source_made merged [] l.a (nodes.of_items (map item_tree (drop l.item-index l.items))) l.column
