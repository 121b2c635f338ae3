use Rattle.std.proofs.Common.{◌≡◌, map, take}
use Rattle.vtl_tree.specs.Shown.{shown}
use Rattle.sql_tree.specs.View.{item_tree}
use Rattle.groups_to_sql.specs.GroupedItems.{aggregated_items}
use Rattle.groups_to_sql.proofs.grouped_queries.aggregated_items.Given as goal

abbrev pub invariant-loop-column : goal.invariant-loop-column
invariant-loop-column l = map item_tree l.items.items ≡ aggregated_items l.made (shown (take l.column-index l.column-items))
