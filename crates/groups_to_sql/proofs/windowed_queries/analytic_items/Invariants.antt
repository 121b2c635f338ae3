use Rattle.std.proofs.Common.{◌≡◌, map, take}
use Rattle.vtl_tree.specs.Shown.{shown}
use Rattle.vtl_tree.specs.NodeView.{analytic_tree}
use Rattle.sql_tree.specs.View.{item_tree}
use Rattle.groups_to_sql.specs.WindowItems.{analytic_items}
use Rattle.groups_to_sql.proofs.windowed_queries.analytic_items.Given as goal

abbrev pub invariant-loop-column : goal.invariant-loop-column
invariant-loop-column l = map item_tree l.items.items ≡ analytic_items l.writer (analytic_tree l.spec) l.a (shown (take l.column-index l.column-items))
