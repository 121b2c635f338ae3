use Rattle.std.proofs.Common.{◌≡◌, ◌++◌, map, take}
use Rattle.vtl_tree.specs.Shown.{shown}
use Rattle.sql_tree.specs.View.{item_tree}
use Rattle.selects_to_sql.specs.PairItems.{lead_item}
use Rattle.times_to_sql.proofs.stock_queries.push_lead.Given as goal

abbrev pub invariant-loop-column : goal.invariant-loop-column
invariant-loop-column l = map item_tree l.items.items ≡ map item_tree l.fn.items.items ++ map (lead_item (shown l.columns)) (shown (take l.column-index l.names))
