use Rattle.std.proofs.Common.{◌≡◌, ◌++◌, map, take}
use Rattle.vtl_tree.specs.Shown.{shown}
use Rattle.sql_tree.specs.View.{item_tree}
use Rattle.selects_to_sql.specs.Items.{for_each_two}
use Rattle.times_to_sql.specs.StockItems.{stock_item}
use Rattle.times_to_sql.proofs.stock_queries.push_stocks.Given as goal

abbrev pub invariant-loop-i : goal.invariant-loop-i
invariant-loop-i l = map item_tree l.items.items ≡ map item_tree l.fn.items.items ++ for_each_two (stock_item (shown l.columns)) (shown (take l.i l.measures)) (shown (take l.i l.made))
