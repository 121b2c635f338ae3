use Rattle.std.proofs.Common.{◌<◌, min, length, map, subst}
use Rattle.vtl_tree.specs.Shown.{shown}
use Rattle.sql_tree.specs.View.{item_tree}
use Rattle.selects_to_sql.proofs.Written.{one_more}
use Rattle.times_to_sql.specs.StockItems.{stock_item}
use Rattle.times_to_sql.proofs.stock_queries.push_stocks.Goals as goal

pub loop-i-preserved : goal.loop-i-preserved
loop-i-preserved c =
    let xs = c.args.measures.now in
    let ys = c.args.made.now in
    let f = stock_item (shown c.args.columns.now) in
    let within : c.loop-i.i < min (length xs) (length ys) = subst (λ n. c.loop-i.i < n) c.min-i-end.ensures c.loop-i-test.true in
    one_more f (map item_tree c.loop-i.items.items) (map item_tree c.push_stock.new.items.items) (map item_tree c.args.items.now.items) xs ys c.loop-i.i c.index-measures-i.result c.index-made-i.result
    c.in_ok-push_stock.ensures c.loop-i.invariant within c.index-measures-i.is c.index-made-i.is
