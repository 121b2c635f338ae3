use Rattle.std.proofs.Common.{◌<◌, min, length, map, subst}
use Rattle.vtl_tree.specs.Shown.{shown}
use Rattle.vtl_tree.specs.NodeView.{measure_tree}
use Rattle.sql_tree.specs.View.{item_tree}
use Rattle.selects_to_sql.specs.Items.{measured_item}
use Rattle.selects_to_sql.proofs.Written.{one_more}
use Rattle.selects_to_sql.proofs.items.push_all_measured.Goals as goal

pub loop-i-preserved : goal.loop-i-preserved
loop-i-preserved c =
    let xs = c.args.measures.now in
    let ys = c.args.made.now in
    let f = measured_item c.args.writer.now (measure_tree c.args.op.now) (shown c.args.columns.now) in
    let within : c.loop-i.i < min (length xs) (length ys) = subst (λ n. c.loop-i.i < n) c.min-i-end.ensures c.loop-i-test.true in
    one_more f (map item_tree c.loop-i.items.items) (map item_tree c.push_measured.new.items.items) (map item_tree c.args.items.now.items) xs ys c.loop-i.i c.index-measures-i.result c.index-made-i.result
    c.in_ok-push_measured.ensures c.loop-i.invariant within c.index-measures-i.is c.index-made-i.is
