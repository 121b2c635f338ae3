use Rattle.sql_groups.specs.Items.{item_at}
use Rattle.vtl_scalar.specs.Seen.{seen_of}
use Rattle.sql_groups.proofs.ItemLemmas.{cells_more, seen_more}
use Rattle.sql_groups.proofs.items.push_items.Goals as goal

pub loop-item-preserved : goal.loop-item-preserved
loop-item-preserved g c =
    let at = c.args.at.now in
    let f = item_at c.args.p.now (g.R.Cells.tables at) (g.R.Cells.cells at) (g.R.Cells.group at) in
    let items = c.args.items.now in
    record {
      cells = cells_more f items c.loop-item.item-index c.item-item.result c.loop-item-test.true c.item-item.is c.args.cells.now.items c.loop-item.cells.items c.push_item.new.cells.items c.loop-item.invariant.cells c.in_ok-with_these.ensures.cells;
      seen = seen_more f items c.loop-item.item-index c.item-item.result c.loop-item-test.true c.item-item.is (seen_of c.args.seen) (seen_of c.loop-item.with_these) (seen_of c.in_ok-with_these.with_these) c.loop-item.invariant.seen c.in_ok-with_these.ensures.seen;
    }
