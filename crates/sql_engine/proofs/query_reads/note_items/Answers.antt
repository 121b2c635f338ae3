use Rattle.std.proofs.Common.{◌+◌}
use Rattle.sql_tree.specs.View.{item_tree}
use Rattle.sql_engine.specs.Reads.{EachOfItem}
use Rattle.sql_engine.proofs.Noting.{AllLeft, next_left, one_noted}
use Rattle.sql_engine.proofs.query_reads.note_items.Goals as goal

pub loop-item-preserved : goal.loop-item-preserved
loop-item-preserved c =
    let xs = c.args.items.now in
    let i = c.loop-item.item-index in
    let x = c.item-item.result in
    one_noted c.args.place c.args.last.now c.loop-item.last c.note_item.new.last (λ P. EachOfItem P (item_tree x)) (AllLeft item_tree EachOfItem xs i) (AllLeft item_tree EachOfItem xs (i + 1)) (AllLeft item_tree EachOfItem xs 0)
    c.loop-item.invariant c.in_ok-note_item.ensures (next_left item_tree EachOfItem xs i x c.loop-item-test.true c.item-item.is)
