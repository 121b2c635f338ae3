use Rattle.std.proofs.Common.{◌+◌}
use Rattle.sql_tree.specs.View.{select_tree}
use Rattle.sql_engine.specs.Reads.{EachOfSelect}
use Rattle.sql_engine.proofs.Noting.{AllLeft, next_left, one_noted}
use Rattle.sql_engine.proofs.query_reads.note_query.Goals as goal

pub loop-select-preserved : goal.loop-select-preserved
loop-select-preserved c =
    let xs = c.as_slice-select-items.result.now in
    let i = c.loop-select.select-index in
    let x = c.select-item.result in
    one_noted c.args.place c.args.last.now c.loop-select.last c.note_select.new.last (λ P. EachOfSelect P (select_tree x)) (AllLeft select_tree EachOfSelect xs i) (AllLeft select_tree EachOfSelect xs (i + 1)) (AllLeft select_tree EachOfSelect xs 0)
    c.loop-select.invariant c.in_ok-note_select.ensures (next_left select_tree EachOfSelect xs i x c.loop-select-test.true c.select-item.is)
