use Rattle.std.proofs.Common.{◌+◌}
use Rattle.sql_tree.specs.View.{join_tree}
use Rattle.sql_engine.specs.Reads.{EachOfJoin}
use Rattle.sql_engine.proofs.Noting.{AllLeft, next_left, one_noted}
use Rattle.sql_engine.proofs.query_reads.note_joins.Goals as goal

pub loop-join-preserved : goal.loop-join-preserved
loop-join-preserved c =
    let xs = c.args.joins.now in
    let i = c.loop-join.join-index in
    let x = c.join-item.result in
    one_noted c.args.place c.args.last.now c.loop-join.last c.note_join.new.last (λ P. EachOfJoin P (join_tree x)) (AllLeft join_tree EachOfJoin xs i) (AllLeft join_tree EachOfJoin xs (i + 1)) (AllLeft join_tree EachOfJoin xs 0)
    c.loop-join.invariant c.in_ok-note_join.ensures (next_left join_tree EachOfJoin xs i x c.loop-join-test.true c.join-item.is)
