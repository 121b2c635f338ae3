use Rattle.sql_tree.specs.View.{join_tree}
use Rattle.sql_engine.specs.Reads.{EachOfJoin}
use Rattle.sql_engine.proofs.Noting.{AllLeft, NotedBut}
use Rattle.sql_engine.proofs.query_reads.note_joins.Given as goal

abbrev pub invariant-loop-join : goal.invariant-loop-join
invariant-loop-join l = NotedBut l.place l.initial.last l.last (AllLeft join_tree EachOfJoin l.joins l.join-index) (AllLeft join_tree EachOfJoin l.joins 0)
