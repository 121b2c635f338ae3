use Rattle.sql_tree.specs.View.{select_tree}
use Rattle.sql_engine.specs.Reads.{EachOfSelect}
use Rattle.sql_engine.proofs.Noting.{AllLeft, NotedBut}
use Rattle.sql_engine.proofs.query_reads.note_query.Given as goal

abbrev pub invariant-loop-select : goal.invariant-loop-select
invariant-loop-select l = NotedBut l.place l.initial.last l.last (AllLeft select_tree EachOfSelect l.select-items l.select-index) (AllLeft select_tree EachOfSelect l.select-items 0)
