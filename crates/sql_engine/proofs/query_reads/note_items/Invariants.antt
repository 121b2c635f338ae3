use Rattle.sql_tree.specs.View.{item_tree}
use Rattle.sql_engine.specs.Reads.{EachOfItem}
use Rattle.sql_engine.proofs.Noting.{AllLeft, NotedBut}
use Rattle.sql_engine.proofs.query_reads.note_items.Given as goal

abbrev pub invariant-loop-item : goal.invariant-loop-item
invariant-loop-item l = NotedBut l.place l.initial.last l.last (AllLeft item_tree EachOfItem l.items l.item-index) (AllLeft item_tree EachOfItem l.items 0)
