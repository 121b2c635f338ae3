use Rattle.sql_engine.specs.Held.{MayLetGo}
use Rattle.sql_engine.specs.LastReads.{is_read_from}
use Rattle.sql_engine.proofs.letting_go.let_go_each.Given as goal

abbrev pub invariant-loop-name : goal.invariant-loop-name
invariant-loop-name l = MayLetGo (is_read_from l.place l.last) l.fn.tables l.tables
