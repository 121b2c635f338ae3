use Rattle.sql_engine.proofs.Noting.{ExportsLeft, NotedBut}
use Rattle.sql_engine.proofs.last_reads.note_exports.Given as goal

abbrev pub invariant-loop-statement : goal.invariant-loop-statement
invariant-loop-statement l = NotedBut l.place l.initial.last l.last (ExportsLeft l.statements l.statement-index) (ExportsLeft l.statements 0)
