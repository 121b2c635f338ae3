use Rattle.std.proofs.Common.{drop, map}
use Rattle.sql_tree.specs.View.{statement_tree}
use Rattle.sql_engine.specs.LastReads.{AreNoted, LastPlaces, StaysRead}
use Rattle.sql_engine.proofs.last_reads.note_creates.Given as goal

abbrev pub invariant-loop-place : goal.invariant-loop-place
invariant-loop-place l = (later : LastPlaces) → StaysRead l.place l.last later → AreNoted later l.place (map statement_tree (drop l.place l.statements)) → AreNoted later 0 (map statement_tree l.statements)
