use Rattle.std.proofs.Common.{drop, map}
use Rattle.std.specs.Prelude.{fold}
use Rattle.sql_tree.specs.View.{statement_tree}
use Rattle.sql_check_parts.specs.Statements.{after, nothing}
use Rattle.sql_meaning.specs.Scripts.{nothing_made, statements_made}
use Rattle.sql_engine.specs.InputTables.{rows_given}
use Rattle.sql_engine.proofs.Running.{Running}
use Rattle.sql_engine.proofs.made_tables.run_each.Given as goal

abbrev pub invariant-loop-place : goal.invariant-loop-place
invariant-loop-place g l =
    Running l.p l.inputs l.last (fold after nothing (map statement_tree l.statements)) (statements_made l.p (rows_given l.inputs) nothing_made (map statement_tree l.statements)) l.place (map statement_tree (drop l.place l.statements)) l.tables
