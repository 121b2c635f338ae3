use Rattle.std.proofs.Common.{◌≡◌, map, drop}
use Rattle.sql_tree.specs.View.{join_tree, select_tree}
use Rattle.sql_check_parts.specs.Queries.{joined_scope, scope_of}
use Rattle.sql_check_laws.specs.Selects.{AreJoinsTyped}
use Rattle.sql_from.specs.Held.{tables_held}
use Rattle.sql_from.specs.Sources.{scope_held}
use Rattle.sql_exec.proofs.columns.select_kinds.Given as goal

abbrev pub invariant-loop-place : goal.invariant-loop-place
invariant-loop-place l =
    let left = map join_tree (drop l.place l.select.joins) in
    record {
      held : l.sources.held ≡ l.fn.tables;
      typed : AreJoinsTyped l.p (tables_held l.fn.tables) (scope_held l.sources.sources) left;
      scope : joined_scope (tables_held l.fn.tables) (scope_held l.sources.sources) left ≡ scope_of (tables_held l.fn.tables) (select_tree l.select);
    }
