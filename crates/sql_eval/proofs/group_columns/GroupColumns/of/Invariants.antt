use Rattle.std.proofs.Common.{◌≡◌, ◌≤◌, drop, length}
use Rattle.sql_tree.specs.declared.parts.Column.{Column}
use Rattle.sql_check_parts.specs.Scopes.{found}
use Rattle.sql_meaning.specs.Values.{same_column}
use Rattle.sql_eval.specs.GroupPlaces.{place_from}
use Rattle.sql_eval.proofs.group_columns.GroupColumns.of.Given as goal

abbrev pub invariant-loop-place : goal.invariant-loop-place
invariant-loop-place l = record {
  within : l.place ≤ length l.columns;
  puts : (x : Column) → found l.places x ≡ place_from (same_column x) l.place (drop l.place l.columns);
}

abbrev pub decreases-loop-place : goal.decreases-loop-place
decreases-loop-place l = l.place
