use Rattle.std.proofs.Common.{◌≡◌, map, take}
use Rattle.sql_check_parts.specs.Scopes.{ColumnName, column_name}
use Rattle.sql_check_parts.proofs.Grouped.{is_column_among}
use Rattle.sql_check_parts.proofs.grouping.Grouping.of.Given as goal

abbrev pub invariant-loop-column : goal.invariant-loop-column
invariant-loop-column l = (name : ColumnName) → is_column_among name l.group.keys ≡ is_column_among name (map column_name (take l.column-index l.columns))
