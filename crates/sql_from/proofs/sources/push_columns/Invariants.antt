use Rattle.std.proofs.Common.{◌≡◌, ◌++◌, map, take}
use Rattle.sql_meaning.specs.Tables.{column_entry}
use Rattle.sql_from.specs.Columns.{columns_below}
use Rattle.sql_from.proofs.sources.push_columns.Given as goal

abbrev pub invariant-loop-column : goal.invariant-loop-column
invariant-loop-column l = l.columns.items ≡ l.initial.columns.items ++ columns_below l.alias (map column_entry (take l.column-index l.own))
