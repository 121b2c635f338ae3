use Rattle.std.proofs.Common.{◌≡◌, map, take}
use Rattle.vtl_rows.specs.Tables.{column_kinds}
use Rattle.sql_check_parts.specs.Scopes.{column_kind}
use Rattle.sql_groups.proofs.grouping.key_columns.Given as goal

abbrev pub invariant-loop-column : goal.invariant-loop-column
invariant-loop-column g l = column_kinds l.unnamed.items ≡ map (column_kind (g.N.Names.scope l.names)) (take l.column-index l.columns)
