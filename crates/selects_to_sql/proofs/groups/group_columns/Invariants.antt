use Rattle.std.proofs.Common.{◌≡◌, take}
use Rattle.expressions_to_sql.specs.ToSql.{group_columns}
use Rattle.selects_to_sql.specs.Queries.{first_alias}
use Rattle.selects_to_sql.proofs.groups.group_columns.Given as goal

abbrev pub invariant-loop-name : goal.invariant-loop-name
invariant-loop-name l = l.columns.items ≡ group_columns first_alias (take l.name-index l.names)
