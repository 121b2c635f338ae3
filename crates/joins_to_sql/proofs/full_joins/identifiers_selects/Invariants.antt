use Rattle.std.proofs.Common.{◌≡◌, map, take}
use Rattle.vtl_tree.specs.Shown.{shown}
use Rattle.sql_tree.specs.View.{select_tree}
use Rattle.joins_to_sql.specs.KeyItems.{identifiers_select}
use Rattle.joins_to_sql.proofs.full_joins.identifiers_selects.Given as goal

abbrev pub invariant-loop-table : goal.invariant-loop-table
invariant-loop-table l = map select_tree l.selects.items ≡ map (identifiers_select (shown l.identifiers)) (take l.table-index l.tables)
