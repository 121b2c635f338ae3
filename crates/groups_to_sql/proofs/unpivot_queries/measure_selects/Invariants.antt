use Rattle.std.proofs.Common.{◌≡◌, map, take}
use Rattle.vtl_tree.specs.Shown.{shown}
use Rattle.sql_tree.specs.View.{select_tree}
use Rattle.groups_to_sql.specs.TurnedItems.{measure_select}
use Rattle.groups_to_sql.proofs.unpivot_queries.measure_selects.Given as goal

abbrev pub invariant-loop-measure : goal.invariant-loop-measure
invariant-loop-measure l = map select_tree l.selects.items ≡ map (measure_select (shown l.identifiers) (shown l.columns) l.table) (shown (take l.measure-index l.measures))
