use Rattle.std.proofs.Common.{◌≡◌, map, take}
use Rattle.vtl_tree.specs.Shown.{shown}
use Rattle.sql_tree.specs.View.{item_tree}
use Rattle.times_to_sql.specs.Shifts.{shifted_item}
use Rattle.times_to_sql.proofs.shift_queries.shifted_items.Given as goal

abbrev pub invariant-loop-column : goal.invariant-loop-column
invariant-loop-column l = map item_tree l.items.items ≡ map (shifted_item l.writer l.periods) (shown (take l.column-index l.column-items))
