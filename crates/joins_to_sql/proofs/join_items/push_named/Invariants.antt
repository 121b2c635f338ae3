use Rattle.std.proofs.Common.{◌≡◌, ◌++◌, map, take}
use Rattle.vtl_tree.specs.Shown.{shown}
use Rattle.sql_tree.specs.View.{item_tree}
use Rattle.joins_to_sql.specs.JoinItems.{picked_column}
use Rattle.selects_to_sql.specs.Queries.{items_as}
use Rattle.joins_to_sql.proofs.join_items.push_named.Given as goal

abbrev pub invariant-loop-i : goal.invariant-loop-i
invariant-loop-i l = map item_tree l.items.items ≡ map item_tree l.fn.items.items ++ items_as (map picked_column (take l.i l.picked)) (shown (take l.i l.names))
