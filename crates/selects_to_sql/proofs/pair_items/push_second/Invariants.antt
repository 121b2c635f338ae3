use Rattle.std.proofs.Common.{◌≡◌, ◌++◌, map, take}
use Rattle.vtl_tree.specs.Shown.{shown}
use Rattle.sql_tree.specs.View.{item_tree}
use Rattle.selects_to_sql.specs.PairItems.{second_item}
use Rattle.selects_to_sql.proofs.pair_items.push_second.Given as goal

abbrev pub invariant-loop-column : goal.invariant-loop-column
invariant-loop-column l = map item_tree l.items.items ≡ map item_tree l.fn.items.items ++ map second_item (shown (take l.column-index l.names))
