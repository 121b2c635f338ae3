use Rattle.std.proofs.Common.{◌≡◌, ◌++◌, map, take}
use Rattle.vtl_tree.specs.Shown.{shown}
use Rattle.sql_tree.specs.View.{item_tree}
use Rattle.selects_to_sql.specs.Items.{for_each_two, renamed_item}
use Rattle.selects_to_sql.proofs.items.push_renamed.Given as goal

abbrev pub invariant-loop-i : goal.invariant-loop-i
invariant-loop-i l = map item_tree l.items.items ≡ map item_tree l.fn.items.items ++ for_each_two renamed_item (shown (take l.i l.columns)) (shown (take l.i l.names))
