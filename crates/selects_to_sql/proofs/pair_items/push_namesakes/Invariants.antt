use Rattle.std.proofs.Common.{◌≡◌, ◌++◌, map, take}
use Rattle.vtl_tree.specs.Shown.{shown}
use Rattle.sql_tree.specs.View.{item_tree}
use Rattle.selects_to_sql.specs.Items.{for_each_two}
use Rattle.selects_to_sql.specs.PairItems.{namesake_item}
use Rattle.selects_to_sql.proofs.pair_items.push_namesakes.Given as goal

abbrev pub invariant-loop-i : goal.invariant-loop-i
invariant-loop-i l = map item_tree l.items.items ≡ map item_tree l.fn.items.items ++ for_each_two (namesake_item l.writer l.operator.op l.operator.left_leads (shown l.columns)) (shown (take l.i l.measures)) (shown (take l.i l.made))
