use Rattle.std.proofs.Common.{◌≡◌, ◌++◌, map, take}
use Rattle.vtl_tree.specs.Shown.{shown}
use Rattle.vtl_tree.specs.NodeView.{measure_tree}
use Rattle.sql_tree.specs.View.{item_tree}
use Rattle.selects_to_sql.specs.Items.{for_each_two, measured_item}
use Rattle.selects_to_sql.proofs.items.push_all_measured.Given as goal

abbrev pub invariant-loop-i : goal.invariant-loop-i
invariant-loop-i l = map item_tree l.items.items ≡ map item_tree l.fn.items.items ++ for_each_two (measured_item l.writer (measure_tree l.op) (shown l.columns)) (shown (take l.i l.measures)) (shown (take l.i l.made))
