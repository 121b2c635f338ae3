use Rattle.std.proofs.Common.{◌≡◌, ◌++◌, map, take}
use Rattle.vtl_tree.specs.Shown.{shown}
use Rattle.vtl_tree.specs.NodeView.{item_tree as target_tree}
use Rattle.sql_tree.specs.View.{item_tree}
use Rattle.selects_to_sql.specs.Items.{calculated_item}
use Rattle.selects_to_sql.proofs.items.push_all_calculated.Given as goal

abbrev pub invariant-loop-column : goal.invariant-loop-column
invariant-loop-column l = map item_tree l.items.items ≡ map item_tree l.fn.items.items ++ map (calculated_item l.writer (map target_tree l.targets)) (shown (take l.column-index l.columns))
