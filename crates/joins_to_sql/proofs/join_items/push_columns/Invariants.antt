use Rattle.std.proofs.Common.{◌≡◌, ◌++◌, map, take}
use Rattle.vtl_tree.specs.Shown.{shown}
use Rattle.joins_to_sql.specs.JoinItems.{column_from, picked_column}
use Rattle.joins_to_sql.proofs.join_items.push_columns.Given as goal

abbrev pub invariant-loop-component : goal.invariant-loop-component
invariant-loop-component l = map picked_column l.picked.items ≡ map picked_column l.fn.picked.items ++ map (column_from l.alias) (shown (take l.component-index l.components))
