use Rattle.std.proofs.Common.{◌≡◌, map, take}
use Rattle.vtl_tree.specs.Shown.{shown}
use Rattle.vtl_sets.specs.TableOf.{column_for}
use Rattle.vtl_sets.proofs.columns.table_columns.Given as goal

abbrev pub invariant-loop-column : goal.invariant-loop-column
invariant-loop-column l = l.table_columns.items ≡ map column_for (shown (take l.column-index l.column-items))
