use Rattle.std.proofs.Common.{◌≡◌, ℕ, map, take}
use Rattle.vtl_cell.specs.Row.{Row}
use Rattle.vtl_decimal.specs.Settings.{Settings}
use Rattle.vtl_tree.specs.Shown.{shown}
use Rattle.vtl_tree.specs.Structure.{columns_of}
use Rattle.vtl_timing.specs.Times.{shifted_value}
use Rattle.vtl_times.specs.Columns.{column_value}
use Rattle.vtl_times.proofs.shift.shifted_columns.Given as goal

abbrev pub invariant-loop-column : goal.invariant-loop-column
invariant-loop-column l = (p : Settings) (r : Row) (i : ℕ) → map (column_value p r i) l.shifted.items ≡ map (λ y. shifted_value l.n (columns_of l.a) y r) (shown (take l.column-index l.column-items))
