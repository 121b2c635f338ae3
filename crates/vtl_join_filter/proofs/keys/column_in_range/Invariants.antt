use Rattle.std.proofs.Common.{ℕ, ◌<◌}
use Rattle.vtl_cell.specs.Row.{column_of}
use Rattle.vtl_rows.specs.Places.{row_at}
use Rattle.vtl_join_filter.specs.Partners.{IsInRange}
use Rattle.vtl_join_filter.proofs.keys.column_in_range.Given as goal

abbrev pub invariant-loop-i : goal.invariant-loop-i
invariant-loop-i l = (k : ℕ) → k < l.i → IsInRange (column_of l.column (row_at l.table.rows k))
