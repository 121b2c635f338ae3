-- The cells of a column at rows.
use Rattle.std.specs.Prelude.{ℕ, List, map}
use Rattle.vtl_cell.specs.Row.{Row, column_of}
use Rattle.vtl_cell.specs.declared.cell.Cell.{Cell}
use Rattle.vtl_rows.specs.Places.{row_at}

-- the cells of a column at the rows with these numbers
abbrev pub lane_cells : List Row → List ℕ → ℕ → List Cell
lane_cells rows numbers column = map (λ k. column_of column (row_at rows k)) numbers
