-- Columns of integers that are all different.
use Rattle.std.specs.Prelude.{◌≡◌, ℕ, ◌<◌, ◌-ℤ◌, ℤ, false, List, Option, None, Some, unsigned_abs}
use Rattle.vtl_cell.specs.Order.{same_cell}
use Rattle.vtl_cell.specs.Row.{Row, column_of}
use Rattle.vtl_cell.specs.declared.cell.Cell.{Cell}
use Rattle.vtl_cell.specs.declared.cell.Cell.TheVariants as c
use Rattle.vtl_rows.specs.Places.{row_at}

-- how far an integer is from another one; another cell is nowhere
abbrev pub distance_of : ℤ → Cell → Option ℕ
distance_of from (c.Int n) = Some (unsigned_abs (n -ℤ from))
distance_of from cell = None

-- no two of the first rows have the same cell in a column
abbrev pub AreDistinct : ℕ → List Row → ℕ → Type 0
AreDistinct column rows count = (j k : ℕ) → j < k → k < count → same_cell (column_of column (row_at rows j)) (column_of column (row_at rows k)) ≡ false
