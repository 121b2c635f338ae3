-- Rows that are found by the cells of rows that ask, which stand at other columns there.
use Rattle.std.specs.Prelude.{ℕ, Bool, List, map}
use Rattle.std.specs.List.{list_any, position_or_len}
use Rattle.vtl_cell.specs.Row.{Row, same_row}
use Rattle.vtl_rows.specs.Tables.{cells_at}
use Rattle.vtl_index.specs.declared.row_keys.KeyColumn.{KeyColumn}

-- the columns of a key
abbrev pub columns_in : List KeyColumn → List ℕ
columns_in key = map (λ k. k.column) key

-- the rows, the columns of their keys, and the columns of the same cells in rows that ask
pub record Sought : Type 0 where
  pub own : List ℕ
  pub asked : List ℕ
  pub rows : List Row

-- a row has the cells that another one asks for; a row counts as null after its end
abbrev pub is_meant : Sought → Row → Row → Bool
is_meant x asking r = same_row (cells_at x.own r) (cells_at x.asked asking)

-- the number of the first row that a row asks for, or how many rows there are
abbrev pub first_meant : Sought → Row → ℕ
first_meant x asking = position_or_len (is_meant x asking) x.rows

abbrev pub is_any_meant : Sought → Row → Bool
is_any_meant x asking = list_any (is_meant x asking) x.rows
