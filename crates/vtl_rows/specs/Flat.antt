-- Rows of one width in pages of cells.
use Rattle.std.specs.Prelude.{◌≡◌, ℕ, zero, ◌*◌, ◌^◌, ◌<◌, ◌≤◌, Bool, true, false, List, length}
use Rattle.vtl_cell.specs.declared.cell.Cell.{Cell}
use Rattle.vtl_cell.specs.Row.{Row}
use Rattle.vtl_pages.specs.Chosen.{runs}
use Rattle.vtl_pages.specs.Paged.{Paged}
use Rattle.vtl_rows.specs.declared.cells.Cells.{Cells}
use Rattle.vtl_rows.specs.declared.cells.Cells.TheVariants as c
use Rattle.vtl_rows.specs.declared.column.Column.{Column}
use Rattle.vtl_rows.specs.Tables.{AllFit}

-- the pages of the cells, whoever owns them
abbrev pub pages_of : Cells → Paged Cell
pages_of (c.Own pages) = pages
pages_of (c.Shared shared) = shared.value

abbrev pub cells_of : Cells → List Cell
cells_of cells = (pages_of cells).items

-- how many cells a row has
abbrev pub width_of : Cells → ℕ
width_of cells = (pages_of cells).width

-- whether they belong to one table
abbrev pub is_own : Cells → Bool
is_own (c.Own pages) = true
is_own (c.Shared shared) = false

-- for how many more cells there is room: for none where they are shared
abbrev pub room_of : Cells → ℕ
room_of (c.Own pages) = pages.spare
room_of (c.Shared shared) = zero

-- the first n rows of a list of cells
abbrev pub flat_rows : ℕ → ℕ → List Cell → List Row
flat_rows = runs

-- the cells are those of n whole rows, each of which fits the columns
pub record IsFlat (columns : List Column) (n : ℕ) (cells : List Cell) : Type 0 where
  pub wide : 0 < length columns
  pub whole : length cells ≡ n * length columns
  pub fit : AllFit columns (flat_rows (length columns) n cells)

-- the parts of a table: columns, cells, how many rows these are, and for how many further rows there is room
pub record IsTable (columns : List Column) (cells : Cells) (n spare : ℕ) : Type 0 where
  pub flat : IsFlat columns n (cells_of cells)
  pub width : width_of cells ≡ length columns
  pub room : spare * length columns ≤ room_of cells
  pub few : n < 2 ^ 63
