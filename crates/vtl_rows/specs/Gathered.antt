-- Rows that are put together from rows of several tables.
use Rattle.std.specs.Prelude.{ℕ, ◌/◌, List, [], map, length, slice_index, slice_index_or}
use Rattle.std.specs.Simd.{first_chunks}
use Rattle.vtl_cell.specs.declared.cell.Cell.{Cell}
use Rattle.vtl_cell.specs.declared.kind.Kind.{Kind}
use Rattle.vtl_cell.specs.Row.{Row, column_of}
use Rattle.vtl_rows.specs.declared.gather.Pick.{Pick}
use Rattle.vtl_rows.specs.Places.{row_at}
use Rattle.vtl_rows.specs.Tables.{Listed, column_at}

-- a list cut into pieces of one length; what is left at its end is in none
abbrev pub pieces : {X : Type 0} → ℕ → List X → List (List X)
pieces width xs = first_chunks width (length xs / width) xs

-- the part at a place; past the last one a table of nothing
abbrev pub part_at : List Listed → ℕ → Listed
part_at parts i = slice_index_or parts i (record { columns = []; rows = [] })

-- the cell that is picked for a tuple of row numbers, one for each part; null where the part has no such row
abbrev pub picked_cell : List Listed → List ℕ → Pick → Cell
picked_cell parts tuple pick = column_of pick.column (row_at (part_at parts pick.part).rows (slice_index tuple pick.part))

-- the row that is put together for a tuple
abbrev pub picked : List Listed → List Pick → List ℕ → Row
picked parts picks tuple = map (picked_cell parts tuple) picks

-- the kind of the column from which a cell is picked
abbrev pub picked_kind : List Listed → Pick → Kind
picked_kind parts pick = (column_at (part_at parts pick.part).columns pick.column).kind
