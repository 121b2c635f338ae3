-- Rows of cells.
use Rattle.std.specs.Prelude.{ℕ, Bool, List, slice_index_or, take}
use Rattle.std.specs.Cmp.Lexicographic.{pointwise, slice_cmp}
use Rattle.std.specs.declared.cmp.Ordering.{Ordering}
use Rattle.vtl_cell.specs.Order.{cell_cmp, same_cell}
use Rattle.vtl_cell.specs.declared.cell.Cell.{Cell}
use Rattle.vtl_cell.specs.declared.cell.Cell.TheVariants as c

abbrev pub Row : Type 0
Row = List Cell

-- the cell at a place, or null past the last one
abbrev pub column_of : ℕ → Row → Cell
column_of i r = slice_index_or r i c.Null

-- as many cells, and the same at each place
abbrev pub same_row : Row → Row → Bool
same_row = pointwise same_cell

-- cell by cell from the left
abbrev pub row_cmp : Row → Row → Ordering
row_cmp = slice_cmp cell_cmp

-- whether two rows agree in the first n cells
abbrev pub same_key : ℕ → Row → Row → Bool
same_key n r s = same_row (take n r) (take n s)
