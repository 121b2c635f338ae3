-- A cell of a row, or one that was made.
use Rattle.vtl_cell.specs.declared.cell.Cell.{Cell}
use Rattle.vtl_index.specs.declared.row_keys.Counted.{Counted}
use Rattle.vtl_index.specs.declared.row_keys.Counted.TheVariants.{Lent, Made}

abbrev pub counted_value : Counted → Cell
counted_value (Lent cell) = cell.now
counted_value (Made cell) = cell
