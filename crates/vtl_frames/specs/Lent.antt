-- The cells that a column lends at rows.
use Rattle.std.specs.Prelude.{List}
use Rattle.vtl_cell.specs.declared.cell.Cell.{Cell}
use Rattle.vtl_frames.specs.Lanes.{lane_cells}
use Rattle.vtl_frames.specs.declared.lane.Lane.{Lane}

abbrev pub cells_in : Lane → List Cell
cells_in l = lane_cells l.table.now.rows l.numbers.now l.column
