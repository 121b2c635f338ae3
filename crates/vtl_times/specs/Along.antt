-- What is made along a series of one of its columns.
use Rattle.std.specs.Prelude.{ℕ, Ok, List, map, pos}
use Rattle.std.specs.Option.{option_map_or}
use Rattle.vtl_cell.specs.Frames.{lag_of}
use Rattle.vtl_cell.specs.Groups.{group_value}
use Rattle.vtl_cell.specs.Outcome.{Outcome}
use Rattle.vtl_cell.specs.Row.{Row, column_of}
use Rattle.vtl_cell.specs.declared.cell.Cell.{Cell}
use Rattle.vtl_cell.specs.declared.cell.Cell.TheVariants as c
use Rattle.vtl_cell.specs.declared.operator.AggKind.TheVariants as agg
use Rattle.vtl_decimal.specs.Settings.{Settings}
use Rattle.vtl_frames.specs.Framed.{framed}
use Rattle.vtl_frames.specs.declared.bounds.Bound.TheVariants as bound
use Rattle.vtl_frames.specs.declared.bounds.Frame.{Frame}
use Rattle.vtl_tree.specs.Environment.{DataSet}
use Rattle.vtl_timing.specs.Times.{previous, up_to}
use Rattle.vtl_times.specs.declared.along.Along.{Along}
use Rattle.vtl_times.specs.declared.along.Along.TheVariants as along

-- from the first cell to the one at the place
abbrev pub up_to_place : Frame
up_to_place = record { first = bound.UnboundedPreceding; last = bound.Current }

-- at a place of the cells of a series in order
abbrev pub value_along : Settings → Along → ℕ → List Cell → Outcome Cell
value_along p along.Totals i cells = group_value p agg.Sum (framed up_to_place i cells)
value_along p along.Previous i cells = Ok (lag_of 1 (c.Int (pos 0)) i cells)

-- at a point of a data set
abbrev pub value_at : Settings → Along → ℕ → DataSet → Row → Outcome Cell
value_at p along.Totals column d r = group_value p agg.Sum (map (column_of column) (up_to d r))
value_at p along.Previous column d r = Ok (option_map_or (column_of column) (previous d r) (c.Int (pos 0)))
