-- Points that are made of points: by an expression for each column, by choosing columns, and by looking at another operand.
use Rattle.std.specs.Prelude.{Ok, Err, List, ◌++◌, map, Option, option_map}
use Rattle.std.specs.List.{flat_map}
use Rattle.std.specs.Option.{option_to_list}
use Rattle.vtl_decimal.specs.Settings.{Settings}
use Rattle.vtl_cell.specs.declared.cell.Cell.{Cell}
use Rattle.vtl_cell.specs.declared.cell.Cell.TheVariants as c
use Rattle.vtl_decimal.specs.declared.number.Fault.{Fault}
use Rattle.vtl_cell.specs.Outcome.{Outcome, fault_in, faults_by, unless}
use Rattle.vtl_cell.specs.Row.{Row}
use Rattle.vtl_rows.specs.Tables.{cells_at}
use Rattle.vtl_tree.specs.CompExp.{CompExp}
use Rattle.vtl_tree.specs.DataSet.{look}
use Rattle.vtl_tree.specs.Environment.{DataSet}
use Rattle.vtl_tree.specs.Structure.{columns_of, key_width}
use Rattle.vtl_tree.specs.Value.{value}
use Rattle.vtl_tree.specs.declared.structure.Component.{Component}
use Rattle.vtl_tree.specs.declared.structure.Structure.{Structure}
use Rattle.vtl_tree.specs.Columns.{identifiers_of, places_in}

-- the data set of these points
abbrev pub with_points : Structure → List Row → DataSet
with_points s points = record { structure = s; points = points }

-- the value, or null in the place of a fault
abbrev pub cell_or_null : Outcome Cell → Cell
cell_or_null (Ok v) = v
cell_or_null (Err f) = c.Null

-- the fault of the whole values at a point: division by zero where one of them has it, else out of range where one has it
abbrev pub point_fault : Settings → List CompExp → Row → Option Fault
point_fault p es r = faults_by (λ e. fault_in (value p e r)) es

-- the values at a point
abbrev pub point_of : Settings → List CompExp → Row → Row
point_of p es r = map (λ e. cell_or_null (value p e r)) es

-- a point of these values for each point, unless one of them has a fault
abbrev pub each_point : Settings → List CompExp → List Row → Outcome (List Row)
each_point p es d = unless (faults_by (point_fault p es) d) (map (point_of p es) d)

-- each point with other columns, which it has all
abbrev pub shown : List Component → List Component → List Row → List Row
shown xs ys d = map (cells_at (places_in xs ys)) d

-- the point of another operand that agrees with a point of a structure on that operand's identifiers
abbrev pub partner : Structure → DataSet → Row → Option Row
partner s other r = look (key_width other.structure) other.points (cells_at (places_in (columns_of s) (identifiers_of other.structure)) r)

-- a point of a structure with the cells of its partner behind it, where it has one
abbrev pub beside : Structure → DataSet → Row → List Row
beside s other r = option_to_list (option_map (λ q. r ++ q) (partner s other r))

-- all pairs of points that agree on the identifiers of the second operand, of which the first has all
abbrev pub paired : DataSet → DataSet → List Row
paired a other = flat_map (beside a.structure other) a.points
