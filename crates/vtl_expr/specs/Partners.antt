-- Points that are found by the cells of other rows.
use Rattle.std.specs.Prelude.{◌≡◌, ◌++◌, ℕ, true, List, length, take, Option, Some, option_map}
use Rattle.std.specs.List.{AllByRecursion}
use Rattle.std.specs.Option.{option_to_list}
use Rattle.vtl_cell.specs.Row.{Row}
use Rattle.vtl_rows.specs.Tables.{cells_at, fits}
use Rattle.vtl_rows.specs.declared.column.Column.{Column}
use Rattle.vtl_tree.specs.DataSet.{look}
use Rattle.vtl_tree.specs.Environment.{DataSet}
use Rattle.vtl_tree.specs.Structure.{columns_of}
use Rattle.vtl_tree.specs.declared.structure.Structure.{Structure}
use Rattle.vtl_tree.specs.Columns.{identifiers_of, places_in}

-- points, and the places at which rows that ask for them have their identifiers
pub record Sought : Type 0 where
  pub places : List ℕ
  pub points : List Row

-- the point that a row asks for
abbrev pub found : Sought → Row → Option Row
found sought r = look (length sought.places) sought.points (cells_at sought.places r)

-- the points of an operand, as the rows of a structure ask for them
abbrev pub sought_by : Structure → DataSet → Sought
sought_by s other = record { places = places_in (columns_of s) (identifiers_of other.structure); points = other.points }

-- what comes of a row and the point that it asks for, where there is one
abbrev pub with_found : (Row → Row → Row) → Sought → Row → List Row
with_found f sought r = option_to_list (option_map (f r) (found sought r))

-- what is made of each row beside the point that it asks for fits the columns
abbrev pub AllFit : (Row → Row) → List Column → Sought → List Row → Type 0
AllFit f columns sought rows = AllByRecursion (λ r. (q : Row) → found sought r ≡ Some q → fits columns (f (r ++ q)) ≡ true) rows

-- the cells of points at these columns are their first n
abbrev pub AreFirst : List ℕ → ℕ → List Row → Type 0
AreFirst own n points = AllByRecursion (λ r. cells_at own r ≡ take n r) points
