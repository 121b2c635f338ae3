-- The data sets that are read for a script: what an INPUT asks of its rows, in words of structures.
use Rattle.vtl_to_sql.specs.Scripts.{input_of}
use Rattle.sql_meaning.specs.Scripts.{Inputs, rows_read}
use Rattle.sql_meaning.specs.Inputs.{IsInputData}
use Rattle.vtl_meaning.specs.Points.{with_points}
use Rattle.vtl_tree.specs.Structures.{Named}
use Rattle.vtl_tree.specs.Environment.{Environment}
use Rattle.std.specs.Prelude.{◌≡◌, Bool, true, ◌&&◌, List, [], ◌∷◌, map}
use Rattle.std.specs.List.{AllByRecursion, list_any}
use Rattle.std.specs.Option.{option_map_or}
use Rattle.vtl_cell.specs.Row.{Row}
use Rattle.vtl_cell.specs.declared.cell.Cell.{Cell}
use Rattle.vtl_cell.specs.declared.cell.Cell.TheVariants as c
use Rattle.vtl_tree.specs.DataSet.{IsDataSet}
use Rattle.vtl_tree.specs.NotNull.{NotNull}
use Rattle.vtl_tree.specs.Structure.{columns_of, same_name}
use Rattle.vtl_tree.specs.declared.structure.Component.{Component}
use Rattle.vtl_tree.specs.declared.structure.Structure.{Structure}

-- a text is among the codes of the component, if it lists codes
abbrev pub is_listed : Component → Cell → Bool
is_listed x (c.Text t) = option_map_or (λ texts. list_any (same_name t) texts) x.codes true
is_listed x v = true

abbrev pub are_listed : List Component → Row → Bool
are_listed [] r = true
are_listed (x ∷ xs) [] = true
are_listed (x ∷ xs) (v ∷ vs) = is_listed x v && are_listed xs vs

-- the points of a data set, with codes of those listed
pub record AreAsked (s : Structure) (points : List Row) : Type 0 where
  pub set : IsDataSet s points
  pub listed : AllByRecursion (λ r. are_listed (columns_of s) r ≡ true) points

-- ---- what is read for a script

-- the rows that are read for each INPUT are such as it asks for
abbrev pub AreTaken : Inputs → NotNull → Named → Type 0
AreTaken inputs ls reads = AllByRecursion (λ e. IsInputData (input_of ls e) (rows_read inputs e.0)) reads

-- the data sets of these rows
abbrev pub sets_read : Inputs → Named → Environment
sets_read inputs reads = map (λ e. (e.0, with_points e.1 (rows_read inputs e.0))) reads
