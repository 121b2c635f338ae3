-- `pivot` and `unpivot`: the values of an identifier become measures, and measures values of an identifier.
use Rattle.std.specs.Prelude.{ℕ, Bool, ◌&&◌, List, [], ◌∷◌, ◌++◌, cond, map, Option, Some, None}
use Rattle.std.specs.List.{filter_map, find, flat_map}
use Rattle.std.specs.Option.{option_and_then, option_map_or}
use Rattle.vtl_cell.specs.Kinds.{is_null}
use Rattle.vtl_cell.specs.Order.{same_cell}
use Rattle.vtl_cell.specs.Row.{Row, same_row}
use Rattle.vtl_cell.specs.declared.cell.Cell.{Cell}
use Rattle.vtl_cell.specs.declared.cell.Cell.TheVariants as c
use Rattle.vtl_tree.specs.Environment.{DataSet}
use Rattle.vtl_tree.specs.Structure.{columns_of}
use Rattle.vtl_tree.specs.declared.structure.Component.{Component}
use Rattle.vtl_tree.specs.declared.structure.Structure.{Structure}
use Rattle.vtl_tuples.specs.Keys.{each_once}
use Rattle.vtl_tree.specs.Choices.{chosen}
use Rattle.vtl_tree.specs.Names.{component_of}
use Rattle.vtl_tree.specs.declared.choices.Choice.TheVariants as choice
use Rattle.vtl_meaning.specs.Agreement.{key_of, values_in}
use Rattle.vtl_tree.specs.Columns.{measures_of}
use Rattle.vtl_meaning.specs.LookUps.{value_named}

-- ---- `pivot`: a point for each tuple of the other identifiers, with the measure's value at each code of the identifier
-- the identifiers but one
abbrev pub other_identifiers : List ℕ → Structure → List Component
other_identifiers id a = chosen choice.Except (id ∷ []) a.components

-- the codes of an identifier, in the order in which they are declared
abbrev pub codes_of : List ℕ → Structure → List (List ℕ)
codes_of id a = option_map_or (λ texts. texts) (option_and_then (λ x. x.codes) (component_of id a.components)) []

-- a point has these values of the other identifiers, and this code
abbrev pub is_coded : Structure → (id : List ℕ) → Row → List ℕ → Row → Bool
is_coded a id k code r = same_row (values_in a (other_identifiers id a) r) k && same_cell (value_named (columns_of a) r id) (c.Text code)

-- the measure's value there, or null where there is no such point
abbrev pub coded_value : DataSet → (id measure : List ℕ) → Row → List ℕ → Cell
coded_value d id measure k code = option_map_or (λ r. value_named (columns_of d.structure) r measure) (find (is_coded d.structure id k code) d.points) c.Null

abbrev pub pivoted_point : DataSet → (id measure : List ℕ) → Row → Row
pivoted_point d id measure k = k ++ map (coded_value d id measure k) (codes_of id d.structure)

abbrev pub pivot_of : DataSet → (id measure : List ℕ) → List Row
pivot_of d id measure = map (pivoted_point d id measure) (each_once same_row (map (values_in d.structure (other_identifiers id d.structure)) d.points))

-- ---- `unpivot`: for each point and each of its measures that is not null the identifiers, the measure's name and its value
abbrev pub named_point : Structure → Row → List ℕ → Cell → Option Row
named_point a r name v = cond (is_null v) None (Some (key_of a r ++ c.Text name ∷ v ∷ []))

abbrev pub unpivoted_points : Structure → Row → List Row
unpivoted_points a r = filter_map (λ x. named_point a r x.name (value_named (columns_of a) r x.name)) (measures_of a)

abbrev pub unpivot_of : DataSet → List Row
unpivot_of d = flat_map (unpivoted_points d.structure) d.points
