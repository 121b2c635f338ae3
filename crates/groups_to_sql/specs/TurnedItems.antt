-- Items and selects of `unpivot` and `pivot`, as they are written.
use Rattle.std.specs.Prelude.{List, [], ◌∷◌, ◌++◌, map, Some}
use Rattle.vtl_tree.specs.declared.structure.Component.{Component}
use Rattle.sql_tree.specs.Trees.{Exp, ItemTree, SelectTree, Text}
use Rattle.selects_to_sql.specs.Items.{first_column, from_one}
use Rattle.selects_to_sql.specs.NamedItems.{own_columns}
use Rattle.selects_to_sql.specs.Queries.{first_alias, items_as, source_as}
use Rattle.groups_to_sql.specs.Turned.{coded_item, is_filled, kept_groups, text_constant}
use Rattle.selects_to_sql.specs.Groups.{grouped_as, group_of}

-- ---- `unpivot`

abbrev pub named_values : (identifiers : List Component) → Component → List Exp
named_values identifiers x = own_columns identifiers ++ text_constant x.name ∷ first_column x.name ∷ []

abbrev pub measure_select : (identifiers columns : List Component) → (table : Text) → Component → SelectTree
measure_select identifiers columns table x = from_one (items_as (named_values identifiers x) columns) (Some (is_filled x.name)) table

-- ---- `pivot`

abbrev pub coded_values : (others : List Component) → (id measure : Text) → (codes : List Text) → List Exp
coded_values others id measure codes = own_columns others ++ map (coded_item id measure) codes

abbrev pub grouped_by : List Component → List ItemTree → (table : Text) → SelectTree
grouped_by xs items table = grouped_as items (source_as first_alias table) (group_of xs) (kept_groups xs)
