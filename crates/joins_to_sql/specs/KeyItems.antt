-- The selects of a full join's tables of identifiers, as they are written.
use Rattle.std.specs.Prelude.{List, [], ◌∷◌, None}
use Rattle.vtl_tree.specs.declared.structure.Component.{Component}
use Rattle.sql_tree.specs.Trees as tree
use Rattle.sql_tree.specs.Trees.{ItemTree, SelectTree, Text}
use Rattle.sql_tree.specs.declared.parts.Constant.TheVariants as constant
use Rattle.joins_to_sql.specs.FullJoins.{spare}
use Rattle.selects_to_sql.specs.Items.{from_one, own_items}
use Rattle.selects_to_sql.specs.Queries.{first_alias, item_as, source_as}
use Rattle.selects_to_sql.specs.Groups.{grouped_as, group_of}

-- identifiers, or a column that is always true where there are none
abbrev pub key_items : List Component → List ItemTree
key_items [] = item_as spare.name (tree.constant constant.True) ∷ []
key_items (y ∷ ys) = own_items (y ∷ ys)

-- those of the points of an operand
abbrev pub identifiers_select : List Component → (table : Text) → SelectTree
identifiers_select ys table = from_one (key_items ys) None table

-- a table with these columns, each row once
abbrev pub once_select : List Component → (table : Text) → SelectTree
once_select ys table = grouped_as (own_items ys) (source_as first_alias table) (group_of ys) None
