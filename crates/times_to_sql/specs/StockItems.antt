-- The items of the totals at the points of the operand, as they are written.
use Rattle.std.specs.Prelude.{false, List, ◌++◌, map, None}
use Rattle.vtl_tree.specs.Columns.{identifiers_of, measures_of}
use Rattle.vtl_tree.specs.Structure.{columns_of}
use Rattle.vtl_tree.specs.declared.structure.Component.{Component}
use Rattle.vtl_tree.specs.declared.structure.Structure.{Structure}
use Rattle.sql_tree.specs.Trees.{Exp, ItemTree, SelectTree, Text, branch, case_when, constant, is_null, no_branches}
use Rattle.sql_tree.specs.declared.parts.Constant.TheVariants as constants
use Rattle.selects_to_sql.specs.Items.{for_each_two}
use Rattle.selects_to_sql.specs.PairItems.{from_two, joined_by, lead_column, lead_item, second_column}
use Rattle.selects_to_sql.specs.Queries.{item_as}

-- null where a measure is null, else its total
abbrev pub null_or_total : List Component → Text → Exp
null_or_total xs name = case_when (branch (is_null (lead_column xs name) false) (constant constants.Null) no_branches) (second_column name)

abbrev pub stock_item : List Component → Component → Component → ItemTree
stock_item xs x y = item_as y.name (null_or_total xs x.name)

abbrev pub stock_select : (a s : Structure) → (table parts : Text) → SelectTree
stock_select a s table parts =
    from_two (map (lead_item (columns_of a)) (identifiers_of s) ++ for_each_two (stock_item (columns_of a)) (measures_of a) (measures_of s)) table (joined_by a s parts) None
