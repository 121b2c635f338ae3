-- The queries of `unpivot` and `pivot`.
use Rattle.std.specs.Prelude.{true, List, [], ◌∷◌, ◌++◌, map, Option, Some, None}
use Rattle.vtl_decimal.specs.Settings.{Settings}
use Rattle.vtl_cell.specs.declared.operator.AggKind.TheVariants as agg
use Rattle.vtl_cell.specs.declared.operator.ScalarOp.TheVariants as op
use Rattle.vtl_tree.specs.Structure.{columns_of, names_of}
use Rattle.vtl_tree.specs.declared.structure.Component.{Component}
use Rattle.vtl_tree.specs.declared.structure.Structure.{Structure}
use Rattle.vtl_tree.specs.Columns.{columns_named, identifiers_of, measures_of}
use Rattle.vtl_meaning.specs.Turned.{codes_of, other_identifiers}
use Rattle.sql_tree.specs.Trees.{Text, Exp, QueryTree, SelectTree, aggregate, binary, branch, case_when, constant, is_null, no_branches}
use Rattle.sql_tree.specs.declared.parts.Constant.TheVariants as constants
use Rattle.expressions_to_sql.specs.ToSql.{group_columns}
use Rattle.selects_to_sql.specs.Items.{first_column}
use Rattle.selects_to_sql.specs.Queries.{all_to_sql, first_alias, items_as, of_one, select_as, source_as}
use Rattle.selects_to_sql.specs.Groups.{has_rows, grouped_as}

-- ---- `unpivot`: a select for each measure

abbrev pub is_filled : Text → Exp
is_filled name = is_null (first_column name) true

abbrev pub text_constant : Text → Exp
text_constant text = constant (constants.Text text)

-- the identifiers, the measure's name, and the measure
abbrev pub unpivoted_items : Settings → Structure → Component → List Exp
unpivoted_items p a x = all_to_sql p of_one (columns_named (columns_of a) (identifiers_of a)) ++ text_constant x.name ∷ first_column x.name ∷ []

-- of the points at which the measure has a value
abbrev pub unpivoted_select : Settings → (a s : Structure) → (table : Text) → Component → SelectTree
unpivoted_select p a s table x = select_as (items_as (unpivoted_items p a x) (columns_of s)) (source_as first_alias table) [] (Some (is_filled x.name))

abbrev pub unpivot_query : Settings → (a s : Structure) → (table : Text) → QueryTree
unpivot_query p a s table = map (unpivoted_select p a s table) (measures_of a)

-- ---- `pivot`: a group for each tuple of the other identifiers

-- the measure where the identifier has this code
abbrev pub where_coded : (id measure code : Text) → Exp
where_coded id measure code = case_when (branch (binary (first_column id) op.Equal (text_constant code)) (first_column measure) no_branches) (constant constants.Null)

-- of a group's points at most one has the code: the greatest value is the one that there is
abbrev pub coded_item : (id measure code : Text) → Exp
coded_item id measure code = aggregate agg.Max (where_coded id measure code)

abbrev pub pivoted_items : Settings → Structure → (id measure : Text) → List Exp
pivoted_items p a id measure = all_to_sql p of_one (columns_named (columns_of a) (other_identifiers id a)) ++ map (coded_item id measure) (codes_of id a)

abbrev pub kept_groups : List Component → Option Exp
kept_groups [] = Some has_rows
kept_groups (y ∷ ys) = None

abbrev pub pivot_select : Settings → (id measure : Text) → (a s : Structure) → (table : Text) → SelectTree
pivot_select p id measure a s table =
    grouped_as (items_as (pivoted_items p a id measure) (columns_of s)) (source_as first_alias table) (group_columns first_alias (names_of (other_identifiers id a))) (kept_groups (other_identifiers id a))

abbrev pub pivot_query : Settings → (id measure : Text) → (a s : Structure) → (table : Text) → QueryTree
pivot_query p id measure a s table = pivot_select p id measure a s table ∷ []
