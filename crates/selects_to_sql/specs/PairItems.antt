-- Items of selects over two sources and their conditions, as they are written. The first source has the columns that stand first.
use Rattle.std.specs.Prelude.{ℕ, Bool, true, false, List, [], ◌∷◌, length, map, ◌++◌, Option, None, Some, if◌then◌else◌}
use Rattle.vtl_decimal.specs.Settings.{Settings}
use Rattle.vtl_cell.specs.declared.kind.Kind.TheVariants as k
use Rattle.vtl_cell.specs.declared.operator.ScalarOp.{ScalarOp}
use Rattle.vtl_cell.specs.declared.operator.ScalarOp.TheVariants as op
use Rattle.vtl_tree.specs.CompExp.{call, column, comp_exp, no_comp_exps}
use Rattle.vtl_tree.specs.Structure.{columns_of}
use Rattle.vtl_tree.specs.declared.structure.Component.{Component}
use Rattle.vtl_tree.specs.declared.structure.Structure.{Structure}
use Rattle.vtl_tree.specs.Pairs.{contains}
use Rattle.vtl_tree.specs.Columns.{identifiers_of, measures_of, place_of}
use Rattle.sql_tree.specs.Trees as tree
use Rattle.sql_tree.specs.Trees.{Exp, ItemTree, JoinTree, SelectTree, Text}
use Rattle.sql_tree.specs.declared.parts.Constant.TheVariants as constant
use Rattle.sql_tree.specs.declared.word_groups.JoinKind.TheVariants as joining
use Rattle.expressions_to_sql.specs.ToSql.{column_of, to_sql}
use Rattle.selects_to_sql.specs.Items.{all_of, for_each_two}
use Rattle.selects_to_sql.specs.Queries.{first_alias, item_as, name_of_first, of_two, second_alias, select_as, source_as}

-- ---- columns

-- the column of a name, among the columns of the first source
abbrev pub lead_column : List Component → Text → Exp
lead_column xs name = tree.column (of_two (length xs) (place_of name xs) name)

-- a column of the second source
abbrev pub second_column : Text → Exp
second_column name = tree.column (column_of second_alias name)

-- ---- items

abbrev pub lead_item : List Component → Component → ItemTree
lead_item xs y = item_as y.name (lead_column xs y.name)

abbrev pub second_item : Component → ItemTree
second_item y = item_as y.name (second_column y.name)

-- an operator between the columns at two places
abbrev pub between_places : Settings → ℕ → ScalarOp → (left right : ℕ) → Text → Exp
between_places p width o left right name = to_sql p (of_two width) (call o k.Null (comp_exp (column left name k.Null) (comp_exp (column right name k.Null) no_comp_exps)))

-- an operator between a measure of the left operand and its namesake, where the left or the right operand is the first source
abbrev pub namesake : Settings → ScalarOp → (left_leads : Bool) → List Component → Text → Exp
namesake p o left_leads xs name =
    if left_leads then between_places p (length xs) o (place_of name xs) (length xs) name else between_places p (length xs) o (length xs) (place_of name xs) name

abbrev pub namesake_item : Settings → ScalarOp → (left_leads : Bool) → List Component → Component → Component → ItemTree
namesake_item p o left_leads xs x y = item_as y.name (namesake p o left_leads xs x.name)

-- ---- conditions

abbrev pub agreement_on : List Component → Component → Exp
agreement_on xs y = tree.binary (second_column y.name) op.Equal (lead_column xs y.name)

abbrev pub chosen : (width key_width : ℕ) → List Component → Exp
chosen width key_width measures = tree.column (of_two width key_width (name_of_first measures))

abbrev pub not_chosen : Exp → Exp
not_chosen e = tree.case_when (tree.branch e (tree.constant constant.False) tree.no_branches) (tree.constant constant.True)

-- ---- selects

-- from a table and a further source
abbrev pub from_two : List ItemTree → (table : Text) → JoinTree → Option Exp → SelectTree
from_two items table join condition = select_as items (source_as first_alias table) (join ∷ []) condition

-- a further source, whose identifiers agree with their namesakes in the first one
abbrev pub joined_by : (lead other : Structure) → (table : Text) → JoinTree
joined_by lead other table = tree.on joining.Inner (source_as second_alias table) (all_of (map (agreement_on (columns_of lead)) (identifiers_of other)))

-- the identifiers of the result, and an operator at the measures of the left operand
abbrev pub paired_from : Settings → ScalarOp → (left_leads : Bool) → (left lead other s : Structure) → (first second : Text) → SelectTree
paired_from p o left_leads left lead other s first second =
    let xs = columns_of lead in
    from_two (map (lead_item xs) (identifiers_of s) ++ for_each_two (namesake_item p o left_leads xs) (measures_of left) (measures_of s)) first (joined_by lead other second) None

-- the operand with all identifiers leads
abbrev pub paired_of : Settings → ScalarOp → (a b s : Structure) → (first second : Text) → SelectTree
paired_of p o a b s first second = if contains a b then paired_from p o true a a b s first second else paired_from p o false a b a s second first

-- the identifiers of the result, and the measures of a branch
abbrev pub chosen_from : Exp → (tested branch s : Structure) → (first second : Text) → SelectTree
chosen_from condition tested branch s first second =
    from_two (map (lead_item (columns_of tested)) (identifiers_of s) ++ map second_item (measures_of s)) first (joined_by tested branch second) (Some condition)
