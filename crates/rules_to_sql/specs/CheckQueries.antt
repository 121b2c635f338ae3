-- The query of `check`: a select from the operand's table, with the imbalance's behind a left join.
use Rattle.std.specs.Prelude.{◌+◌, pos, true, List, [], ◌∷◌, ◌++◌, length, Option, Some, None}
use Rattle.vtl_decimal.specs.Settings.{Settings}
use Rattle.vtl_cell.specs.declared.cell.Cell.TheVariants as c
use Rattle.vtl_cell.specs.declared.kind.Kind.{Kind}
use Rattle.vtl_cell.specs.declared.kind.Kind.TheVariants as k
use Rattle.vtl_syntax.specs.declared.word_groups.BasicOut.{BasicOut}
use Rattle.vtl_syntax.specs.declared.word_groups.BasicOut.TheVariants as basic
use Rattle.vtl_tree.specs.ClauseShapes.{first_kind}
use Rattle.vtl_tree.specs.Columns.{columns_named, identifiers_of, measures_of}
use Rattle.vtl_tree.specs.CompExp.{CompExp, column, const}
use Rattle.vtl_tree.specs.Structure.{columns_of, key_width}
use Rattle.vtl_tree.specs.declared.specifications.CheckSpec.{CheckSpec}
use Rattle.vtl_tree.specs.declared.structure.Structure.{Structure}
use Rattle.sql_tree.specs.Trees.{QueryTree, SelectTree, Text, on}
use Rattle.sql_tree.specs.declared.word_groups.JoinKind.TheVariants as joining
use Rattle.expressions_to_sql.specs.ToSql.{to_sql}
use Rattle.selects_to_sql.specs.Queries.{agree, condition_for, first_alias, is_chosen, name_of_first, of_two, points_query, second_alias, select_of, source_as}
use Rattle.rules_to_sql.specs.Conditions.{absent, error_exps_at, if_of, negated}

-- ---- the imbalance, a number

abbrev pub no_imbalance : CompExp
no_imbalance = absent k.Num (c.Num (pos 0))

-- an integer becomes the equal number
abbrev pub as_number : Kind → CompExp → CompExp
as_number k.Num e = e
as_number kind e = if_of k.Num (const (c.Bool true)) e (const (c.Num (pos 0)))

-- the measure of an operand behind so many columns
abbrev pub imbalance_behind : (a imbalance : Structure) → CompExp
imbalance_behind a i =
    let kind = first_kind (measures_of i) in
    as_number kind (column (length (columns_of a) + key_width i) (name_of_first (measures_of i)) kind)

-- ---- selects

-- the truth value of a point is its measure
abbrev pub checked_exps : CheckSpec → Structure → (imbalance : CompExp) → List CompExp
checked_exps spec a e = columns_named (columns_of a) (identifiers_of a) ++ (is_chosen a ∷ e ∷ error_exps_at (is_chosen a) spec.errorcode spec.errorlevel)

abbrev pub checked_where : BasicOut → Structure → Option CompExp
checked_where basic.Invalid a = Some (negated (is_chosen a))
checked_where basic.All a = None

-- without an imbalance
abbrev pub check_query : Settings → CheckSpec → (a s : Structure) → (table : Text) → QueryTree
check_query p spec a s x = points_query p (checked_exps spec a no_imbalance) s (checked_where spec.output a) x

-- the rows of a table, each with the row of another one that agrees on the identifiers of that one, or with nulls
abbrev pub left_select : Settings → List CompExp → (a b s : Structure) → Option CompExp → (first second : Text) → SelectTree
left_select p es a b s condition x y =
    let at = of_two (length (columns_of a)) in
    select_of p at es s (source_as first_alias x) (on joining.Left (source_as second_alias y) (to_sql p at (agree a b)) ∷ []) (condition_for p at condition)

abbrev pub imbalance_query : Settings → CheckSpec → (a imbalance s : Structure) → (first second : Text) → QueryTree
imbalance_query p spec a i s x y = left_select p (checked_exps spec a (imbalance_behind a i)) a i s (checked_where spec.output a) x y ∷ []
