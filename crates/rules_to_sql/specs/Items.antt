-- The items and conditions of checks, as they are written.
use Rattle.std.specs.Prelude.{ℕ, ℤ, pos, List, [], ◌∷◌, ◌++◌, map, Option, Some, None, length}
use Rattle.vtl_decimal.specs.Settings.{Settings}
use Rattle.vtl_cell.specs.declared.cell.Cell.TheVariants as c
use Rattle.vtl_cell.specs.declared.kind.Kind.{Kind}
use Rattle.vtl_cell.specs.declared.kind.Kind.TheVariants as k
use Rattle.vtl_cell.specs.declared.operator.ScalarOp.TheVariants as op
use Rattle.vtl_syntax.specs.declared.word_groups.BasicOut.{BasicOut}
use Rattle.vtl_syntax.specs.declared.word_groups.BasicOut.TheVariants as basic
use Rattle.vtl_syntax.specs.declared.word_groups.CheckOut.{CheckOut}
use Rattle.vtl_syntax.specs.declared.word_groups.CheckOut.TheVariants as out
use Rattle.vtl_tree.specs.ClauseShapes.{first_kind}
use Rattle.vtl_tree.specs.Columns.{measures_of, place_of}
use Rattle.vtl_tree.specs.Trees.{PointRuleTree}
use Rattle.vtl_tree.specs.declared.structure.Component.{Component}
use Rattle.vtl_tree.specs.declared.structure.Structure.{Structure}
use Rattle.vtl_tree.specs.Checks.{output_parts, with_ids}
use Rattle.vtl_rulings.specs.PointChecks.{PointRule}
use Rattle.sql_tree.specs.Trees as tree
use Rattle.sql_tree.specs.Trees.{Exp, JoinTree, SelectTree, Text}
use Rattle.sql_tree.specs.declared.parts.Column.{Column}
use Rattle.sql_tree.specs.declared.parts.Constant.TheVariants as constant
use Rattle.sql_tree.specs.declared.word_groups.JoinKind.TheVariants as joining
use Rattle.expressions_to_sql.specs.Constants.{const_to_sql, integer_size, is_below_zero, signed}
use Rattle.expressions_to_sql.specs.ToSql.{column_of, to_sql}
use Rattle.selects_to_sql.specs.Items.{all_of, from_one}
use Rattle.selects_to_sql.specs.NamedItems.{own_columns}
use Rattle.selects_to_sql.specs.PairItems.{agreement_on}
use Rattle.selects_to_sql.specs.Queries.{items_as, name_of_first, of_one, of_two, second_alias, source_as}
use Rattle.rules_to_sql.specs.Conditions.{truth_exp}

-- ---- choices

abbrev pub choice : (test value other : Exp) → Exp
choice test value other = tree.case_when (tree.branch test value tree.no_branches) other

abbrev pub denied : Exp → Exp
denied e = tree.unary op.Not e

-- ---- errors

abbrev pub text_as : Text → Exp
text_as text = tree.constant (constant.Text text)

abbrev pub level_as : ℤ → Exp
level_as n = signed (is_below_zero n) (integer_size n)

abbrev pub null_like : Exp → Exp
null_like e = choice (tree.constant constant.False) e (tree.constant constant.Null)

abbrev pub written_as : {X : Type 0} → (X → Exp) → (like : X) → Option X → Exp
written_as f like None = null_like (f like)
written_as f like (Some x) = f x

abbrev pub written_as_where : {X : Type 0} → (X → Exp) → (like : X) → (test : Exp) → Option X → Exp
written_as_where f like test None = null_like (f like)
written_as_where f like test (Some x) = choice test (f x) (tree.constant constant.Null)

abbrev pub errors_as : (code : Option Text) → (level : Option ℤ) → List Exp
errors_as code level = written_as text_as [] code ∷ written_as level_as (pos 0) level ∷ []

abbrev pub errors_as_at : (truth : Exp) → (code : Option Text) → (level : Option ℤ) → List Exp
errors_as_at truth code level = written_as_where text_as [] (denied truth) code ∷ written_as_where level_as (pos 0) (denied truth) level ∷ []

-- ---- the select of a rule

abbrev pub rule_errors_as : CheckOut → (truth : Exp) → (code : Option Text) → (level : Option ℤ) → List Exp
rule_errors_as out.Invalid truth code level = errors_as code level
rule_errors_as out.All truth code level = errors_as_at truth code level
rule_errors_as out.AllMeasures truth code level = errors_as_at truth code level

abbrev pub truth_as : Settings → PointRuleTree → Exp
truth_as p r = to_sql p of_one (truth_exp r)

abbrev pub ruled_as : Settings → CheckOut → (ids ms : List Component) → PointRule → List Exp
ruled_as p o ids ms rule = own_columns ids ++ (text_as rule.0 ∷ output_parts o (own_columns ms) (truth_as p rule.1) (rule_errors_as o (truth_as p rule.1) rule.1.errorcode rule.1.errorlevel))

abbrev pub ruled_where_as : Settings → CheckOut → PointRuleTree → Option Exp
ruled_where_as p out.Invalid r = Some (denied (truth_as p r))
ruled_where_as p out.All r = None
ruled_where_as p out.AllMeasures r = None

abbrev pub ruled_select_as : Settings → CheckOut → (ids ms columns : List Component) → (table : Text) → PointRule → SelectTree
ruled_select_as p o ids ms ys table rule = from_one (items_as (ruled_as p o ids ms rule) ys) (ruled_where_as p o rule.1) table

-- rules from a number on
abbrev pub ruled_selects_as : Settings → CheckOut → (ids ms columns : List Component) → (table : Text) → ℕ → List PointRuleTree → List SelectTree
ruled_selects_as p o ids ms ys table n rules = map (ruled_select_as p o ids ms ys table) (with_ids (λ r. r.name) n rules)

-- ---- the select of `check`

abbrev pub columns_as : List Column → List Exp
columns_as columns = map tree.column columns

-- behind the identifiers
abbrev pub checked_parts_as : (truth : Column) → (imbalance : Exp) → (code : Option Text) → (level : Option ℤ) → List Exp
checked_parts_as truth e code level = tree.column truth ∷ e ∷ errors_as_at (tree.column truth) code level

abbrev pub checked_where_as : BasicOut → (truth : Column) → Option Exp
checked_where_as basic.Invalid truth = Some (denied (tree.column truth))
checked_where_as basic.All truth = None

-- the number 0 of the settings
abbrev pub zero_as : Settings → Exp
zero_as p = const_to_sql p (c.Num (pos 0))

abbrev pub number_as : Settings → Kind → Exp → Exp
number_as p k.Num e = e
number_as p kind e = choice (tree.constant constant.True) e (zero_as p)

-- the measure of the second source
abbrev pub imbalance_as : Settings → (imbalance : Structure) → Exp
imbalance_as p b = number_as p (first_kind (measures_of b)) (tree.column (column_of second_alias (name_of_first (measures_of b))))

-- the columns of these names, where the first source has these
abbrev pub columns_of_two : List Component → List Component → List Column
columns_of_two xs ys = map (λ y. of_two (length xs) (place_of y.name xs) y.name) ys

-- a second source behind a left join
abbrev pub left_join_as : (columns ids : List Component) → (table : Text) → JoinTree
left_join_as xs ids table = tree.on joining.Left (source_as second_alias table) (all_of (map (agreement_on xs) ids))
