-- The query of an aggregate: a group for each tuple of the grouping identifiers.
use Rattle.std.specs.Prelude.{List, [], ◌∷◌, ◌++◌, map, Option, Some, None}
use Rattle.std.specs.Option.{option_map_or}
use Rattle.vtl_decimal.specs.Settings.{Settings}
use Rattle.vtl_cell.specs.declared.cell.Cell.TheVariants as c
use Rattle.vtl_tree.specs.CompExp.{CompExp, aggregate, const}
use Rattle.vtl_tree.specs.Structure.{columns_of}
use Rattle.vtl_tree.specs.declared.structure.Component.{Component}
use Rattle.vtl_tree.specs.declared.structure.Structure.{Structure}
use Rattle.vtl_meaning.specs.Aggregates.{call_for}
use Rattle.vtl_tree.specs.Columns.{columns_named, identifiers_of, others_of}
use Rattle.expressions_to_sql.specs.ToSql.{group_columns, to_sql}
use Rattle.vtl_tree.specs.Trees.{AggTree}
use Rattle.vtl_tree.specs.declared.specifications.AggItems.{AggItems}
use Rattle.sql_tree.specs.Trees.{Text, Exp, QueryTree, branch, case_when, constant, no_branches}
use Rattle.sql_tree.specs.declared.parts.Constant.TheVariants as constants
use Rattle.selects_to_sql.specs.Queries.{all_to_sql, condition_for, first_alias, items_as, of_one, source_as}
use Rattle.selects_to_sql.specs.Groups.{grouped_as, has_rows}

-- the aggregate that makes a column; one that no aggregate makes is in no result that typing gives
abbrev pub made_exp : AggItems → Component → CompExp
made_exp i y = option_map_or (λ a. aggregate a y.kind) (call_for i y.name) (const c.Null)

-- the grouping identifiers, and an aggregate for each other column
abbrev pub aggregated_exps : AggTree → (a s : Structure) → List CompExp
aggregated_exps spec a s = columns_named (columns_of a) (identifiers_of s) ++ map (made_exp spec.items) (others_of s)

-- a condition that is evaluated only where a group has a row
abbrev pub where_rows : Exp → Exp
where_rows e = case_when (branch has_rows e no_branches) (constant constants.False)

-- The groups that are kept. Without grouping identifiers SQL has a group where there is no row, and VTL has none.
abbrev pub kept_where : Settings → (names : List Text) → Option CompExp → Option Exp
kept_where p [] None = Some has_rows
kept_where p [] (Some e) = Some (where_rows (to_sql p of_one e))
kept_where p (n ∷ ns) having = condition_for p of_one having

abbrev pub aggregate_query : Settings → AggTree → (a s : Structure) → (table : Text) → QueryTree
aggregate_query p spec a s table =
    grouped_as (items_as (all_to_sql p of_one (aggregated_exps spec a s)) (columns_of s)) (source_as first_alias table) (group_columns first_alias spec.grouping) (kept_where p spec.grouping spec.having) ∷ []
