-- The query of `check_datapoint`: a select for each rule, so that all rules are evaluated in one table. The truth value stands in
-- WHERE alone where the points are shown at which it is false, and in items alone elsewhere.
use Rattle.std.specs.Prelude.{List, [], ◌∷◌, ◌++◌, map, Option, Some, None}
use Rattle.vtl_decimal.specs.Settings.{Settings}
use Rattle.vtl_cell.specs.declared.cell.Cell.TheVariants as c
use Rattle.vtl_syntax.specs.declared.word_groups.CheckOut.{CheckOut}
use Rattle.vtl_syntax.specs.declared.word_groups.CheckOut.TheVariants as out
use Rattle.vtl_tree.specs.Columns.{columns_named, identifiers_of, measures_of}
use Rattle.vtl_tree.specs.CompExp.{CompExp, const}
use Rattle.vtl_tree.specs.Structure.{columns_of}
use Rattle.vtl_tree.specs.Trees.{PointRuleTree}
use Rattle.vtl_tree.specs.declared.structure.Structure.{Structure}
use Rattle.vtl_tree.specs.Checks.{output_parts}
use Rattle.vtl_rulings.specs.PointChecks.{PointRule, point_rules}
use Rattle.sql_tree.specs.Trees.{QueryTree, SelectTree, Text}
use Rattle.selects_to_sql.specs.Queries.{condition_for, first_alias, of_one, select_of, source_as}
use Rattle.rules_to_sql.specs.Conditions.{error_exps, error_exps_at, negated, truth_exp}

-- where only points are shown at which the rule does not hold, its errors are constants
abbrev pub rule_errors : CheckOut → PointRuleTree → List CompExp
rule_errors out.Invalid r = error_exps r.errorcode r.errorlevel
rule_errors out.All r = error_exps_at (truth_exp r) r.errorcode r.errorlevel
rule_errors out.AllMeasures r = error_exps_at (truth_exp r) r.errorcode r.errorlevel

-- behind the identifiers of the operand
abbrev pub ruled_parts : CheckOut → Structure → PointRuleTree → List CompExp
ruled_parts o a r = output_parts o (columns_named (columns_of a) (measures_of a)) (truth_exp r) (rule_errors o r)

abbrev pub ruled_exps : CheckOut → Structure → PointRule → List CompExp
ruled_exps o a rule = columns_named (columns_of a) (identifiers_of a) ++ (const (c.Text rule.0) ∷ ruled_parts o a rule.1)

-- the points that are shown
abbrev pub ruled_where : CheckOut → PointRuleTree → Option CompExp
ruled_where out.Invalid r = Some (negated (truth_exp r))
ruled_where out.All r = None
ruled_where out.AllMeasures r = None

abbrev pub ruled_select : Settings → CheckOut → (a s : Structure) → (table : Text) → PointRule → SelectTree
ruled_select p o a s table rule = select_of p of_one (ruled_exps o a rule) s (source_as first_alias table) [] (condition_for p of_one (ruled_where o rule.1))

abbrev pub datapoint_query : Settings → List PointRuleTree → CheckOut → (a s : Structure) → (table : Text) → QueryTree
datapoint_query p rules o a s table = map (ruled_select p o a s table) (point_rules rules)
