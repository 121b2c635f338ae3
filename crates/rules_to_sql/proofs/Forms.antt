-- The queries of checks, as they are written.
use Rattle.std.proofs.Common.{◌≡◌, ◌+◌, ℕ, ℤ, List, [], ◌∷◌, ◌++◌, length, map, Option, None, Some, refl, ap, ◌∙◌}
use Rattle.std.proofs.lemmas.List.{map-append}
use Rattle.vtl_decimal.specs.Settings.{Settings}
use Rattle.vtl_cell.specs.declared.cell.Cell.TheVariants as c
use Rattle.vtl_cell.specs.declared.kind.Kind.{Kind}
use Rattle.vtl_cell.specs.declared.kind.Kind.TheVariants as k
use Rattle.vtl_syntax.specs.declared.word_groups.BasicOut.{BasicOut}
use Rattle.vtl_syntax.specs.declared.word_groups.BasicOut.TheVariants as basic
use Rattle.vtl_syntax.specs.declared.word_groups.CheckOut.{CheckOut}
use Rattle.vtl_syntax.specs.declared.word_groups.CheckOut.TheVariants as out
use Rattle.vtl_tree.specs.ClauseShapes.{first_kind}
use Rattle.vtl_tree.specs.Columns.{column_named, columns_named, identifiers_of, measures_of}
use Rattle.vtl_tree.specs.CompExp.{CompExp, column, const}
use Rattle.vtl_tree.specs.Structure.{columns_of, key_width}
use Rattle.vtl_tree.specs.Trees.{PointRuleTree}
use Rattle.vtl_tree.specs.declared.specifications.CheckSpec.{CheckSpec}
use Rattle.vtl_tree.specs.declared.structure.Component.{Component}
use Rattle.vtl_tree.specs.declared.structure.Structure.{Structure}
use Rattle.vtl_tree.specs.Checks.{output_parts}
use Rattle.vtl_rulings.specs.PointChecks.{PointRule, point_rules}
use Rattle.vtl_rulings.proofs.Checked.{parts_mapped}
use Rattle.sql_tree.specs.Trees as tree
use Rattle.sql_tree.specs.Trees.{Exp, SelectTree, Text, on}
use Rattle.sql_tree.specs.declared.word_groups.JoinKind.TheVariants as joining
use Rattle.expressions_to_sql.specs.ToSql.{Naming, column_of, to_sql}
use Rattle.selects_to_sql.specs.Items.{from_one}
use Rattle.selects_to_sql.specs.NamedItems.{own_columns}
use Rattle.selects_to_sql.specs.PairItems.{from_two}
use Rattle.selects_to_sql.specs.Queries.{agree, all_to_sql, condition_for, first_alias, is_chosen, items_as, name_of_first, of_one, of_two, second_alias, source_as}
use Rattle.selects_to_sql.proofs.NamedItems.{own_written}
use Rattle.selects_to_sql.proofs.PairForms.{agreements, second_of}
use Rattle.rules_to_sql.specs.CheckQueries.{as_number, check_query, checked_exps, checked_where, imbalance_behind, imbalance_query, no_imbalance}
use Rattle.rules_to_sql.specs.Conditions.{error_exps, error_exps_at, truth_exp}
use Rattle.rules_to_sql.specs.Items.{checked_parts_as, checked_where_as, columns_as, columns_of_two, errors_as, errors_as_at, imbalance_as, left_join_as, null_like, number_as, rule_errors_as, ruled_as, ruled_select_as, ruled_selects_as, ruled_where_as, truth_as, zero_as}
use Rattle.rules_to_sql.specs.PointQueries.{datapoint_query, rule_errors, ruled_exps, ruled_parts, ruled_select, ruled_where}

-- ---- errors

pub errors_written : (p : Settings) (at : Naming) (code : Option (List ℕ)) (level : Option ℤ) → all_to_sql p at (error_exps code level) ≡ errors_as code level
errors_written p at None None = refl
errors_written p at None (Some n) = refl
errors_written p at (Some text) None = refl
errors_written p at (Some text) (Some n) = refl

pub errors_at_written : (p : Settings) (at : Naming) (truth : CompExp) (code : Option (List ℕ)) (level : Option ℤ) → all_to_sql p at (error_exps_at truth code level) ≡ errors_as_at (to_sql p at truth) code level
errors_at_written p at truth None None = refl
errors_at_written p at truth None (Some n) = refl
errors_at_written p at truth (Some text) None = refl
errors_at_written p at truth (Some text) (Some n) = refl

-- ---- `check_datapoint`

rule_errors_written : (p : Settings) (o : CheckOut) (r : PointRuleTree) → all_to_sql p of_one (rule_errors o r) ≡ rule_errors_as o (truth_as p r) r.errorcode r.errorlevel
rule_errors_written p out.Invalid r = errors_written p of_one r.errorcode r.errorlevel
rule_errors_written p out.All r = errors_at_written p of_one (truth_exp r) r.errorcode r.errorlevel
rule_errors_written p out.AllMeasures r = errors_at_written p of_one (truth_exp r) r.errorcode r.errorlevel

module _ (p : Settings) (o : CheckOut) (a s : Structure) (table : Text) where
  abbrev ids : List CompExp
  ids = columns_named (columns_of a) (identifiers_of a)

  abbrev ms : List CompExp
  ms = columns_named (columns_of a) (measures_of a)

  parts_written : (r : PointRuleTree) → all_to_sql p of_one (ruled_parts o a r) ≡ output_parts o (own_columns (measures_of a)) (truth_as p r) (rule_errors_as o (truth_as p r) r.errorcode r.errorlevel)
  parts_written r =
      parts_mapped (to_sql p of_one) o ms (truth_exp r) (rule_errors o r)
      ∙ ap (λ l. output_parts o l (truth_as p r) (all_to_sql p of_one (rule_errors o r))) (own_written p (columns_of a) (measures_of a))
      ∙ ap (output_parts o (own_columns (measures_of a)) (truth_as p r)) (rule_errors_written p o r)

  exps_written : (rule : PointRule) → all_to_sql p of_one (ruled_exps o a rule) ≡ ruled_as p o (identifiers_of a) (measures_of a) rule
  exps_written rule =
      let text = const (c.Text rule.0) in
      map-append (to_sql p of_one) ids (text ∷ ruled_parts o a rule.1)
      ∙ ap (λ l. l ++ all_to_sql p of_one (text ∷ ruled_parts o a rule.1)) (own_written p (columns_of a) (identifiers_of a))
      ∙ ap (λ l. own_columns (identifiers_of a) ++ (to_sql p of_one text ∷ l)) (parts_written rule.1)

  where_written : (q : CheckOut) (r : PointRuleTree) → condition_for p of_one (ruled_where q r) ≡ ruled_where_as p q r
  where_written out.Invalid r = refl
  where_written out.All r = refl
  where_written out.AllMeasures r = refl

  select_written : (rule : PointRule) → ruled_select p o a s table rule ≡ ruled_select_as p o (identifiers_of a) (measures_of a) (columns_of s) table rule
  select_written rule =
      ap (λ l. from_one (items_as l (columns_of s)) (condition_for p of_one (ruled_where o rule.1)) table) (exps_written rule)
      ∙ ap (λ e. from_one (items_as (ruled_as p o (identifiers_of a) (measures_of a) rule) (columns_of s)) e table) (where_written o rule.1)

  all_written : (rules : List PointRule) → map (ruled_select p o a s table) rules ≡ map (ruled_select_as p o (identifiers_of a) (measures_of a) (columns_of s) table) rules
  all_written [] = refl
  all_written (rule ∷ rules) = ap (λ x. x ∷ map (ruled_select p o a s table) rules) (select_written rule) ∙ ap (λ l. ruled_select_as p o (identifiers_of a) (measures_of a) (columns_of s) table rule ∷ l) (all_written rules)

  pub datapoint_written : (rules : List PointRuleTree) → datapoint_query p rules o a s table ≡ ruled_selects_as p o (identifiers_of a) (measures_of a) (columns_of s) table 1 rules
  datapoint_written rules = all_written (point_rules rules)

-- ---- `check`

leading_written : (p : Settings) (n : ℕ) (xs ys : List Component) → n ≡ length xs → all_to_sql p (of_two n) (columns_named xs ys) ≡ columns_as (columns_of_two xs ys)
leading_written p n xs [] e = refl
leading_written p n xs (y ∷ ys) e =
    ap (λ m. to_sql p (of_two m) (column_named xs y.name) ∷ all_to_sql p (of_two n) (columns_named xs ys)) e
    ∙ ap (λ l. to_sql p (of_two (length xs)) (column_named xs y.name) ∷ l) (leading_written p n xs ys e)

number_written : (p : Settings) (at : Naming) (place : ℕ) (name : Text) (kind : Kind) → to_sql p at (as_number kind (column place name kind)) ≡ number_as p kind (tree.column (at place name))
number_written p at place name k.Num = refl
number_written p at place name k.Int = refl
number_written p at place name k.Null = refl
number_written p at place name k.Bool = refl
number_written p at place name k.Text = refl
number_written p at place name k.Day = refl
number_written p at place name k.Period = refl

module _ (p : Settings) (spec : CheckSpec) (a s : Structure) (table : Text) where
  abbrev own : List CompExp
  own = columns_named (columns_of a) (identifiers_of a)

  abbrev name : Text
  name = name_of_first (measures_of a)

  -- over any columns
  checked_written : (at : Naming) (e : CompExp) → all_to_sql p at (checked_exps spec a e) ≡ all_to_sql p at own ++ checked_parts_as (at (key_width a) name) (to_sql p at e) spec.errorcode spec.errorlevel
  checked_written at e =
      map-append (to_sql p at) own (is_chosen a ∷ e ∷ error_exps_at (is_chosen a) spec.errorcode spec.errorlevel)
      ∙ ap (λ l. all_to_sql p at own ++ (to_sql p at (is_chosen a) ∷ to_sql p at e ∷ l)) (errors_at_written p at (is_chosen a) spec.errorcode spec.errorlevel)

  where_is : (at : Naming) (o : BasicOut) → condition_for p at (checked_where o a) ≡ checked_where_as o (at (key_width a) name)
  where_is at basic.Invalid = refl
  where_is at basic.All = refl

  pub check_written : check_query p spec a s table
      ≡ from_one (items_as (own_columns (identifiers_of a) ++ checked_parts_as (column_of first_alias name) (null_like (zero_as p)) spec.errorcode spec.errorlevel) (columns_of s)) (checked_where_as spec.output (column_of first_alias name)) table ∷ []
  check_written =
      let parts = checked_parts_as (column_of first_alias name) (null_like (zero_as p)) spec.errorcode spec.errorlevel in
      ap (λ l. from_one (items_as l (columns_of s)) (condition_for p of_one (checked_where spec.output a)) table ∷ []) (checked_written of_one no_imbalance ∙ ap (λ l. l ++ parts) (own_written p (columns_of a) (identifiers_of a)))
      ∙ ap (λ e. from_one (items_as (own_columns (identifiers_of a) ++ parts) (columns_of s)) e table ∷ []) (where_is of_one spec.output)

  module _ (b : Structure) (second : Text) where
    abbrev n : ℕ
    n = length (columns_of a)

    abbrev at : Naming
    at = of_two n

    imbalance_is : to_sql p at (imbalance_behind a b) ≡ imbalance_as p b
    imbalance_is =
        number_written p at (n + key_width b) (name_of_first (measures_of b)) (first_kind (measures_of b))
        ∙ ap (λ x. number_as p (first_kind (measures_of b)) (tree.column x)) (second_of n (key_width b) (name_of_first (measures_of b)))

    pub imbalance_written : imbalance_query p spec a b s table second
        ≡ from_two (items_as (columns_as (columns_of_two (columns_of a) (identifiers_of a)) ++ checked_parts_as (at (key_width a) name) (imbalance_as p b) spec.errorcode spec.errorlevel) (columns_of s)) table (left_join_as (columns_of a) (identifiers_of b) second) (checked_where_as spec.output (at (key_width a) name)) ∷ []
    imbalance_written =
        let truth = at (key_width a) name in
        let ids = columns_as (columns_of_two (columns_of a) (identifiers_of a)) in
        let parts = λ (e : Exp). checked_parts_as truth e spec.errorcode spec.errorlevel in
        let joined = λ (tie : Exp). on joining.Left (source_as second_alias second) tie in
        let test = condition_for p at (checked_where spec.output a) in
        ap (λ l. from_two (items_as l (columns_of s)) table (joined (to_sql p at (agree a b))) test ∷ [])
        (checked_written at (imbalance_behind a b)
        ∙ ap (λ l. l ++ parts (to_sql p at (imbalance_behind a b))) (leading_written p n (columns_of a) (identifiers_of a) refl)
        ∙ ap (λ e. ids ++ parts e) imbalance_is)
        ∙ ap (λ e. from_two (items_as (ids ++ parts (imbalance_as p b)) (columns_of s)) table (joined e) test ∷ []) (agreements p (columns_of a) (columns_of b) (identifiers_of b))
        ∙ ap (λ e. from_two (items_as (ids ++ parts (imbalance_as p b)) (columns_of s)) table (left_join_as (columns_of a) (identifiers_of b) second) e ∷ []) (where_is at spec.output)
