-- The query of `check_datapoint` means it.
use Rattle.std.proofs.Common.{◌≡◌, ◌<◌, ◌^◌, Bool, true, false, List, [], ◌∷◌, ◌++◌, length, map, Option, Some, None, Ok, refl, sym, ap, ◌∙◌, arith, append_assoc}
use Rattle.std.specs.List.{AllByRecursion, filter}
use Rattle.vtl_lists.proofs.Alls.{all_append, all_each}
use Rattle.vtl_decimal.specs.Settings.{Settings}
use Rattle.vtl_decimal.specs.declared.number.Fault.{Fault}
use Rattle.vtl_cell.specs.Outcome.{Outcome, after, fault_in, unless}
use Rattle.vtl_cell.specs.Outcomes.{is_true}
use Rattle.vtl_cell.specs.Row.{Row}
use Rattle.vtl_cell.specs.declared.cell.Cell.{Cell}
use Rattle.vtl_cell.specs.declared.cell.Cell.TheVariants as c
use Rattle.vtl_syntax.specs.declared.word_groups.CheckOut.{CheckOut}
use Rattle.vtl_syntax.specs.declared.word_groups.CheckOut.TheVariants as out
use Rattle.vtl_tree.specs.Clauses.{filter_of}
use Rattle.vtl_tree.specs.Columns.{columns_named, identifiers_of, measures_of}
use Rattle.vtl_tree.specs.CompExp.{CompExp, const}
use Rattle.vtl_tree.specs.DataSet.{IsDataSet, is_point}
use Rattle.vtl_tree.specs.Environment.{DataSet}
use Rattle.vtl_tree.specs.Measures.{bool_var}
use Rattle.vtl_tree.specs.Structure.{IsStructure, columns_of}
use Rattle.vtl_tree.specs.Trees.{PointRuleTree}
use Rattle.vtl_tree.specs.Value.{value}
use Rattle.vtl_tree.specs.declared.structure.Component.{Component}
use Rattle.vtl_tree.specs.declared.structure.Structure.{Structure}
use Rattle.vtl_tuples.proofs.Lists.{filter_each}
use Rattle.vtl_meaning.specs.Agreement.{key_of, values_in}
use Rattle.vtl_meaning.specs.Made.{AreFor}
use Rattle.vtl_meaning.specs.Points.{cell_or_null, each_point, point_fault, point_of, with_points}
use Rattle.vtl_meaning.proofs.Agreements.{own_values}
use Rattle.vtl_meaning.proofs.Kept.{columns_point}
use Rattle.vtl_meaning.proofs.LookUps.{named_cells}
use Rattle.vtl_meaning.proofs.OwnColumns.{columns_apart, own_measures}
use Rattle.vtl_rulings.specs.Outputs.{code_cell, errors_at, is_false, is_shown, level_cell}
use Rattle.vtl_tree.specs.Checks.{error_measures, output_parts, rule_id, ruled_measures, ruleid, with_ids}
use Rattle.vtl_rulings.specs.PointChecks.{PointRule, datapoint_of, errors_of, point_rules, rule_fault, rule_points, truth_of}
use Rattle.vtl_rulings.specs.Shaped.{IsPointChecked}
use Rattle.vtl_rulings.proofs.Checked.{parts_hold, parts_mapped}
use Rattle.sql_tree.specs.Formed.{IsName}
use Rattle.sql_tree.specs.Trees.{Text}
use Rattle.sql_meaning.specs.Scripts.{Data}
use Rattle.sql_meaning.specs.Selects.{appended}
use Rattle.selects_to_sql.specs.Runs.{IsTable}
use Rattle.selects_to_sql.specs.Writable.{AllCanBeWritten, CanBeWritten, HaveNames}
use Rattle.selects_to_sql.proofs.Exact.{IsExactly, exactly_same}
use Rattle.selects_to_sql.proofs.Expressions.{Translates}
use Rattle.selects_to_sql.proofs.Givens.{AreGiven, kinds_in}
use Rattle.selects_to_sql.proofs.OneOperand.{columns_for, columns_written, kept_gives, rows_give, rows_there}
use Rattle.selects_to_sql.proofs.SelectItems.{GivesRows, gives_same}
use Rattle.selects_to_sql.proofs.Unions.{AllGive, union_exactly}
use Rattle.rules_to_sql.specs.Conditions.{error_exps, error_exps_at, negated, truth_exp}
use Rattle.rules_to_sql.specs.PointQueries.{datapoint_query, rule_errors, ruled_exps, ruled_parts, ruled_select}
use Rattle.rules_to_sql.specs.Writable.{CanRuleBeWritten}
use Rattle.rules_to_sql.proofs.Columns.{columns_sure, for_append, for_like, for_parts, kinds_behind, own_among, points_append}
use Rattle.rules_to_sql.proofs.ErrorExps.{errors_are, errors_at_are, errors_at_fault, errors_at_for, errors_at_written, errors_for, errors_sure, errors_written, negated_typed}
use Rattle.rules_to_sql.proofs.Lists.{all_shown, appended_is, each_sure, faults_same, shown_points}
use Rattle.rules_to_sql.proofs.Truths.{negated_fault, negated_true, truth_is}
use Rattle.rules_to_sql.proofs.TypedRules.{IsRule, all_rules, as_written, negated_written, truth_typed, truth_written}

-- the points of a rule, unless it has a fault
abbrev found : Settings → CheckOut → DataSet → PointRule → Outcome (List Row)
found p o a rule = unless (rule_fault p a rule) (rule_points p o a rule)

-- ---- the query

module _ (p : Settings) (law : Translates p) (before : Data) (name : Text) (o : CheckOut) (a s : Structure) (d : List Row) (there : IsTable before name a d) (named : IsName name) (na : HaveNames (columns_of a)) (set : IsDataSet a d) (given : AreGiven (columns_of s)) where
  abbrev xs : List Component
  xs = columns_of a

  abbrev w : IsStructure a
  w = set.well_formed

  abbrev ids : List CompExp
  ids = columns_named xs (identifiers_of a)

  abbrev ms : List CompExp
  ms = columns_named xs (measures_of a)

  abbrev es : PointRule → List CompExp
  es rule = ruled_exps o a rule

  abbrev truth : PointRule → Row → Cell
  truth rule r = cell_or_null (truth_of p rule.1 r)

  abbrev P : Row → Type 0
  P r = is_point xs r ≡ true

  -- ---- columns

  errors_typed : (rule : PointRule) → IsRule p xs rule → (q : CheckOut) → AreFor p xs (rule_errors q rule.1) error_measures
  errors_typed rule i out.Invalid = errors_for p xs rule.1.errorcode rule.1.errorlevel i.typed.level
  errors_typed rule i out.All = let t = truth_typed p xs rule.1 i.typed in errors_at_for p xs (truth_exp rule.1) t.0 t.1 rule.1.errorcode rule.1.errorlevel i.typed.level
  errors_typed rule i out.AllMeasures = let t = truth_typed p xs rule.1 i.typed in errors_at_for p xs (truth_exp rule.1) t.0 t.1 rule.1.errorcode rule.1.errorlevel i.typed.level

  exps_for : (rule : PointRule) → IsRule p xs rule → kinds_in (identifiers_of a ++ (ruleid ∷ ruled_measures o a)) ≡ kinds_in (columns_of s) → AreFor p xs (es rule) (columns_of s)
  exps_for rule i same =
      let t = truth_typed p xs rule.1 i.typed in
      let apart = columns_apart a w in
      for_like p xs (es rule) (identifiers_of a ++ (ruleid ∷ ruled_measures o a)) (columns_of s) same
      (for_append p xs ids (const (c.Text rule.0) ∷ ruled_parts o a rule.1) (identifiers_of a) (ruleid ∷ ruled_measures o a) (columns_for p xs (identifiers_of a) apart (own_among a w))
      (tt, refl, for_parts p xs o ms (rule_errors o rule.1) (truth_exp rule.1) (measures_of a) error_measures bool_var (columns_for p xs (measures_of a) apart (own_measures a w)) t.0 t.1 (errors_typed rule i o)))

  errors_are_written : (rule : PointRule) → IsRule p xs rule → (q : CheckOut) → AllCanBeWritten (rule_errors q rule.1)
  errors_are_written rule i out.Invalid = errors_written rule.1.errorcode rule.1.errorlevel i.written.errors
  errors_are_written rule i out.All = let t = truth_written rule.1 i.written in errors_at_written (truth_exp rule.1) (as_written (truth_exp rule.1) t) t.shallow rule.1.errorcode rule.1.errorlevel i.written.errors
  errors_are_written rule i out.AllMeasures = let t = truth_written rule.1 i.written in errors_at_written (truth_exp rule.1) (as_written (truth_exp rule.1) t) t.shallow rule.1.errorcode rule.1.errorlevel i.written.errors

  exps_written : (rule : PointRule) → IsRule p xs rule → AllCanBeWritten (es rule)
  exps_written rule i =
      all_append CanBeWritten ids (const (c.Text rule.0) ∷ ruled_parts o a rule.1) (columns_written xs (identifiers_of a)) (
        record { constants = i.id; shallow = omega arith },
        parts_hold CanBeWritten o ms (truth_exp rule.1) (rule_errors o rule.1) (columns_written xs (measures_of a)) (as_written (truth_exp rule.1) (truth_written rule.1 i.written)) (errors_are_written rule i o),
      )

  -- ---- points

  abbrev point : PointRule → Row → Row
  point rule r = key_of a r ++ (c.Text rule.0 ∷ output_parts o (values_in a (measures_of a) r) (truth rule r) (errors_of rule.1 (truth rule r)))

  -- where the point is shown
  stands : (code level t : Cell) → is_false t ≡ true → code ∷ level ∷ [] ≡ errors_at code level t
  stands code level (c.Bool false) h = refl
  stands code level (c.Bool true) h = cc
  stands code level c.Null h = cc
  stands code level (c.Int n) h = cc
  stands code level (c.Num n) h = cc
  stands code level (c.Text x) h = cc
  stands code level (c.Day x) h = cc
  stands code level (c.Period x) h = cc

  error_cells : (rule : PointRule) (r : Row) (q : CheckOut) → is_shown q (truth rule r) ≡ true → point_of p (rule_errors q rule.1) r ≡ errors_of rule.1 (truth rule r)
  error_cells rule r out.Invalid h = errors_are p rule.1.errorcode rule.1.errorlevel r ∙ stands (code_cell rule.1.errorcode) (level_cell rule.1.errorlevel) (truth rule r) h
  error_cells rule r out.All h = errors_at_are p (truth_exp rule.1) r rule.1.errorcode rule.1.errorlevel ∙ ap (λ m. errors_of rule.1 (cell_or_null m)) (truth_is p rule.1 r)
  error_cells rule r out.AllMeasures h = errors_at_are p (truth_exp rule.1) r rule.1.errorcode rule.1.errorlevel ∙ ap (λ m. errors_of rule.1 (cell_or_null m)) (truth_is p rule.1 r)

  part_cells : (rule : PointRule) (r : Row) → is_shown o (truth rule r) ≡ true → point_of p (ruled_parts o a rule.1) r ≡ output_parts o (values_in a (measures_of a) r) (truth rule r) (errors_of rule.1 (truth rule r))
  part_cells rule r h =
      parts_mapped (λ e. cell_or_null (value p e r)) o ms (truth_exp rule.1) (rule_errors o rule.1)
      ∙ ap (λ l. output_parts o l (cell_or_null (value p (truth_exp rule.1) r)) (point_of p (rule_errors o rule.1) r)) (columns_point p xs (measures_of a) r ∙ named_cells xs (measures_of a) r)
      ∙ ap (λ m. output_parts o (values_in a (measures_of a) r) (cell_or_null m) (point_of p (rule_errors o rule.1) r)) (truth_is p rule.1 r)
      ∙ ap (output_parts o (values_in a (measures_of a) r) (truth rule r)) (error_cells rule r o h)

  point_is : (rule : PointRule) (r : Row) → P r → is_shown o (truth rule r) ≡ true → point_of p (es rule) r ≡ point rule r
  point_is rule r h shown =
      let rest = const (c.Text rule.0) ∷ ruled_parts o a rule.1 in
      points_append p ids rest r
      ∙ ap (λ l. l ++ point_of p rest r) (columns_point p xs (identifiers_of a) r ∙ named_cells xs (identifiers_of a) r ∙ own_values a r w h)
      ∙ ap (λ l. key_of a r ++ (c.Text rule.0 ∷ l)) (part_cells rule r shown)

  -- ---- the select of a rule

  abbrev A : DataSet
  A = with_points a d

  points_are : (rule : PointRule) → map (point_of p (es rule)) (filter (λ r. is_shown o (truth rule r)) d) ≡ rule_points p o A rule
  points_are rule = shown_points P (λ r. is_shown o (truth rule r)) (point_of p (es rule)) (point rule) (point_is rule) d set.typed

  -- the truth value in items: it is evaluated at every point, and every point is shown
  pub items_are : ((t : Cell) → is_shown o t ≡ true) → (rule : PointRule) → ((r : Row) → point_fault p (ruled_parts o a rule.1) r ≡ fault_in (truth_of p rule.1 r)) → each_point p (es rule) d ≡ found p o A rule
  items_are every rule told =
      let here : Row → Bool = λ r. is_shown o (truth rule r) in
      ap (λ f. unless f (map (point_of p (es rule)) d)) (faults_same P (point_fault p (es rule)) (λ r. fault_in (truth_of p rule.1 r)) (λ r h. columns_sure p xs (identifiers_of a) (const (c.Text rule.0) ∷ ruled_parts o a rule.1) r ∙ told r) d set.typed)
      ∙ ap (λ l. unless (rule_fault p A rule) (map (point_of p (es rule)) l)) (sym (all_shown here (λ r. every (truth rule r)) d))
      ∙ ap (unless (rule_fault p A rule)) (points_are rule)

  -- the truth value in WHERE: no item has a fault
  pub kept_are : ((t : Cell) → is_shown o t ≡ is_false t) → (rule : PointRule) → ((r : Row) → point_fault p (ruled_parts o a rule.1) r ≡ None) → after (filter_of p (negated (truth_exp rule.1)) d) (each_point p (es rule)) ≡ found p o A rule
  kept_are false_alone rule sure =
      let test = negated (truth_exp rule.1) in
      ap (λ f. after (unless f (filter (λ r. is_true (value p test r)) d)) (each_point p (es rule)))
      (faults_same P (λ r. fault_in (value p test r)) (λ r. fault_in (truth_of p rule.1 r)) (λ r h. negated_fault p (value p (truth_exp rule.1) r) ∙ ap fault_in (truth_is p rule.1 r)) d set.typed)
      ∙ ap (λ l. after (unless (rule_fault p A rule) l) (each_point p (es rule)))
      (filter_each (λ r. is_true (value p test r)) (λ r. is_shown o (truth rule r)) (λ r. negated_true p (value p (truth_exp rule.1) r) ∙ ap (λ m. is_false (cell_or_null m)) (truth_is p rule.1 r) ∙ sym (false_alone (truth rule r))) d)
      ∙ go (rule_fault p A rule)
    where
      shown : List Row
      shown = filter (λ r. is_shown o (truth rule r)) d

      go : (f : Option Fault) → after (unless f shown) (each_point p (es rule)) ≡ unless f (rule_points p o A rule)
      go None = each_sure p (λ r. Unit {0}) (es rule) (λ r h. columns_sure p xs (identifiers_of a) (const (c.Text rule.0) ∷ ruled_parts o a rule.1) r ∙ sure r) shown (all_each (λ r. Unit {0}) (λ r. tt) shown) ∙ ap Ok (points_are rule)
      go (Some f) = refl

-- the truth value and its errors have the fault of the rule
told : (p : Settings) (rule : PointRuleTree) (r : Row) → point_fault p (truth_exp rule ∷ error_exps_at (truth_exp rule) rule.errorcode rule.errorlevel) r ≡ fault_in (truth_of p rule r)
told p rule r = errors_at_fault p (truth_exp rule) rule.errorcode rule.errorlevel r ∙ ap fault_in (truth_is p rule r)

module _ (p : Settings) (law : Translates p) (before : Data) (name : Text) (a s : Structure) (d : List Row) (there : IsTable before name a d) (named : IsName name) (na : HaveNames (columns_of a)) (set : IsDataSet a d) (given : AreGiven (columns_of s)) where
  rule_gives : (o : CheckOut) (rule : PointRule) → IsRule p (columns_of a) rule → kinds_in (identifiers_of a ++ (ruleid ∷ ruled_measures o a)) ≡ kinds_in (columns_of s) → GivesRows p before s (ruled_select p o a s name rule) (found p o (with_points a d) rule)
  rule_gives out.Invalid rule i same =
      let es = ruled_exps out.Invalid a rule in
      let test = negated (truth_exp rule.1) in
      let t = truth_typed p (columns_of a) rule.1 i.typed in
      gives_same p before s (ruled_select p out.Invalid a s name rule) (after (filter_of p test d) (each_point p es)) (found p out.Invalid (with_points a d) rule)
      (kept_are p law before name out.Invalid a s d there named na set given (λ t. refl) rule (λ r. columns_sure p (columns_of a) (measures_of a) (error_exps rule.1.errorcode rule.1.errorlevel) r ∙ errors_sure p rule.1.errorcode rule.1.errorlevel r))
      (kept_gives p law before name a d there named set.well_formed na es s (exps_for p law before name out.Invalid a s d there named na set given rule i same) (exps_written p law before name out.Invalid a s d there named na set given rule i) given test (negated_typed p (columns_of a) (truth_exp rule.1) t.0 t.1, refl, negated_written (truth_exp rule.1) (truth_written rule.1 i.written)) set.typed)
  rule_gives out.All rule i same =
      let es = ruled_exps out.All a rule in
      gives_same p before s (ruled_select p out.All a s name rule) (each_point p es d) (found p out.All (with_points a d) rule)
      (items_are p law before name out.All a s d there named na set given (λ t. refl) rule (told p rule.1))
      (rows_give p law before name a d there named set.well_formed na es s (exps_for p law before name out.All a s d there named na set given rule i same) (exps_written p law before name out.All a s d there named na set given rule i) given None tt tt (Ok d) (ap Ok (rows_there p law before name a d there named set.well_formed na)) set.typed)
  rule_gives out.AllMeasures rule i same =
      let es = ruled_exps out.AllMeasures a rule in
      gives_same p before s (ruled_select p out.AllMeasures a s name rule) (each_point p es d) (found p out.AllMeasures (with_points a d) rule)
      (items_are p law before name out.AllMeasures a s d there named na set given (λ t. refl) rule (λ r. columns_sure p (columns_of a) (measures_of a) (truth_exp rule.1 ∷ error_exps_at (truth_exp rule.1) rule.1.errorcode rule.1.errorlevel) r ∙ told p rule.1 r))
      (rows_give p law before name a d there named set.well_formed na es s (exps_for p law before name out.AllMeasures a s d there named na set given rule i same) (exps_written p law before name out.AllMeasures a s d there named na set given rule i) given None tt tt (Ok d) (ap Ok (rows_there p law before name a d there named set.well_formed na)) set.typed)

  all_give : (o : CheckOut) (rules : List PointRule) → AllByRecursion (IsRule p (columns_of a)) rules → kinds_in (identifiers_of a ++ (ruleid ∷ ruled_measures o a)) ≡ kinds_in (columns_of s) → AllGive p before s (map (ruled_select p o a s name) rules) (map (found p o (with_points a d)) rules)
  all_give o [] all same = tt
  all_give o (rule ∷ rules) all same = (rule_gives o rule all.0 same, all_give o rules all.1 same)

  pub datapoint_exactly : (o : CheckOut) (rule : PointRuleTree) (rules : List PointRuleTree) → IsPointChecked p o (rule ∷ rules) a s → AllByRecursion CanRuleBeWritten (rule ∷ rules) → length (rule ∷ rules) < 2 ^ 64 → IsExactly p before (datapoint_query p (rule ∷ rules) o a s name) s (datapoint_of p o (rule ∷ rules) (with_points a d))
  datapoint_exactly o rule rules i written few =
      let all = point_rules (rule ∷ rules) in
      let one : PointRule = (rule_id 1 rule.name, rule) in
      let others = with_ids (λ r. r.name) 2 rules in
      let behind : kinds_in ((identifiers_of a ++ ruleid ∷ []) ++ ruled_measures o a) ≡ kinds_in (columns_of s) = kinds_behind s (identifiers_of a ++ ruleid ∷ []) (ruled_measures o a) i.identifiers i.others in
      let same : kinds_in (identifiers_of a ++ (ruleid ∷ ruled_measures o a)) ≡ kinds_in (columns_of s) = ap kinds_in (sym (append_assoc (identifiers_of a) (ruleid ∷ []) (ruled_measures o a))) ∙ behind in
      let give = all_give o all (all_rules p (columns_of a) 1 (rule ∷ rules) i.typed written (omega (arith, few))) same in
      exactly_same p before (datapoint_query p (rule ∷ rules) o a s name) s (appended (map (found p o (with_points a d)) all)) (datapoint_of p o (rule ∷ rules) (with_points a d))
      (appended_is (rule_fault p (with_points a d)) (rule_points p o (with_points a d)) all)
      (union_exactly p before s given (ruled_select p o a s name one) (map (ruled_select p o a s name) others) (found p o (with_points a d) one) (map (found p o (with_points a d)) others) give)
