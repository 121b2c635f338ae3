-- The points of checks are of the profile where those of the operand are.
use Rattle.std.proofs.Common.{ℕ, ℤ, Bool, true, false, cond, List, ◌∷◌, ◌++◌, Option, Some, None, subst, sym}
use Rattle.std.specs.Prelude.{IfOk}
use Rattle.std.specs.List.{AllByRecursion, flat_map}
use Rattle.std.specs.Option.{IfSome, option_map_or, option_to_list}
use Rattle.vtl_lists.proofs.Alls.{all_append, all_flat_map, all_more}
use Rattle.vtl_decimal.specs.Settings.{Settings}
use Rattle.vtl_cell.specs.Conversion.{as_kind}
use Rattle.vtl_cell.specs.Outcome.{faults_by}
use Rattle.vtl_cell.specs.Profile.{IsOfProfile}
use Rattle.vtl_cell.specs.Row.{Row, column_of}
use Rattle.vtl_cell.specs.declared.cell.Cell.{Cell}
use Rattle.vtl_cell.specs.declared.cell.Cell.TheVariants as c
use Rattle.vtl_cell.specs.declared.kind.Kind.TheVariants as k
use Rattle.vtl_decimal.specs.Range.{fit_number}
use Rattle.vtl_cell.specs.ScalarArithmetic.{units}
use Rattle.vtl_scalar.proofs.ProfileLemmas.{Gives, number_gives}
use Rattle.vtl_syntax.specs.declared.word_groups.CheckOut.{CheckOut}
use Rattle.vtl_tree.specs.Columns.{measures_of}
use Rattle.vtl_tree.specs.CompExp.{CompExp}
use Rattle.vtl_tree.specs.DataSet.{AreOfProfile}
use Rattle.vtl_tree.specs.Environment.{DataSet}
use Rattle.vtl_tree.specs.Structure.{columns_of, key_width}
use Rattle.vtl_tree.specs.Trees.{PointRuleTree}
use Rattle.vtl_tree.specs.Value.{value}
use Rattle.vtl_tree.specs.declared.specifications.CheckSpec.{CheckSpec}
use Rattle.vtl_tree.specs.declared.structure.Component.{Component}
use Rattle.vtl_tree.specs.declared.structure.Structure.{Structure}
use Rattle.vtl_meaning.specs.Agreement.{first_agreeing, key_of, values_in}
use Rattle.vtl_meaning.specs.Points.{cell_or_null, with_points}
use Rattle.vtl_meaning.proofs.JoinProfiles.{front_holds, values_hold}
use Rattle.vtl_meaning.proofs.Profiles.{IsRowOfProfile, cell_is, drawn_are, value_gives}
use Rattle.vtl_meaning.proofs.TurnedKept.{filter_map_drawn}
use Rattle.vtl_meaning.proofs.ValueKinds.{after_if}
use Rattle.vtl_meaning.proofs.GroupPoints.{unless_has}
use Rattle.vtl_rulings.specs.Outputs.{code_cell, errors_at, is_basic_shown, is_shown, level_cell}
use Rattle.vtl_tree.specs.Checks.{output_parts}
use Rattle.vtl_rulings.specs.PointChecks.{PointRule, check_of, checked_point, datapoint_of, errors_of, held, imbalance_at, point_rules, rule_fault, rule_points, ruled_point, truth_of, under}
use Rattle.vtl_rulings.specs.Shaped.{IsConditionOver, IsPointRuleOver}
use Rattle.vtl_rulings.proofs.Checked.{all_with_ids, code_of_profile, errors_hold, given_or_null, level_of_profile, parts_hold, under_holds}

module _ (p : Settings) where
  abbrev Of : Cell → Type 0
  Of v = IsOfProfile p v

  key_profile : (a : Structure) (r : Row) → IsRowOfProfile p r → IsRowOfProfile p (key_of a r)
  key_profile a r h = front_holds Of tt (key_width a) r h

  pub errors_profile : (code : Option (List ℕ)) (level : Option ℤ) (truth : Cell) → IfSome level (λ n. Of (c.Int n)) → IsRowOfProfile p (errors_at (code_cell code) (level_cell level) truth)
  errors_profile code level truth h = errors_hold Of (code_cell code) (level_cell level) truth tt (code_of_profile p code) (level_of_profile p level h)

  -- ---- `check_datapoint`
  held_gives : (xs : List Component) (antecedent : Option CompExp) (e : CompExp) (r : Row) → IfSome antecedent (IsConditionOver p xs) → IsConditionOver p xs e → IsRowOfProfile p r → Gives p (held p antecedent e r)
  held_gives xs None e r f i h = value_gives p xs e r i.0 h
  held_gives xs (Some w) e r f i h = after_if (value p w r) (λ t. under t (value p e r)) Of Of (value_gives p xs w r f.0 h) (λ t j. under_holds Of t (value p e r) tt tt (value_gives p xs e r i.0 h))

  truth_profile : (xs : List Component) (rule : PointRuleTree) (r : Row) → IsPointRuleOver p xs rule → IsRowOfProfile p r → Of (cell_or_null (truth_of p rule r))
  truth_profile xs rule r i h = given_or_null Of (truth_of p rule r) tt (held_gives xs rule.antecedent rule.condition r i.antecedent i.condition h)

  module _ (o : CheckOut) (rules : List PointRuleTree) (a : Structure) (d : List Row) (i : AllByRecursion (IsPointRuleOver p (columns_of a)) rules) (h : AreOfProfile p d) where
    abbrev truth_at : PointRule → Row → Cell
    truth_at x r = cell_or_null (truth_of p x.1 r)

    point_profile : (x : PointRule) (r : Row) → IsPointRuleOver p (columns_of a) x.1 → IsRowOfProfile p r → AreOfProfile p (option_to_list (ruled_point o a x r (truth_at x r)))
    point_profile x r f t = go (is_shown o (truth_at x r))
      where
        measures : Row
        measures = values_in a (measures_of a) r

        errors : Row
        errors = errors_of x.1 (truth_at x r)

        cells_are : IsRowOfProfile p (output_parts o measures (truth_at x r) errors)
        cells_are = parts_hold Of o measures (truth_at x r) errors (values_hold Of tt (columns_of a) (measures_of a) r t) (truth_profile (columns_of a) x.1 r f t) (errors_profile x.1.errorcode x.1.errorlevel (truth_at x r) f.level)

        go : (b : Bool) → AreOfProfile p (option_to_list (cond b (Some (key_of a r ++ (c.Text x.0 ∷ output_parts o measures (truth_at x r) errors))) None))
        go true = (all_append Of (key_of a r) (c.Text x.0 ∷ output_parts o measures (truth_at x r) errors) (key_profile a r t) (tt, cells_are), tt)
        go false = tt

    rule_profile : (x : PointRule) → IsPointRuleOver p (columns_of a) x.1 → AreOfProfile p (rule_points p o (with_points a d) x)
    rule_profile x f =
        let at : Row → Option Row = λ r. ruled_point o a x r (truth_at x r) in
        subst (AreOfProfile p) (sym (filter_map_drawn at d)) (drawn_are p (λ r. option_to_list (at r)) d (λ r t. point_profile x r f t) h)

    pub datapoint_profile : IfOk (datapoint_of p o rules (with_points a d)) (AreOfProfile p)
    datapoint_profile =
        let all = point_rules rules in
        let points : PointRule → List Row = rule_points p o (with_points a d) in
        unless_has (AreOfProfile p) (faults_by (rule_fault p (with_points a d)) all) (flat_map points all)
        (all_flat_map (IsRowOfProfile p) points all (all_more (λ x. IsPointRuleOver p (columns_of a) x.1) (λ x. AreOfProfile p (points x)) rule_profile all (all_with_ids (IsPointRuleOver p (columns_of a)) (λ r. r.name) 1 rules i)))

  -- ---- `check`
  imbalance_profile : (a : Structure) (imbalance : Option DataSet) (r : Row) → Of (imbalance_at p a imbalance r)
  imbalance_profile a None r = tt
  imbalance_profile a (Some e) r = go (first_agreeing a e r)
    where
      number_of_profile : (v : Cell) → Of (cell_or_null (as_kind p k.Num v))
      number_of_profile (c.Int n) = given_or_null Of (as_kind p k.Num (c.Int n)) tt (number_gives p (fit_number (units p n)))
      number_of_profile c.Null = tt
      number_of_profile (c.Bool x) = tt
      number_of_profile (c.Num n) = tt
      number_of_profile (c.Text x) = tt
      number_of_profile (c.Day x) = tt
      number_of_profile (c.Period x) = tt

      go : (found : Option Row) → Of (option_map_or (λ q. cell_or_null (as_kind p k.Num (column_of (key_width e.structure) q))) found c.Null)
      go None = tt
      go (Some q) = number_of_profile (column_of (key_width e.structure) q)

  pub check_profile : (spec : CheckSpec) (a : Structure) (imbalance : Option DataSet) (d : List Row) → IfSome spec.errorlevel (λ n. Of (c.Int n)) → AreOfProfile p d → AreOfProfile p (check_of p spec (with_points a d) imbalance)
  check_profile spec a imbalance d level h =
      subst (AreOfProfile p) (sym (filter_map_drawn at d)) (drawn_are p (λ r. option_to_list (at r)) d (λ r t. point_profile r t (is_basic_shown spec.output (truth r))) h)
    where
      truth : Row → Cell
      truth r = column_of (key_width a) r

      at : Row → Option Row
      at r = checked_point p spec a imbalance r (truth r)

      cells : Row → Row
      cells r = truth r ∷ imbalance_at p a imbalance r ∷ errors_at (code_cell spec.errorcode) (level_cell spec.errorlevel) (truth r)

      point_profile : (r : Row) → IsRowOfProfile p r → (b : Bool) → AreOfProfile p (option_to_list (cond b (Some (key_of a r ++ cells r)) None))
      point_profile r t true = (all_append Of (key_of a r) (cells r) (key_profile a r t) (cell_is p (key_width a) r t, (imbalance_profile a imbalance r, errors_profile spec.errorcode spec.errorlevel (truth r) level)), tt)
      point_profile r t false = tt
