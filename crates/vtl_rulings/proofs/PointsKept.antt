-- `check_datapoint` gives data sets.
use Rattle.std.proofs.Common.{◌≡◌, ℕ, Bool, true, false, cond, List, [], ◌∷◌, ◌++◌, take, Option, Some, None, Ok, refl, sym, ap, ◌∙◌, subst, append_assoc}
use Rattle.std.specs.List.{AllByRecursion, flat_map}
use Rattle.std.specs.Option.{option_to_list}
use Rattle.vtl_decimal.specs.Settings.{Settings}
use Rattle.vtl_lists.specs.Apart.{all_apart}
use Rattle.vtl_lists.proofs.Alls.{all_append, all_flat_map, all_more}
use Rattle.vtl_cell.specs.Outcome.{faults_by}
use Rattle.vtl_cell.specs.Row.{Row, same_key, same_row}
use Rattle.vtl_cell.specs.declared.cell.Cell.{Cell}
use Rattle.vtl_cell.specs.declared.cell.Cell.TheVariants as c
use Rattle.vtl_cell.specs.declared.kind.Kind.TheVariants as k
use Rattle.vtl_cell.proofs.Rows.{same_row-is, same_row-refl}
use Rattle.vtl_rows.specs.Tables.{fits_kinds}
use Rattle.vtl_syntax.specs.declared.word_groups.CheckOut.{CheckOut}
use Rattle.vtl_tree.specs.Columns.{identifiers_of, measures_of, others_of}
use Rattle.vtl_tree.specs.DataSet.{IsDataSet, is_point}
use Rattle.vtl_tree.specs.Measures.{bool_var}
use Rattle.vtl_tree.specs.Structure.{columns_of, key_width, same_name}
use Rattle.vtl_tree.specs.Trees.{PointRuleTree}
use Rattle.vtl_tree.specs.declared.structure.Component.{Component}
use Rattle.vtl_tree.specs.declared.structure.Structure.{Structure}
use Rattle.vtl_meaning.specs.Agreement.{key_of, values_in}
use Rattle.vtl_meaning.specs.Made.{component_kinds}
use Rattle.vtl_meaning.specs.Points.{cell_or_null, with_points}
use Rattle.vtl_meaning.proofs.Drawn.{AtMostOne, drawn_all, drawn_apart}
use Rattle.vtl_meaning.proofs.Kept.{unless_ok}
use Rattle.vtl_meaning.proofs.LookUps.{named_cells}
use Rattle.vtl_meaning.proofs.OwnColumns.{own_measures}
use Rattle.vtl_meaning.proofs.Places.{IsIdentifier, are_identifiers, are_others, cells_fit, columns_split, joined_point_is, key_of_joined, key_of_point, point_append, point_of_identifiers}
use Rattle.vtl_meaning.proofs.TurnedKept.{each_apart, filter_map_drawn, front_same}
use Rattle.vtl_rulings.specs.Outputs.{code_cell, is_shown, level_cell}
use Rattle.vtl_tree.specs.Checks.{error_measures, output_parts, ruleid}
use Rattle.vtl_tree.proofs.NotNullLemmas.{same_itself}
use Rattle.vtl_rulings.specs.PointChecks.{PointRule, datapoint_of, errors_of, point_rules, rule_fault, rule_points, ruled_point, truth_of}
use Rattle.vtl_rulings.specs.Shaped.{IsPointChecked, IsPointRuleOver}
use Rattle.vtl_rulings.proofs.Checked.{all_with_ids, code_is, errors_fit, level_is, parts_fit, parts_mapped, truth_is}

-- the measures of a point are of their kinds
pub measures_fit : (a : Structure) (d : List Row) (r : Row) → IsDataSet a d → is_point (columns_of a) r ≡ true → fits_kinds (component_kinds (measures_of a)) (values_in a (measures_of a) r) ≡ true
measures_fit a d r h t = ap (fits_kinds (component_kinds (measures_of a))) (sym (named_cells (columns_of a) (measures_of a) r)) ∙ cells_fit (measures_of a) (columns_of a) r (own_measures a h.well_formed) t

module _ (p : Settings) (o : CheckOut) (rules : List PointRuleTree) (a s : Structure) (d : List Row) (i : IsPointChecked p o rules a s) (h : IsDataSet a d) where
  abbrev xs : List Component
  xs = columns_of a

  abbrev pub rule_key : Row → List ℕ → Row
  rule_key r id = key_of a r ++ c.Text id ∷ []

  -- the point of a rule with this identifier at a point
  abbrev pub IsRuled : List ℕ → Row → Row → Type 0
  IsRuled id r q = (is_point (columns_of s) q ≡ true) × (take (key_width s) q ≡ rule_key r id)

  ruled_is : (r : Row) (id : List ℕ) (vs : Row) → is_point xs r ≡ true → fits_kinds (component_kinds (others_of s)) vs ≡ true → IsRuled id r (key_of a r ++ (c.Text id ∷ vs))
  ruled_is r id vs t fits =
      let key = rule_key r id in
      let ids = identifiers_of a ++ ruleid ∷ [] in
      let whole : key_of a r ++ (c.Text id ∷ vs) ≡ key ++ vs = sym (append_assoc (key_of a r) (c.Text id ∷ []) vs) in
      let identify : AllByRecursion IsIdentifier ids = all_append IsIdentifier (identifiers_of a) (ruleid ∷ []) (are_identifiers a) (refl, tt) in
      let own = point_of_identifiers ids (identifiers_of s) key identify (are_identifiers s) (sym i.identifiers.1) (point_append (identifiers_of a) (ruleid ∷ []) (key_of a r) (c.Text id ∷ []) (key_of_point a r t) refl) in
      subst (IsRuled id r) (sym whole) (joined_point_is s (others_of s) key vs (columns_split s) (are_others s) own fits, key_of_joined s key vs own)

  abbrev pub truth_at : PointRule → Row → Cell
  truth_at x r = cell_or_null (truth_of p x.1 r)

  abbrev pub point_at : PointRule → Row → Option Row
  point_at x r = ruled_point o a x r (truth_at x r)

  point_is : (x : PointRule) (r : Row) → IsPointRuleOver p xs x.1 → is_point xs r ≡ true → AtMostOne (IsRuled x.0 r) (option_to_list (point_at x r))
  point_is x r f t = go (is_shown o (truth_at x r))
    where
      vs : Row
      vs = values_in a (measures_of a) r

      cells : Row
      cells = output_parts o vs (truth_at x r) (errors_of x.1 (truth_at x r))

      fits : fits_kinds (component_kinds (others_of s)) cells ≡ true
      fits =
          ap (λ ks. fits_kinds ks cells) (i.others ∙ parts_mapped (λ y. y.kind) o (measures_of a) bool_var error_measures)
          ∙ parts_fit o (component_kinds (measures_of a)) (component_kinds error_measures) k.Bool vs (errors_of x.1 (truth_at x r)) (truth_at x r)
          (measures_fit a d r h t) (truth_is p xs x.1 r f t) (errors_fit (code_cell x.1.errorcode) (level_cell x.1.errorlevel) (truth_at x r) (code_is x.1.errorcode) (level_is x.1.errorlevel))

      go : (b : Bool) → AtMostOne (IsRuled x.0 r) (option_to_list (cond b (Some (key_of a r ++ (c.Text x.0 ∷ cells))) None))
      go true = ruled_is r x.0 cells t fits
      go false = tt

  -- the points of a rule
  abbrev pub points : PointRule → List Row
  points x = rule_points p o (with_points a d) x

  pub drawn_is : (x : PointRule) → points x ≡ flat_map (λ r. option_to_list (point_at x r)) d
  drawn_is x = filter_map_drawn (point_at x) d

  abbrev pub IsDrawn : PointRule → Row → Type 0
  IsDrawn x q = (r : Row) × IsRuled x.0 r q

  pub at_each : (x : PointRule) → IsPointRuleOver p xs x.1 → AllByRecursion (λ r. AtMostOne (IsRuled x.0 r) (option_to_list (point_at x r))) d
  at_each x f = all_more (λ r. is_point xs r ≡ true) (λ r. AtMostOne (IsRuled x.0 r) (option_to_list (point_at x r))) (λ r t. point_is x r f t) d h.typed

  pub are_drawn : (x : PointRule) → IsPointRuleOver p xs x.1 → AllByRecursion (IsDrawn x) (points x)
  are_drawn x f = subst (AllByRecursion (IsDrawn x)) (sym (drawn_is x)) (drawn_all (IsRuled x.0) (IsDrawn x) (λ r q t. (r, t)) (λ r. option_to_list (point_at x r)) d (at_each x f))

  keys_back : (id other : List ℕ) (r t q z : Row) → IsRuled id r q → IsRuled other t z → same_key (key_width s) q z ≡ true → (key_of a r ≡ key_of a t) × (c.Text id ≡ c.Text other)
  keys_back id other r t q z f g e = front_same (key_of a r) (key_of a t) (c.Text id) (c.Text other) (sym f.1 ∙ same_row-is (take (key_width s) q) (take (key_width s) z) e ∙ g.1)

  one_apart : (x : PointRule) → IsPointRuleOver p xs x.1 → all_apart (same_key (key_width s)) (points x) ≡ true
  one_apart x f =
      ap (all_apart (same_key (key_width s))) (drawn_is x)
      ∙ drawn_apart (IsRuled x.0) (same_key (key_width a)) (same_key (key_width s))
      (λ r t q z g j e. ap (same_row (take (key_width a) r)) (sym (keys_back x.0 x.0 r t q z g j e).0) ∙ same_row-refl (take (key_width a) r))
      (λ r. option_to_list (point_at x r)) d (at_each x f) h.distinct

  rule_names : (x t : PointRule) (q z : Row) → IsDrawn x q → IsDrawn t z → same_key (key_width s) q z ≡ true → same_name x.0 t.0 ≡ true
  rule_names x t q z f g e =
      let texts = (keys_back x.0 t.0 f.0 g.0 q z f.1 g.1 e).1 in
      let same : x.0 ≡ t.0 = cc in
      ap (same_name x.0) (sym same) ∙ same_itself x.0

  abbrev pub all : List PointRule
  all = point_rules rules

  pub all_rules : AllByRecursion (λ x. IsPointRuleOver p xs x.1) all
  all_rules = all_with_ids (IsPointRuleOver p xs) (λ r. r.name) 1 rules i.typed

  pub all_points_drawn : AllByRecursion (λ x. AllByRecursion (IsDrawn x) (points x)) all
  all_points_drawn = all_more (λ x. IsPointRuleOver p xs x.1) (λ x. AllByRecursion (IsDrawn x) (points x)) are_drawn all all_rules

  pub whole_kept : IsDataSet s (flat_map points all)
  whole_kept = record {
    well_formed = i.well_formed;
    typed = all_flat_map (λ q. is_point (columns_of s) q ≡ true) points all
        (all_more (λ x. AllByRecursion (IsDrawn x) (points x)) (λ x. AllByRecursion (λ q. is_point (columns_of s) q ≡ true) (points x)) (λ x l. all_more (IsDrawn x) (λ q. is_point (columns_of s) q ≡ true) (λ q t. t.1.0) (points x) l) all all_points_drawn);
    distinct = each_apart IsDrawn (λ x y. same_name x.0 y.0) (same_key (key_width s)) rule_names points all all_points_drawn
        (all_more (λ x. IsPointRuleOver p xs x.1) (λ x. all_apart (same_key (key_width s)) (points x) ≡ true) one_apart all all_rules) i.apart;
  }

  pub datapoint_is : (made : List Row) → datapoint_of p o rules (with_points a d) ≡ Ok made → flat_map points all ≡ made
  datapoint_is made e = (unless_ok (faults_by (rule_fault p (with_points a d)) all) (flat_map points all) made e).1

  pub datapoint_kept : (made : List Row) → datapoint_of p o rules (with_points a d) ≡ Ok made → IsDataSet s made
  datapoint_kept made e = subst (IsDataSet s) (datapoint_is made e) whole_kept
