-- `check_hierarchy` gives data sets.
use Rattle.std.proofs.Common.{◌≡◌, Bool, true, false, cond, List, [], ◌∷◌, ◌++◌, map, take, Option, Some, None, Ok, refl, sym, ap, ◌∙◌, subst, append_assoc}
use Rattle.std.specs.List.{AllByRecursion, filter_map, flat_map}
use Rattle.std.specs.Option.{option_and_then, option_to_list}
use Rattle.vtl_decimal.specs.Settings.{Settings}
use Rattle.vtl_lists.specs.Apart.{all_apart}
use Rattle.vtl_lists.proofs.Alls.{all_append, all_each, all_flat_map, all_more}
use Rattle.vtl_cell.specs.Literals.{integer_written}
use Rattle.vtl_cell.specs.Outcome.{faults_by}
use Rattle.vtl_cell.specs.Row.{Row, same_key, same_row}
use Rattle.vtl_cell.specs.declared.cell.Cell.{Cell}
use Rattle.vtl_cell.specs.declared.cell.Cell.TheVariants as c
use Rattle.vtl_cell.specs.declared.kind.Kind.TheVariants as k
use Rattle.vtl_cell.proofs.Rows.{same_row-is, same_row-refl}
use Rattle.vtl_rows.specs.Tables.{fits_kinds}
use Rattle.vtl_syntax.specs.declared.statements.HierRule.{HierRule}
use Rattle.vtl_syntax.specs.declared.word_groups.CheckOut.{CheckOut}
use Rattle.vtl_syntax.specs.declared.word_groups.Mode.{Mode}
use Rattle.vtl_tree.specs.Columns.{identifiers_of, measures_of, others_of}
use Rattle.vtl_tree.specs.DataSet.{IsDataSet, is_point}
use Rattle.vtl_tree.specs.Environment.{DataSet}
use Rattle.vtl_tree.specs.Measures.{bool_var}
use Rattle.vtl_tree.specs.Pairs.{imbalance}
use Rattle.vtl_tree.specs.Structure.{columns_of, key_width, same_name}
use Rattle.vtl_tree.specs.declared.structure.Component.{Component}
use Rattle.vtl_tree.specs.declared.structure.Structure.{Structure}
use Rattle.vtl_tuples.proofs.Onces.{once_apart}
use Rattle.vtl_meaning.specs.Agreement.{values_in}
use Rattle.vtl_meaning.specs.Made.{component_kinds}
use Rattle.vtl_meaning.specs.Points.{cell_or_null, with_points}
use Rattle.vtl_meaning.specs.Turned.{other_identifiers}
use Rattle.vtl_meaning.proofs.Drawn.{AtMostOne, drawn_all, drawn_apart}
use Rattle.vtl_meaning.proofs.Kept.{unless_ok}
use Rattle.vtl_meaning.proofs.Places.{IsIdentifier, are_identifiers, are_others, columns_split, joined_point_is, key_of_joined, point_append, point_of_identifiers}
use Rattle.vtl_meaning.proofs.TurnedKept.{each_apart, filter_map_drawn, front_same}
use Rattle.vtl_meaning.proofs.ValueKinds.{IsOf}
use Rattle.vtl_rulings.specs.HierarchyChecks.{Ruled, SidedRule, check_cells, check_fault, check_hierarchy_of, check_point, combinations, is_checked, items_at, key_at, sided_rules}
use Rattle.vtl_rulings.specs.HierarchyShapes.{IsHierarchyChecked}
use Rattle.vtl_rulings.specs.Modes.{Items}
use Rattle.vtl_rulings.specs.Outputs.{code_cell, is_shown, level_cell}
use Rattle.vtl_tree.specs.Checks.{error_measures, output_parts, ruleid}
use Rattle.vtl_rulings.specs.Sides.{difference, holds, left_side, rule_errors}
use Rattle.vtl_tree.specs.RuleItems.{left_item}
use Rattle.vtl_tree.proofs.NotNullLemmas.{same_itself}
use Rattle.vtl_rulings.proofs.Checked.{code_is, errors_fit, given_or_null, level_is, parts_fit, parts_mapped}
use Rattle.vtl_rulings.proofs.HierarchyKeys.{combinations_typed, items_are, key_back, key_is_point}
use Rattle.vtl_rulings.proofs.SideKinds.{difference_is, holds_is, left_is}

module _ (p : Settings) (o : CheckOut) (h : Ruled) (m : Mode) (rules : List HierRule) (a s : Structure) (d : List Row) (i : IsHierarchyChecked o h rules a s) (set : IsDataSet a d) where
  abbrev operand : DataSet
  operand = with_points a d

  abbrev left : List Component
  left = other_identifiers h.id a

  abbrev side_key : SidedRule → Row → Row
  side_key x row = key_at h.id a row (left_item x.1) ++ c.Text x.0 ∷ []

  -- the point of a rule at a combination
  abbrev IsSided : SidedRule → Row → Row → Type 0
  IsSided x row q = (is_point left row ≡ true) × (is_point (columns_of s) q ≡ true) × (take (key_width s) q ≡ side_key x row)

  sided_is : (x : SidedRule) (row vs : Row) → is_point left row ≡ true → fits_kinds (component_kinds (others_of s)) vs ≡ true → IsSided x row (key_at h.id a row (left_item x.1) ++ (c.Text x.0 ∷ vs))
  sided_is x row vs t fits =
      let front = key_at h.id a row (left_item x.1) in
      let key = side_key x row in
      let ids = identifiers_of a ++ ruleid ∷ [] in
      let identify : AllByRecursion IsIdentifier ids = all_append IsIdentifier (identifiers_of a) (ruleid ∷ []) (are_identifiers a) (refl, tt) in
      let own = point_of_identifiers ids (identifiers_of s) key identify (are_identifiers s) (sym i.identifiers.1)
      (point_append (identifiers_of a) (ruleid ∷ []) front (c.Text x.0 ∷ []) (key_is_point h.id a set.well_formed i.itemized.coded row (left_item x.1) t) refl) in
      subst (IsSided x row) (append_assoc front (c.Text x.0 ∷ []) vs) (t, joined_point_is s (others_of s) key vs (columns_split s) (are_others s) own fits, key_of_joined s key vs own)

  abbrev point_at : SidedRule → Row → Option Row
  point_at x row = check_point p o h m operand x row

  point_is : (x : SidedRule) (row : Row) → is_point left row ≡ true → AtMostOne (IsSided x row) (option_to_list (point_at x row))
  point_is x row t = go (is_checked m items x.1) (is_shown o truth)
    where
      items : Items
      items = items_at h operand row

      truth : Cell
      truth = cell_or_null (holds p m h.kind items x.1)

      go : (b b' : Bool) → AtMostOne (IsSided x row) (option_to_list (cond b (cond b' (Some (key_at h.id a row (left_item x.1) ++ (c.Text x.0 ∷ check_cells p o m h.kind (items_at h operand row) x.1 (cell_or_null (holds p m h.kind (items_at h operand row) x.1))))) None) None))
      go false b' = tt
      go true false = tt
      go true true =
          let n = i.itemized.numeric in
          let are = items_are h a d i.itemized set row in
          let here = items_at h operand row in
          let value = cell_or_null (holds p m h.kind here x.1) in
          let less = cell_or_null (difference p m h.kind here x.1) in
          let errors = rule_errors p x.1 value in
          let cells = check_cells p o m h.kind here x.1 value in
          let kinds = component_kinds (imbalance ∷ error_measures) in
          let value_is : IsOf k.Bool value = given_or_null (IsOf k.Bool) (holds p m h.kind here x.1) refl (holds_is p m h.kind n here are x.1) in
          let less_is : IsOf k.Num less = given_or_null (IsOf k.Num) (difference p m h.kind here x.1) refl (difference_is p m h.kind n here are x.1) in
          let errors_are : fits_kinds (component_kinds error_measures) errors ≡ true = errors_fit (code_cell x.1.error.code) (level_cell (option_and_then (integer_written p) x.1.error.level)) value (code_is x.1.error.code) (level_is (option_and_then (integer_written p) x.1.error.level)) in
          let measure_is : fits_kinds (h.kind ∷ []) (left_side m h.kind here x.1 ∷ []) ≡ true = rw (left_is p m h.kind n here are x.1) refl in
          let rest_is : fits_kinds kinds (less ∷ errors) ≡ true = rw less_is errors_are in
          sided_is x row cells t
          (ap (λ ks. fits_kinds ks cells) (i.others ∙ parts_mapped (λ y. y.kind) o (measures_of a) bool_var (imbalance ∷ error_measures) ∙ ap (λ ks. output_parts o ks k.Bool kinds) i.itemized.only)
          ∙ parts_fit o (h.kind ∷ []) kinds k.Bool (left_side m h.kind here x.1 ∷ []) (less ∷ errors) value measure_is value_is rest_is)

  -- ---- the points of a rule
  abbrev all_rows : List Row
  all_rows = combinations h.id operand

  abbrev points : SidedRule → List Row
  points x = filter_map (point_at x) all_rows

  at_each : (x : SidedRule) → AllByRecursion (λ row. AtMostOne (IsSided x row) (option_to_list (point_at x row))) all_rows
  at_each x = all_more (λ row. is_point left row ≡ true) (λ row. AtMostOne (IsSided x row) (option_to_list (point_at x row))) (point_is x) all_rows (combinations_typed h.id a d set)

  abbrev IsDrawn : SidedRule → Row → Type 0
  IsDrawn x q = (row : Row) × IsSided x row q

  are_drawn : (x : SidedRule) → AllByRecursion (IsDrawn x) (points x)
  are_drawn x = subst (AllByRecursion (IsDrawn x)) (sym (filter_map_drawn (point_at x) all_rows)) (drawn_all (IsSided x) (IsDrawn x) (λ r q t. (r, t)) (λ r. option_to_list (point_at x r)) all_rows (at_each x))

  keys_back : (x t : SidedRule) (r u q z : Row) → IsSided x r q → IsSided t u z → same_key (key_width s) q z ≡ true → (key_at h.id a r (left_item x.1) ≡ key_at h.id a u (left_item t.1)) × (c.Text x.0 ≡ c.Text t.0)
  keys_back x t r u q z f g e = front_same (key_at h.id a r (left_item x.1)) (key_at h.id a u (left_item t.1)) (c.Text x.0) (c.Text t.0) (sym f.2 ∙ same_row-is (take (key_width s) q) (take (key_width s) z) e ∙ g.2)

  one_apart : (x : SidedRule) → all_apart (same_key (key_width s)) (points x) ≡ true
  one_apart x =
      ap (all_apart (same_key (key_width s))) (filter_map_drawn (point_at x) all_rows)
      ∙ drawn_apart (IsSided x) same_row (same_key (key_width s))
      (λ r u q z f g e. ap (same_row r) (sym (key_back h.id a set.well_formed r u (left_item x.1) (left_item x.1) f.0 g.0 (keys_back x x r u q z f g e).0)) ∙ same_row-refl r)
      (λ r. option_to_list (point_at x r)) all_rows (at_each x) (once_apart same_row (map (values_in a left) d))

  rule_names : (x t : SidedRule) (q z : Row) → IsDrawn x q → IsDrawn t z → same_key (key_width s) q z ≡ true → same_name x.0 t.0 ≡ true
  rule_names x t q z f g e =
      let texts = (keys_back x t f.0 g.0 q z f.1 g.1 e).1 in
      let same : x.0 ≡ t.0 = cc in
      ap (same_name x.0) (sym same) ∙ same_itself x.0

  abbrev all : List SidedRule
  all = sided_rules rules

  all_points_drawn : AllByRecursion (λ x. AllByRecursion (IsDrawn x) (points x)) all
  all_points_drawn = all_each (λ x. AllByRecursion (IsDrawn x) (points x)) are_drawn all

  whole_kept : IsDataSet s (flat_map points all)
  whole_kept = record {
    well_formed = i.well_formed;
    typed = all_flat_map (λ q. is_point (columns_of s) q ≡ true) points all
        (all_more (λ x. AllByRecursion (IsDrawn x) (points x)) (λ x. AllByRecursion (λ q. is_point (columns_of s) q ≡ true) (points x)) (λ x l. all_more (IsDrawn x) (λ q. is_point (columns_of s) q ≡ true) (λ q t. t.1.1) (points x) l) all all_points_drawn);
    distinct = each_apart IsDrawn (λ x y. same_name x.0 y.0) (same_key (key_width s)) rule_names points all all_points_drawn (all_each (λ x. all_apart (same_key (key_width s)) (points x) ≡ true) one_apart all) i.apart;
  }

  pub check_hierarchy_kept : (made : List Row) → check_hierarchy_of p o h m operand rules ≡ Ok made → IsDataSet s made
  check_hierarchy_kept made e =
      subst (IsDataSet s) (unless_ok (faults_by (λ rule. faults_by (λ row. check_fault p m h.kind (items_at h operand row) rule.1) all_rows) all) (flat_map points all) made e).1 whole_kept
