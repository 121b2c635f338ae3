-- `hierarchy` gives data sets.
use Rattle.std.proofs.Common.{◌≡◌, true, List, [], ◌∷◌, ◌++◌, map, take, Option, Some, None, Ok, refl, sym, ap, ◌∙◌, subst}
use Rattle.std.specs.Prelude.{IfSome, option_map}
use Rattle.std.specs.List.{AllByRecursion, filter_map}
use Rattle.std.specs.Option.{option_to_list}
use Rattle.vtl_decimal.specs.Settings.{Settings}
use Rattle.vtl_lists.specs.Apart.{all_apart}
use Rattle.vtl_lists.proofs.Alls.{all_each, all_flat_map, all_more}
use Rattle.vtl_cell.specs.Outcome.{Outcome, faults_by}
use Rattle.vtl_cell.specs.Row.{Row, same_key, same_row}
use Rattle.vtl_cell.specs.declared.cell.Cell.{Cell}
use Rattle.vtl_cell.proofs.Rows.{same_row-is, same_row-refl}
use Rattle.vtl_rows.specs.Tables.{fits_kinds}
use Rattle.vtl_syntax.specs.declared.statements.HierRule.{HierRule}
use Rattle.vtl_syntax.specs.declared.word_groups.HierInput.{HierInput}
use Rattle.vtl_syntax.specs.declared.word_groups.HierOut.{HierOut}
use Rattle.vtl_syntax.specs.declared.word_groups.HierOut.TheVariants as out
use Rattle.vtl_syntax.specs.declared.word_groups.Mode.{Mode}
use Rattle.vtl_tree.specs.Columns.{others_of}
use Rattle.vtl_tree.specs.DataSet.{IsDataSet, is_point}
use Rattle.vtl_tree.specs.Environment.{DataSet}
use Rattle.vtl_tree.specs.Structure.{columns_of, key_width, same_name}
use Rattle.vtl_tree.specs.declared.structure.Component.{Component}
use Rattle.vtl_tree.specs.declared.structure.Structure.{Structure}
use Rattle.vtl_tuples.proofs.Onces.{once_apart}
use Rattle.vtl_meaning.specs.Agreement.{values_in}
use Rattle.vtl_meaning.specs.Operators.{left_of}
use Rattle.vtl_meaning.specs.Points.{cell_or_null, with_points}
use Rattle.vtl_meaning.specs.Turned.{other_identifiers}
use Rattle.vtl_meaning.proofs.Drawn.{AtMostOne, drawn_all, drawn_apart}
use Rattle.vtl_meaning.proofs.Kept.{unless_ok}
use Rattle.vtl_meaning.proofs.Places.{are_others, columns_split, joined_point_is, key_for, key_of_joined}
use Rattle.vtl_meaning.proofs.SetsKept.{shown_kept, united_kept}
use Rattle.vtl_meaning.proofs.TurnedKept.{each_apart, filter_map_drawn}
use Rattle.vtl_meaning.proofs.ValueKinds.{GivesOf, IsOf, null_is_of}
use Rattle.vtl_rulings.specs.Hierarchies.{hierarchy_of, made_at, made_fault, made_point, made_points, shown_points}
use Rattle.vtl_rulings.specs.HierarchyChecks.{Ruled, combinations, items_at, key_at}
use Rattle.vtl_rulings.specs.HierarchyShapes.{IsHierarchyMade}
use Rattle.vtl_tree.specs.RuleItems.{definitions, left_item}
use Rattle.vtl_tree.proofs.NotNullLemmas.{same_itself}
use Rattle.vtl_rulings.proofs.Checked.{given_or_null}
use Rattle.vtl_rulings.proofs.HierarchyKeys.{combinations_typed, item_back, items_are, key_back, key_is_point}
use Rattle.vtl_rulings.proofs.SideKinds.{kinds_kept}
use Rattle.vtl_rulings.proofs.SidesHold.{made_holds}

-- ---- points
module _ (p : Settings) (h : Ruled) (m : Mode) (i : HierInput) (rules : List HierRule) (a s : Structure) (d : List Row) (is : IsHierarchyMade h rules a s) (set : IsDataSet a d) where
  abbrev operand : DataSet
  operand = with_points a d

  abbrev left : List Component
  left = other_identifiers h.id a

  abbrev item_key : HierRule → Row → Row
  item_key r row = key_at h.id a row (left_item r)

  abbrev IsMadeBy : HierRule → Row → Row → Type 0
  IsMadeBy r row q = (is_point left row ≡ true) × (is_point (columns_of s) q ≡ true) × (take (key_width s) q ≡ item_key r row)

  abbrev point_at : HierRule → Row → Option Row
  point_at r row = made_point p h m i rules operand r row

  made_is : (r : HierRule) (row : Row) → IfSome (made_at p h m i rules operand r row) (GivesOf h.kind)
  made_is r row = made_holds p h.kind (IsOf h.kind) (kinds_kept p h.kind is.itemized.numeric) m i (definitions rules) (items_at h operand row) (items_are h a d is.itemized set row) r

  point_is : (r : HierRule) (row : Row) → is_point left row ≡ true → AtMostOne (IsMadeBy r row) (option_to_list (point_at r row))
  point_is r row t = go (made_at p h m i rules operand r row) (made_is r row)
    where
      go : (v : Option (Outcome Cell)) → IfSome v (GivesOf h.kind) → AtMostOne (IsMadeBy r row) (option_to_list (option_map (λ w. key_at h.id a row (left_item r) ++ (cell_or_null w ∷ [])) v))
      go None f = tt
      go (Some w) f =
          let key = key_at h.id a row (left_item r) in
          let cell : IsOf h.kind (cell_or_null w) = given_or_null (IsOf h.kind) w (null_is_of h.kind) f in
          let one : fits_kinds (h.kind ∷ []) (cell_or_null w ∷ []) ≡ true = rw cell refl in
          let own = key_for s a key is.identifiers (key_is_point h.id a set.well_formed is.itemized.coded row (left_item r) t) in
          (t, joined_point_is s (others_of s) key (cell_or_null w ∷ []) (columns_split s) (are_others s) own (ap (λ ks. fits_kinds ks (cell_or_null w ∷ [])) is.others ∙ one), key_of_joined s key (cell_or_null w ∷ []) own)

  abbrev all_rows : List Row
  all_rows = combinations h.id operand

  abbrev points : HierRule → List Row
  points r = filter_map (point_at r) all_rows

  at_each : (r : HierRule) → AllByRecursion (λ row. AtMostOne (IsMadeBy r row) (option_to_list (point_at r row))) all_rows
  at_each r = all_more (λ row. is_point left row ≡ true) (λ row. AtMostOne (IsMadeBy r row) (option_to_list (point_at r row))) (point_is r) all_rows (combinations_typed h.id a d set)

  abbrev IsDrawn : HierRule → Row → Type 0
  IsDrawn r q = (row : Row) × IsMadeBy r row q

  are_drawn : (r : HierRule) → AllByRecursion (IsDrawn r) (points r)
  are_drawn r = subst (AllByRecursion (IsDrawn r)) (sym (filter_map_drawn (point_at r) all_rows)) (drawn_all (IsMadeBy r) (IsDrawn r) (λ row q t. (row, t)) (λ row. option_to_list (point_at r row)) all_rows (at_each r))

  keys_same : (r t : HierRule) (row other q z : Row) → IsMadeBy r row q → IsMadeBy t other z → same_key (key_width s) q z ≡ true → item_key r row ≡ item_key t other
  keys_same r t row other q z f g e = sym f.2 ∙ same_row-is (take (key_width s) q) (take (key_width s) z) e ∙ g.2

  one_apart : (r : HierRule) → all_apart (same_key (key_width s)) (points r) ≡ true
  one_apart r =
      ap (all_apart (same_key (key_width s))) (filter_map_drawn (point_at r) all_rows)
      ∙ drawn_apart (IsMadeBy r) same_row (same_key (key_width s))
      (λ row other q z f g e. ap (same_row row) (sym (key_back h.id a set.well_formed row other (left_item r) (left_item r) f.0 g.0 (keys_same r r row other q z f g e))) ∙ same_row-refl row)
      (λ row. option_to_list (point_at r row)) all_rows (at_each r) (once_apart same_row (map (values_in a left) d))

  items_told : (r t : HierRule) (q z : Row) → IsDrawn r q → IsDrawn t z → same_key (key_width s) q z ≡ true → same_name (left_item r) (left_item t) ≡ true
  items_told r t q z f g e =
      ap (same_name (left_item r)) (sym (item_back h.id a set.well_formed f.0 g.0 (left_item r) (left_item t) is.itemized.coded (keys_same r t f.0 g.0 q z f.1 g.1 e))) ∙ same_itself (left_item r)

  pub made_kept : IsDataSet s (made_points p h m i rules operand)
  made_kept =
      let all = definitions rules in
      let drawn = all_each (λ r. AllByRecursion (IsDrawn r) (points r)) are_drawn all in record {
        well_formed = is.well_formed;
        typed = all_flat_map (λ q. is_point (columns_of s) q ≡ true) points all
            (all_more (λ r. AllByRecursion (IsDrawn r) (points r)) (λ r. AllByRecursion (λ q. is_point (columns_of s) q ≡ true) (points r)) (λ r l. all_more (IsDrawn r) (λ q. is_point (columns_of s) q ≡ true) (λ q t. t.1.1) (points r) l) all drawn);
        distinct = each_apart IsDrawn (λ q r. same_name (left_item q) (left_item r)) (same_key (key_width s)) items_told points all drawn (all_each (λ r. all_apart (same_key (key_width s)) (points r) ≡ true) one_apart all) is.apart;
      }

  shown_is_kept : (o : HierOut) → IsDataSet s (shown_points p h m i rules operand o s)
  shown_is_kept out.Computed = made_kept
  shown_is_kept out.All = united_kept s (made_points p h m i rules operand ∷ left_of operand s ∷ []) is.well_formed (made_kept, (shown_kept operand s (is.well_formed, is.no_attributes) is.operand set, tt))

  pub hierarchy_kept : (o : HierOut) (made : List Row) → hierarchy_of p h m i rules operand o s ≡ Ok made → IsDataSet s made
  hierarchy_kept o made e =
      subst (IsDataSet s) (unless_ok (faults_by (λ r. faults_by (made_fault p h m i rules operand r) all_rows) (definitions rules)) (shown_points p h m i rules operand o s) made e).1 (shown_is_kept o)
