-- `check_hierarchy` and `hierarchy` do not depend on the order of points.
use Rattle.std.proofs.Common.{◌≡◌, ℕ, true, cond, List, [], ◌∷◌, ◌++◌, take, Option, Some, None, refl, sym, ap, ◌∙◌, subst}
use Rattle.std.specs.Prelude.{option_map}
use Rattle.std.specs.List.{filter_map, flat_map}
use Rattle.std.specs.Option.{option_map_or, option_or}
use Rattle.std.proofs.lemmas.Bool.{and_parts}
use Rattle.vtl_decimal.specs.Settings.{Settings}
use Rattle.vtl_decimal.specs.declared.number.Fault.{Fault}
use Rattle.vtl_lists.specs.Perm.{Perm, chain}
use Rattle.vtl_lists.proofs.Perms.{Perm-flat_map_each, Perm-map, Perm-same}
use Rattle.vtl_cell.specs.Order.{same_cell}
use Rattle.vtl_cell.specs.Outcome.{fault_in, faults_by}
use Rattle.vtl_cell.specs.Outcomes.{Same}
use Rattle.vtl_cell.specs.Row.{Row, same_key, same_row}
use Rattle.vtl_cell.specs.declared.cell.Cell.TheVariants as c
use Rattle.vtl_cell.proofs.Cells.{same_cell-is}
use Rattle.vtl_cell.proofs.Rows.{same_row-is, same_row-refl}
use Rattle.vtl_syntax.specs.declared.statements.HierRule.{HierRule}
use Rattle.vtl_syntax.specs.declared.word_groups.CheckOut.{CheckOut}
use Rattle.vtl_syntax.specs.declared.word_groups.HierInput.{HierInput}
use Rattle.vtl_syntax.specs.declared.word_groups.HierOut.{HierOut}
use Rattle.vtl_syntax.specs.declared.word_groups.HierOut.TheVariants as points
use Rattle.vtl_syntax.specs.declared.word_groups.Mode.{Mode}
use Rattle.vtl_tree.specs.Columns.{identifiers_of}
use Rattle.vtl_tree.specs.DataSet.{Distinct, IsDataSet, is_point, look}
use Rattle.vtl_tree.specs.Environment.{DataSet}
use Rattle.vtl_tree.specs.Structure.{columns_of, key_width}
use Rattle.vtl_tree.specs.declared.structure.Structure.{Structure}
use Rattle.vtl_tree.proofs.Faults.{Same_unless, faults_by-Perm}
use Rattle.vtl_tree.proofs.LookUps.{Perm-from_look, look_respects}
use Rattle.vtl_tuples.proofs.Onces.{once_apart}
use Rattle.vtl_meaning.specs.Agreement.{values_in}
use Rattle.vtl_meaning.specs.LookUps.{value_named}
use Rattle.vtl_meaning.specs.Operators.{left_of}
use Rattle.vtl_meaning.specs.Points.{cell_or_null, with_points}
use Rattle.vtl_meaning.specs.Sets.{leftmost, united}
use Rattle.vtl_meaning.specs.Turned.{is_coded, other_identifiers}
use Rattle.vtl_meaning.proofs.JoinAgreements.{only_one}
use Rattle.vtl_meaning.proofs.JoinOrders.{find_respects, once_respects, rows_apart}
use Rattle.vtl_meaning.proofs.Kept.{alike_cells}
use Rattle.vtl_meaning.proofs.Orders.{shown_respects}
use Rattle.vtl_meaning.proofs.Places.{key_cells, key_within}
use Rattle.vtl_meaning.proofs.SetsKept.{shown_kept}
use Rattle.vtl_meaning.proofs.SetsLooks.{united_look}
use Rattle.vtl_meaning.proofs.TurnedKept.{others_are}
use Rattle.vtl_meaning.proofs.TurnedOrders.{alike_others}
use Rattle.vtl_rulings.specs.Hierarchies.{computed, hierarchy_of, items_of, made_at, made_fault, made_point, made_points, shown_points}
use Rattle.vtl_rulings.specs.HierarchyChecks.{Ruled, SidedRule, check_cells, check_fault, check_hierarchy_of, check_point, combinations, is_checked, items_at, key_at, sided_rules}
use Rattle.vtl_rulings.specs.HierarchyShapes.{IsHierarchyMade}
use Rattle.vtl_rulings.specs.Modes.{Items}
use Rattle.vtl_rulings.specs.Outputs.{is_shown}
use Rattle.vtl_rulings.specs.Sides.{holds}
use Rattle.vtl_tree.specs.RuleItems.{definitions, left_item}
use Rattle.vtl_rulings.proofs.HierarchiesMade.{made_kept}
use Rattle.vtl_rulings.proofs.Orders.{Perm-filter_map, faults_each}

-- what is made of combinations one by one, the same of each
filter_map_both : (f g : Row → Option Row) → ((k : Row) → f k ≡ g k) → (xs ys : List Row) → Perm xs ys → Perm (filter_map f xs) (filter_map g ys)
filter_map_both f g h xs ys same = chain (Perm-same _ _ (ap (λ q. filter_map q xs) (λ i. λ k. h k i))) (Perm-filter_map g xs ys same)

faults_both : (f g : Row → Option Fault) → ((k : Row) → f k ≡ g k) → (xs ys : List Row) → Perm xs ys → faults_by f xs ≡ faults_by g ys
faults_both f g h xs ys same = faults_each f g h xs ∙ faults_by-Perm g same

-- the points of two lists, each of which has its identifiers once
united_respects : (n : ℕ) (d t e f : List Row) → Perm d t → Perm e f → Distinct n d → Distinct n e → Perm (united n (d ∷ e ∷ [])) (united n (t ∷ f ∷ []))
united_respects n d t e f p q apart other =
    let old = d ∷ e ∷ [] in
    let new = t ∷ f ∷ [] in
    Perm-from_look n (united n old) (united n new) (once_apart (same_key n) (flat_map (λ l. l) old)) (once_apart (same_key n) (flat_map (λ l. l) new))
    (λ k. united_look n old k ∙ ap (λ o. option_or o (leftmost n (e ∷ []) k)) (look_respects n k p apart) ∙ ap (λ o. option_or (look n t k) (option_or o None)) (look_respects n k q other) ∙ sym (united_look n new k))

module _ (h : Ruled) (a : Structure) (d e : List Row) (set : IsDataSet a d) (same : Perm d e) where
  -- a point of a data set is one for its item and the values of the other identifiers
  one_key : (k : Row) (item : List ℕ) (r t : Row) → is_point (columns_of a) r ≡ true → is_point (columns_of a) t ≡ true → is_coded a h.id k item r ≡ true → is_coded a h.id k item t ≡ true → same_key (key_width a) r t ≡ true
  one_key k item r t i j f g =
      let ids = other_identifiers h.id a in
      let left = and_parts (same_row (values_in a ids r) k) (same_cell (value_named (columns_of a) r h.id) (c.Text item)) f in
      let right = and_parts (same_row (values_in a ids t) k) (same_cell (value_named (columns_of a) t h.id) (c.Text item)) g in
      let others : values_in a ids r ≡ values_in a ids t = same_row-is (values_in a ids r) k left.0 ∙ sym (same_row-is (values_in a ids t) k right.0) in
      let one : value_named (columns_of a) r h.id ≡ value_named (columns_of a) t h.id = same_cell-is (value_named (columns_of a) r h.id) (c.Text item) left.1 ∙ sym (same_cell-is (value_named (columns_of a) t h.id) (c.Text item) right.1) in
      let all = alike_others h.id (columns_of a) r t (identifiers_of a) one (subst (λ ys. values_in a ys r ≡ values_in a ys t) (others_are h.id a.components) others) in
      let keys : take (key_width a) r ≡ take (key_width a) t = sym (key_cells a a r set.well_formed (refl, refl) (key_within a r i)) ∙ alike_cells (columns_of a) r t (identifiers_of a) all ∙ key_cells a a t set.well_formed (refl, refl) (key_within a t j) in
      ap (same_row (take (key_width a) r)) (sym keys) ∙ same_row-refl (take (key_width a) r)

  abbrev old : DataSet
  old = with_points a d

  abbrev new : DataSet
  new = with_points a e

  item_respects : (k : Row) (item : List ℕ) → items_at h old k item ≡ items_at h new k item
  item_respects k item =
      ap (option_map (λ r. value_named (columns_of a) r h.measure))
      (find_respects (is_coded a h.id k item) d e same (only_one (λ r. is_point (columns_of a) r ≡ true) (same_key (key_width a)) (is_coded a h.id k item) d set.typed set.distinct (one_key k item)))

  combinations_respect : Perm (combinations h.id old) (combinations h.id new)
  combinations_respect = once_respects same_row rows_apart (Perm-map (values_in a (other_identifiers h.id a)) same)

  items_respect : (k : Row) → items_at h old k ≡ items_at h new k
  items_respect k = λ i. λ item. item_respects k item i

  module _ (p : Settings) (m : Mode) where
    -- what a rule gives of the items at a combination
    abbrev point_by : CheckOut → SidedRule → Row → Items → Option Row
    point_by o rule k items =
        let truth = cell_or_null (holds p m h.kind items rule.1) in
        cond (is_checked m items rule.1) (cond (is_shown o truth) (Some (key_at h.id a k (left_item rule.1) ++ (c.Text rule.0 ∷ check_cells p o m h.kind items rule.1 truth))) None) None

    abbrev fault_at : DataSet → SidedRule → Row → Option Fault
    fault_at s rule k = check_fault p m h.kind (items_at h s k) rule.1

    pub check_respects : (o : CheckOut) (rules : List HierRule) → Same (check_hierarchy_of p o h m old rules) (check_hierarchy_of p o h m new rules)
    check_respects o rules =
        let all = sided_rules rules in
        let before : SidedRule → Option Fault = λ rule. faults_by (fault_at old rule) (combinations h.id old) in
        let behind : SidedRule → Option Fault = λ rule. faults_by (fault_at new rule) (combinations h.id new) in
        let left : SidedRule → List Row = λ rule. filter_map (check_point p o h m old rule) (combinations h.id old) in
        let right : SidedRule → List Row = λ rule. filter_map (check_point p o h m new rule) (combinations h.id new) in
        Same_unless (faults_by before all) (faults_by behind all) (flat_map left all) (flat_map right all)
        (faults_each before behind (λ rule. faults_both (fault_at old rule) (fault_at new rule) (λ k. ap (λ items. check_fault p m h.kind items rule.1) (items_respect k)) (combinations h.id old) (combinations h.id new) combinations_respect) all)
        (Perm-flat_map_each left right (λ rule. filter_map_both (check_point p o h m old rule) (check_point p o h m new rule) (λ k. ap (point_by o rule k) (items_respect k)) (combinations h.id old) (combinations h.id new) combinations_respect) all)

    -- for every input
    module _ (i : HierInput) (rules : List HierRule) where
      made_respects : (r : HierRule) (k : Row) → made_at p h m i rules old r k ≡ made_at p h m i rules new r k
      made_respects r k = ap (λ given. computed p m h.kind (items_of p m h.kind i (definitions rules) given) r) (items_respect k)

      abbrev faults_of : DataSet → HierRule → Option Fault
      faults_of s r = faults_by (made_fault p h m i rules s r) (combinations h.id s)

      abbrev points_of : DataSet → HierRule → List Row
      points_of s r = filter_map (made_point p h m i rules s r) (combinations h.id s)

      faults_respect : faults_by (faults_of old) (definitions rules) ≡ faults_by (faults_of new) (definitions rules)
      faults_respect =
          faults_each (faults_of old) (faults_of new)
          (λ r. faults_both (made_fault p h m i rules old r) (made_fault p h m i rules new r) (λ k. ap (λ v. option_map_or fault_in v None) (made_respects r k)) (combinations h.id old) (combinations h.id new) combinations_respect) (definitions rules)

      points_respect : Perm (made_points p h m i rules old) (made_points p h m i rules new)
      points_respect =
          Perm-flat_map_each (points_of old) (points_of new)
          (λ r. filter_map_both (made_point p h m i rules old r) (made_point p h m i rules new r) (λ k. ap (option_map (λ v. key_at h.id a k (left_item r) ++ (cell_or_null v ∷ []))) (made_respects r k)) (combinations h.id old) (combinations h.id new) combinations_respect) (definitions rules)

      abbrev fault_of : DataSet → Option Fault
      fault_of s = faults_by (faults_of s) (definitions rules)

      pub hierarchy_respects : (s : Structure) → Same (hierarchy_of p h m i rules old points.Computed s) (hierarchy_of p h m i rules new points.Computed s)
      hierarchy_respects s = Same_unless (fault_of old) (fault_of new) (made_points p h m i rules old) (made_points p h m i rules new) faults_respect points_respect

      -- with the operand's other points
      pub all_respect : (s : Structure) → IsHierarchyMade h rules a s → Same (hierarchy_of p h m i rules old points.All s) (hierarchy_of p h m i rules new points.All s)
      all_respect s is =
          Same_unless (fault_of old) (fault_of new) (shown_points p h m i rules old points.All s) (shown_points p h m i rules new points.All s) faults_respect
          (united_respects (key_width s) (made_points p h m i rules old) (made_points p h m i rules new) (left_of old s) (left_of new s) points_respect (shown_respects (columns_of a) (columns_of s) d e same)
          (made_kept p h m i rules a s d is set).distinct (shown_kept old s (is.well_formed, is.no_attributes) is.operand set).distinct)

      pub output_respects : (o : HierOut) (s : Structure) → IsHierarchyMade h rules a s → Same (hierarchy_of p h m i rules old o s) (hierarchy_of p h m i rules new o s)
      output_respects points.Computed s is = hierarchy_respects s
      output_respects points.All s is = all_respect s is
