-- The computed points of a hierarchy, rule by rule and combination by combination: they are those of the left items.
use Rattle.std.proofs.Common.{◌≡◌, ◌≤◌, true, List, [], ◌∷◌, ◌++◌, length, length-append, take, Option, Some, None, Ok, sym, subst, arith}
use Rattle.std.specs.Prelude.{option_map}
use Rattle.std.specs.List.{AllByRecursion, Contains, filter_map}
use Rattle.std.specs.Option.{option_to_list}
use Rattle.std.proofs.lemmas.List.Elements.{All-contains_itself, recursion_from_All}
use Rattle.vtl_lists.proofs.Alls.{all_both, all_filtered, all_flat_map, all_more}
use Rattle.vtl_decimal.specs.Settings.{Settings}
use Rattle.vtl_cell.specs.Outcome.{Outcome, faults_by}
use Rattle.vtl_cell.specs.Row.{Row}
use Rattle.vtl_cell.specs.declared.cell.Cell.{Cell}
use Rattle.vtl_syntax.specs.declared.statements.HierRule.{HierRule}
use Rattle.vtl_syntax.specs.declared.word_groups.HierInput.{HierInput}
use Rattle.vtl_syntax.specs.declared.word_groups.HierOut.TheVariants as out
use Rattle.vtl_syntax.specs.declared.word_groups.Mode.{Mode}
use Rattle.vtl_tree.specs.Columns.{identifiers_of}
use Rattle.vtl_tree.specs.DataSet.{IsDataSet, is_point}
use Rattle.vtl_tree.specs.Environment.{DataSet}
use Rattle.vtl_tree.specs.RuleItems.{definitions, is_equation, left_item}
use Rattle.vtl_tree.specs.Structure.{key_width}
use Rattle.vtl_tree.specs.declared.structure.Structure.{Structure}
use Rattle.vtl_meaning.specs.Points.{cell_or_null, with_points}
use Rattle.vtl_meaning.specs.Turned.{other_identifiers}
use Rattle.vtl_meaning.proofs.Kept.{unless_ok}
use Rattle.vtl_meaning.proofs.Places.{key_for, key_of_joined, point_length}
use Rattle.vtl_meaning.proofs.TurnedKept.{filter_map_drawn}
use Rattle.vtl_rulings.specs.Hierarchies.{hierarchy_of, made_at, made_fault, made_point, made_points}
use Rattle.vtl_rulings.specs.HierarchyChecks.{Ruled, combinations, key_at}
use Rattle.vtl_rulings.specs.HierarchyShapes.{IsHierarchyMade}
use Rattle.vtl_rulings.proofs.HierarchyKeys.{combinations_typed, key_is_point}
use Rattle.vtl_readings.specs.Hierarchies.{IsOfLeftItem}
use Rattle.vtl_readings.proofs.ItemKeys.{item_read, row_read}

contained : {X : Type 0} (xs : List X) → AllByRecursion (Contains xs) xs
contained xs = recursion_from_All (Contains xs) xs (All-contains_itself xs)

module _ (h : Ruled) (rules : List HierRule) (a : Structure) (d : List Row) (set : IsDataSet a d) where
  abbrev operand : DataSet
  operand = with_points a d

  abbrev all_rows : List Row
  all_rows = combinations h.id operand

  abbrev equations : List HierRule
  equations = definitions rules

  -- a combination that the operand has, and a rule with `=`
  abbrev pub IsRow : Row → Type 0
  IsRow row = Contains all_rows row × (is_point (other_identifiers h.id a) row ≡ true)

  abbrev pub IsRule : HierRule → Type 0
  IsRule r = Contains equations r × (is_equation r ≡ true)

  pub are_rows : AllByRecursion IsRow all_rows
  are_rows = all_both (Contains all_rows) (λ row. is_point (other_identifiers h.id a) row ≡ true) IsRow (λ row f g. (f, g)) all_rows (contained all_rows) (combinations_typed h.id a d set)

  pub are_rules : AllByRecursion IsRule equations
  are_rules = all_both (Contains equations) (λ r. is_equation r ≡ true) IsRule (λ r f g. (f, g)) equations (contained equations) (all_filtered is_equation rules)

  module _ (p : Settings) (m : Mode) (i : HierInput) where
    abbrev point_at : HierRule → Row → Option Row
    point_at r row = made_point p h m i rules operand r row

    -- what holds of what each rule makes at each combination holds of all
    pub made_hold : (P : Row → Type 0) → ((r : HierRule) (row : Row) → IsRule r → IsRow row → AllByRecursion P (option_to_list (point_at r row))) → AllByRecursion P (made_points p h m i rules operand)
    made_hold P f =
        all_flat_map P (λ r. filter_map (point_at r) all_rows) equations
        (all_more IsRule (λ r. AllByRecursion P (filter_map (point_at r) all_rows))
        (λ r g. subst (AllByRecursion P) (sym (filter_map_drawn (point_at r) all_rows)) (all_flat_map P (λ row. option_to_list (point_at r row)) all_rows (all_more IsRow (λ row. AllByRecursion P (option_to_list (point_at r row))) (λ row t. f r row g t) all_rows are_rows)))
        equations are_rules)

  module _ (s : Structure) (is : IsHierarchyMade h rules a s) where
    -- the identifiers of an item's point stand first
    pub key_stands : (r : HierRule) (row : Row) (v : Cell) → IsRow row → (key_width s ≤ length (key_at h.id a row (left_item r) ++ v ∷ [])) × (take (key_width s) (key_at h.id a row (left_item r) ++ v ∷ []) ≡ key_at h.id a row (left_item r))
    key_stands r row v t =
        let key = key_at h.id a row (left_item r) in
        let own = key_for s a key is.identifiers (key_is_point h.id a set.well_formed is.itemized.coded row (left_item r) t.1) in
        let size = point_length (identifiers_of s) key own in
        let more = length-append key (v ∷ []) in
        (omega (arith, size, more), key_of_joined s key (v ∷ []) own)

    of_left_item : (r : HierRule) (row : Row) (v : Cell) → IsRule r → IsRow row → IsOfLeftItem h rules operand s (key_at h.id a row (left_item r) ++ v ∷ [])
    of_left_item r row v g t =
        let q = key_at h.id a row (left_item r) ++ v ∷ [] in
        let key = key_stands r row v t in record {
          rule = r;
          defining = g.0;
          item = item_read h.id a set.well_formed s is.well_formed is.identifiers row (left_item r) q key.0 key.1 is.itemized.coded;
          combination = subst (Contains all_rows) (sym (row_read h.id a set.well_formed s is.well_formed is.identifiers row (left_item r) q key.0 key.1 t.1)) t.0;
        }

    pub left_items : (p : Settings) (m : Mode) (i : HierInput) (made : List Row) → hierarchy_of p h m i rules operand out.Computed s ≡ Ok made → AllByRecursion (IsOfLeftItem h rules operand s) made
    left_items p m i made e =
        subst (AllByRecursion (IsOfLeftItem h rules operand s)) (unless_ok (faults_by (λ r. faults_by (made_fault p h m i rules operand r) all_rows) equations) (made_points p h m i rules operand) made e).1
        (made_hold p m i (IsOfLeftItem h rules operand s) (λ r row g t. from (made_at p h m i rules operand r row) r row g t))
      where
        from : (v : Option (Outcome Cell)) (r : HierRule) (row : Row) → IsRule r → IsRow row → AllByRecursion (IsOfLeftItem h rules operand s) (option_to_list (option_map (λ w. key_at h.id a row (left_item r) ++ (cell_or_null w ∷ [])) v))
        from None r row g t = tt
        from (Some w) r row g t = (of_left_item r row (cell_or_null w) g t, tt)
