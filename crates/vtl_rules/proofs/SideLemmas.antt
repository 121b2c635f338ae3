-- What a check by hierarchical rules shows at a combination.
use Rattle.std.proofs.Common.{◌≡◌, ℕ, zero, suc, ◌+◌, ◌<◌, ◌≤◌, Bool, true, false, cond, List, [], ◌∷◌, ◌++◌, length, map, take, get_or, Option, Some, None, refl, sym, ap, ◌∙◌, subst, arith, append_assoc}
use Rattle.std.specs.Prelude.{IfSome}
use Rattle.std.specs.List.{AllByRecursion, filter_map, flat_map}
use Rattle.std.specs.Option.{option_and_then}
use Rattle.std.proofs.lemmas.Grind.{flat_map-append}
use Rattle.std.proofs.lemmas.List.{append-nil, take_all, take_more}
use Rattle.vtl_lists.proofs.Alls.{all_append, all_more}
use Rattle.vtl_lists.proofs.Filters.{filter_map-map}
use Rattle.vtl_decimal.specs.Settings.{Settings}
use Rattle.vtl_decimal.specs.declared.number.Fault.{Fault}
use Rattle.vtl_cell.specs.Literals.{integer_written}
use Rattle.vtl_cell.specs.Outcome.{Outcome, fault_in, faults_by, join}
use Rattle.vtl_cell.specs.Row.{Row}
use Rattle.vtl_cell.specs.declared.cell.Cell.{Cell}
use Rattle.vtl_cell.specs.declared.cell.Cell.TheVariants as c
use Rattle.vtl_cell.specs.declared.kind.Kind.{Kind}
use Rattle.vtl_cell.specs.declared.kind.Kind.TheVariants as k
use Rattle.vtl_rows.specs.Tables.{cells_at, fits, fits_kinds}
use Rattle.vtl_rows.specs.declared.column.Column.{Column}
use Rattle.vtl_syntax.specs.declared.statements.HierRule.{HierRule}
use Rattle.vtl_syntax.specs.declared.word_groups.CheckOut.{CheckOut}
use Rattle.vtl_syntax.specs.declared.word_groups.HierInput.TheVariants as input
use Rattle.vtl_syntax.specs.declared.word_groups.Mode.{Mode}
use Rattle.vtl_tree.specs.Checks.{error_measures, output_parts, rule_id, ruleid, with_ids}
use Rattle.vtl_tree.specs.Columns.{identifiers_of, measures_of, others_of}
use Rattle.vtl_tree.specs.DataSet.{IsDataSet, is_point}
use Rattle.vtl_tree.specs.Environment.{DataSet}
use Rattle.vtl_tree.specs.Measures.{bool_var}
use Rattle.vtl_tree.specs.Pairs.{imbalance}
use Rattle.vtl_tree.specs.RuleItems.{left_item, right_items}
use Rattle.vtl_tree.specs.Structure.{columns_of}
use Rattle.vtl_tree.specs.declared.rules.HierRules.{HierRules}
use Rattle.vtl_tree.specs.declared.structure.Component.{Component}
use Rattle.vtl_tree.specs.declared.structure.Structure.{Structure}
use Rattle.vtl_tree.proofs.Faults.{faults_by_more}
use Rattle.vtl_tuples.proofs.Lists.{map-map, map_each}
use Rattle.vtl_sets.specs.TableOf.{table_columns}
use Rattle.vtl_sets.proofs.TableLemmas.{point_fits}
use Rattle.vtl_meaning.specs.Made.{component_kinds}
use Rattle.vtl_meaning.specs.Points.{cell_or_null}
use Rattle.vtl_meaning.specs.Turned.{other_identifiers}
use Rattle.vtl_meaning.proofs.Places.{IsIdentifier, all_of_map, are_identifiers, are_others, columns_split, joined_point_is, point_append, point_of_identifiers}
use Rattle.vtl_meaning.proofs.ValueKinds.{IsOf}
use Rattle.vtl_rulings.specs.HierarchyChecks.{Ruled, SidedRule, check_cells, check_fault, check_point, combinations, is_checked, items_at, key_at, ruled_by, sided_rules}
use Rattle.vtl_rulings.specs.HierarchyShapes.{IsHierarchyChecked}
use Rattle.vtl_rulings.specs.Modes.{Items, counted}
use Rattle.vtl_rulings.specs.Outputs.{code_cell, is_shown, level_cell}
use Rattle.vtl_rulings.specs.Sides.{difference, holds, left_side, right_side, rule_errors, sum_of}
use Rattle.vtl_rulings.proofs.Checked.{code_is, errors_fit, given_or_null, level_is, parts_fit, parts_mapped}
use Rattle.vtl_rulings.proofs.HierarchyKeys.{combinations_typed, items_are, key_is_point}
use Rattle.vtl_rulings.proofs.SideKinds.{difference_is, holds_is, left_is}
use Rattle.vtl_rules.specs.Itemized.{Itemized, combination_at, item_key, itemized_by, numbers_of, source_of, taken_at}
use Rattle.vtl_rules.specs.SideValues.{Sided, checked_at, fault_at, less_between, right_value, sided_fault, sided_of, sided_row, truth_between}
use Rattle.vtl_rules.proofs.ItemLemmas.{combination_wide, combinations_are, faults_by-map, given_is, key_is}

-- ---- rules with their identifiers, by their numbers
abbrev name_of : HierRule → Option (List ℕ)
name_of r = r.name

abbrev pub rule_at : ℕ → HierRule → SidedRule
rule_at i r = (rule_id (i + 1) r.name, r)

ids_length : (n : ℕ) (rules : List HierRule) → length (with_ids name_of n rules) ≡ length rules
ids_length n [] = refl
ids_length n (r ∷ rs) = ap suc (ids_length (suc n) rs)

numbered_at : (n : ℕ) (rules : List HierRule) (i : ℕ) (r : HierRule) (d : SidedRule) → i < length rules → r ≡ get_or rules i r → get_or (with_ids name_of n rules) i d ≡ (rule_id (n + i) r.name, r)
numbered_at n [] i r d h at = absurd (omega (arith, h))
numbered_at n (q ∷ rs) zero r d h at =
    let same : n ≡ n + 0 = omega arith in
    ap (λ (y : HierRule). (rule_id n y.name, y)) (sym at) ∙ ap (λ k. (rule_id k r.name, r)) same
numbered_at n (q ∷ rs) (suc i) r d h at =
    let same : suc n + i ≡ n + suc i = omega arith in
    numbered_at (suc n) rs i r d (omega (arith, h)) at ∙ ap (λ k. (rule_id k r.name, r)) same

module _ (rules : List HierRule) (i : ℕ) (r : HierRule) (h : i < length rules) (at : r ≡ get_or rules i r) where
  within : i < length (sided_rules rules)
  within = let same = ids_length 1 rules in omega (arith, same, h)

  here : get_or (sided_rules rules) i (rule_at i r) ≡ rule_at i r
  here = let same : 1 + i ≡ i + 1 = omega arith in numbered_at 1 rules i r (rule_at i r) h at ∙ ap (λ k. (rule_id k r.name, r)) same

  -- one rule more
  points_more : (g : SidedRule → List Row) → flat_map g (take (i + 1) (sided_rules rules)) ≡ flat_map g (take i (sided_rules rules)) ++ g (rule_at i r)
  points_more g =
      ap (flat_map g) (take_more (sided_rules rules) i (rule_at i r) within) ∙ flat_map-append g (take i (sided_rules rules)) (get_or (sided_rules rules) i (rule_at i r) ∷ [])
      ∙ ap (λ l. flat_map g (take i (sided_rules rules)) ++ l) (append-nil (g (get_or (sided_rules rules) i (rule_at i r)))) ∙ ap (λ y. flat_map g (take i (sided_rules rules)) ++ g y) here

  faults_more : (f : SidedRule → Option Fault) → faults_by f (take (i + 1) (sided_rules rules)) ≡ join (faults_by f (take i (sided_rules rules))) (f (rule_at i r))
  faults_more f = faults_by_more f (sided_rules rules) i (rule_at i r) within ∙ ap (λ y. join (faults_by f (take i (sided_rules rules))) (f y)) here

-- all of them
pub all_sided : (rules : List HierRule) (i : ℕ) → length rules ≤ i → take i (sided_rules rules) ≡ sided_rules rules
all_sided rules i h = let same = ids_length 1 rules in take_all i (sided_rules rules) (omega (arith, same, h))

-- ---- at a combination
module _ (p : Settings) (o : CheckOut) (m : Mode) (rules : HierRules) (a : DataSet) (s : Structure) (is : IsHierarchyChecked o (ruled_by rules a.structure) rules.rules a.structure s) (set : IsDataSet a.structure a.points) where
  abbrev h : Ruled
  h = ruled_by rules a.structure

  abbrev x : Itemized
  x = itemized_by rules.variable a

  abbrev row_at : ℕ → Row
  row_at n = combination_at x n

  abbrev items : ℕ → Items
  items n = items_at h a (row_at n)

  taken_is : (n : ℕ) (item : List ℕ) → taken_at x n (row_at n) (source_of input.Dataset [] item) ≡ items n item
  taken_is n item = given_is rules.variable a h refl refl set.well_formed is.itemized.only (row_at n) item (combination_wide rules.variable a n)

  right_taken : (n : ℕ) (r : HierRule) → map (taken_at x n (row_at n)) (map (source_of input.Dataset []) (right_items r)) ≡ map (items n) (right_items r)
  right_taken n r = map-map (taken_at x n (row_at n)) (source_of input.Dataset []) (right_items r) ∙ map_each (λ item. taken_at x n (row_at n) (source_of input.Dataset [] item)) (items n) (taken_is n) (right_items r)

  right_is : (n : ℕ) (r : HierRule) → right_value p m h.kind r (map (items n) (right_items r)) ≡ right_side p m h.kind (items n) r
  right_is n r = ap (sum_of p h.kind r) (map-map (counted m h.kind) (items n) (right_items r))

  -- the point of a rule
  point_at_is : (rule : SidedRule) (n : ℕ) → checked_at p o m h.kind x (sided_of p rule) n ≡ check_point p o h m a rule (row_at n)
  point_at_is rule n =
      let r = rule.1 in
      let y = sided_of p rule in
      let left = taken_at x n (row_at n) y.left in
      let right = map (taken_at x n (row_at n)) y.right in
      let key = cells_at x.places (item_key (row_at n) (left_item r)) in
      let with_sum : Outcome Cell → Option Row = λ v.
      cond (is_checked m (items n) r)
      (cond (is_shown o (cell_or_null (truth_between p r (left_side m h.kind (items n) r) v)))
      (Some (key_at h.id a.structure (row_at n) (left_item r) ++ (c.Text rule.0 ∷ output_parts o (left_side m h.kind (items n) r ∷ []) (cell_or_null (truth_between p r (left_side m h.kind (items n) r) v)) (cell_or_null (less_between p h.kind (left_side m h.kind (items n) r) v) ∷ rule_errors p r (cell_or_null (truth_between p r (left_side m h.kind (items n) r) v)))))) None) None in
      ap (λ l. sided_row p o m h.kind y l right key) (taken_is n (left_item r))
      ∙ ap (λ l. sided_row p o m h.kind y (items n (left_item r)) l key) (right_taken n r)
      ∙ ap (sided_row p o m h.kind y (items n (left_item r)) (map (items n) (right_items r))) (key_is rules.variable a set.well_formed (row_at n) (left_item r) (combination_wide rules.variable a n))
      ∙ ap with_sum (right_is n r)

  fault_at_is : (rule : SidedRule) (n : ℕ) → fault_at p o m h.kind x (sided_of p rule) n ≡ check_fault p m h.kind (items n) rule.1
  fault_at_is rule n =
      let r = rule.1 in
      let y = sided_of p rule in
      let right = map (taken_at x n (row_at n)) y.right in
      let with_sum : Outcome Cell → Option Fault = λ v. cond (is_checked m (items n) r) (join (fault_in (truth_between p r (left_side m h.kind (items n) r) v)) (fault_in (less_between p h.kind (left_side m h.kind (items n) r) v))) None in
      ap (λ l. sided_fault p o m h.kind y l right) (taken_is n (left_item r))
      ∙ ap (sided_fault p o m h.kind y (items n (left_item r))) (right_taken n r)
      ∙ ap with_sum (right_is n r)

  -- ---- of a rule at all combinations
  abbrev all_rows : List Row
  all_rows = combinations h.id a

  abbrev pub points : SidedRule → List Row
  points rule = filter_map (check_point p o h m a rule) all_rows

  abbrev pub fault : SidedRule → Option Fault
  fault rule = faults_by (λ k. check_fault p m h.kind (items_at h a k) rule.1) all_rows

  points_are : (rule : SidedRule) → filter_map (checked_at p o m h.kind x (sided_of p rule)) (numbers_of x) ≡ points rule
  points_are rule =
      ap (λ (f : ℕ → Option Row). filter_map f (numbers_of x)) (λ j n. point_at_is rule n j) ∙ sym (filter_map-map (check_point p o h m a rule) row_at (numbers_of x))
      ∙ ap (filter_map (check_point p o h m a rule)) (combinations_are rules.variable a)

  faults_are : (rule : SidedRule) → faults_by (fault_at p o m h.kind x (sided_of p rule)) (numbers_of x) ≡ fault rule
  faults_are rule =
      let f : Row → Option Fault = λ k. check_fault p m h.kind (items_at h a k) rule.1 in
      ap (λ (g : ℕ → Option Fault). faults_by g (numbers_of x)) (λ j n. fault_at_is rule n j) ∙ sym (faults_by-map f row_at (numbers_of x)) ∙ ap (faults_by f) (combinations_are rules.variable a)

  -- ---- points fit
  sided_is : (rule : SidedRule) (row vs : Row) → is_point (other_identifiers h.id a.structure) row ≡ true → fits_kinds (component_kinds (others_of s)) vs ≡ true
      → is_point (columns_of s) (key_at h.id a.structure row (left_item rule.1) ++ (c.Text rule.0 ∷ vs)) ≡ true
  sided_is rule row vs t fit =
      let front = key_at h.id a.structure row (left_item rule.1) in
      let key = front ++ c.Text rule.0 ∷ [] in
      let ids = identifiers_of a.structure ++ ruleid ∷ [] in
      let identify : AllByRecursion IsIdentifier ids = all_append IsIdentifier (identifiers_of a.structure) (ruleid ∷ []) (are_identifiers a.structure) (refl, tt) in
      let own = point_of_identifiers ids (identifiers_of s) key identify (are_identifiers s) (sym is.identifiers.1)
      (point_append (identifiers_of a.structure) (ruleid ∷ []) front (c.Text rule.0 ∷ []) (key_is_point h.id a.structure set.well_formed is.itemized.coded row (left_item rule.1) t) refl) in
      subst (λ q. is_point (columns_of s) q ≡ true) (append_assoc front (c.Text rule.0 ∷ []) vs) (joined_point_is s (others_of s) key vs (columns_split s) (are_others s) own fit)

  point_fits_at : (rule : SidedRule) (row : Row) → is_point (other_identifiers h.id a.structure) row ≡ true → IfSome (check_point p o h m a rule row) (λ q. fits (table_columns s) q ≡ true)
  point_fits_at rule row t = go (is_checked m here rule.1) (is_shown o truth)
    where
      here : Items
      here = items_at h a row

      truth : Cell
      truth = cell_or_null (holds p m h.kind here rule.1)

      go : (b b' : Bool) → IfSome (cond b (cond b' (Some (key_at h.id a.structure row (left_item rule.1) ++ (c.Text rule.0 ∷ check_cells p o m h.kind (items_at h a row) rule.1 (cell_or_null (holds p m h.kind (items_at h a row) rule.1))))) None) None) (λ q. fits (table_columns s) q ≡ true)
      go false b' = tt
      go true false = tt
      go true true =
          let n = is.itemized.numeric in
          let are = items_are h a.structure a.points is.itemized set row in
          let now = items_at h a row in
          let value = cell_or_null (holds p m h.kind now rule.1) in
          let less = cell_or_null (difference p m h.kind now rule.1) in
          let errors = rule_errors p rule.1 value in
          let cells = check_cells p o m h.kind now rule.1 value in
          let kinds = component_kinds (imbalance ∷ error_measures) in
          let value_is : IsOf k.Bool value = given_or_null (IsOf k.Bool) (holds p m h.kind now rule.1) refl (holds_is p m h.kind n now are rule.1) in
          let less_is : IsOf k.Num less = given_or_null (IsOf k.Num) (difference p m h.kind now rule.1) refl (difference_is p m h.kind n now are rule.1) in
          let errors_are : fits_kinds (component_kinds error_measures) errors ≡ true = errors_fit (code_cell rule.1.error.code) (level_cell (option_and_then (integer_written p) rule.1.error.level)) value (code_is rule.1.error.code) (level_is (option_and_then (integer_written p) rule.1.error.level)) in
          let measure_is : fits_kinds (h.kind ∷ []) (left_side m h.kind now rule.1 ∷ []) ≡ true = rw (left_is p m h.kind n now are rule.1) refl in
          let rest_is : fits_kinds kinds (less ∷ errors) ≡ true = rw less_is errors_are in
          point_fits (columns_of s) (key_at h.id a.structure row (left_item rule.1) ++ (c.Text rule.0 ∷ cells))
          (sided_is rule row cells t
          (ap (λ ks. fits_kinds ks cells) (is.others ∙ parts_mapped (λ (y : Component). y.kind) o (measures_of a.structure) bool_var (imbalance ∷ error_measures) ∙ ap (λ ks. output_parts o ks k.Bool kinds) is.itemized.only)
          ∙ parts_fit o (h.kind ∷ []) kinds k.Bool (left_side m h.kind now rule.1 ∷ []) (less ∷ errors) value measure_is value_is rest_is))

  rule_fits : (rule : SidedRule) → AllByRecursion (λ n. IfSome (checked_at p o m h.kind x (sided_of p rule) n) (λ q. fits (table_columns s) q ≡ true)) (numbers_of x)
  rule_fits rule =
      let Fits : Option Row → Type 0 = λ q. IfSome q (λ z. fits (table_columns s) z ≡ true) in
      let typed = all_of_map row_at (λ row. is_point (other_identifiers h.id a.structure) row ≡ true) (numbers_of x) (subst (AllByRecursion (λ row. is_point (other_identifiers h.id a.structure) row ≡ true)) (sym (combinations_are rules.variable a)) (combinations_typed h.id a.structure a.points set)) in
      all_more (λ n. is_point (other_identifiers h.id a.structure) (row_at n) ≡ true) (λ n. Fits (checked_at p o m h.kind x (sided_of p rule) n)) (λ n t. subst Fits (sym (point_at_is rule n)) (point_fits_at rule (row_at n) t)) (numbers_of x) typed

  -- ---- a rule of the walk
  -- the written rules are those of the ruleset, the items those of the operand, and a rule is the one of its number
  module _ (written : List HierRule) (i : ℕ) (r : HierRule) (given : Itemized) (kind : Kind) (sided : Sided) (all_written : written ≡ rules.rules) (within : i < length written) (at : r ≡ get_or written i r)
      (is_given : given ≡ x) (is_kind : kind ≡ h.kind) (is_sided : sided ≡ sided_of p (rule_at i r)) where
    abbrev rule : SidedRule
    rule = rule_at i r

    pub next_fits : (columns : List Column) → columns ≡ table_columns s → AllByRecursion (λ n. IfSome (checked_at p o m kind given sided n) (λ q. fits columns q ≡ true)) (numbers_of given)
    next_fits columns e =
        subst (λ cs. AllByRecursion (λ n. IfSome (checked_at p o m kind given sided n) (λ q. fits cs q ≡ true)) (numbers_of given)) (sym e)
        (subst (λ y. AllByRecursion (λ n. IfSome (checked_at p o m kind y sided n) (λ q. fits (table_columns s) q ≡ true)) (numbers_of y)) (sym is_given)
        (subst (λ z. AllByRecursion (λ n. IfSome (checked_at p o m z x sided n) (λ q. fits (table_columns s) q ≡ true)) (numbers_of x)) (sym is_kind)
        (subst (λ y. AllByRecursion (λ n. IfSome (checked_at p o m h.kind x y n) (λ q. fits (table_columns s) q ≡ true)) (numbers_of x)) (sym is_sided) (rule_fits rule))))

    rows_here : filter_map (checked_at p o m kind given sided) (numbers_of given) ≡ points rule
    rows_here =
        ap (λ y. filter_map (checked_at p o m kind y sided) (numbers_of y)) is_given ∙ ap (λ z. filter_map (checked_at p o m z x sided) (numbers_of x)) is_kind
        ∙ ap (λ y. filter_map (checked_at p o m h.kind x y) (numbers_of x)) is_sided ∙ points_are rule

    faults_here : faults_by (fault_at p o m kind given sided) (numbers_of given) ≡ fault rule
    faults_here =
        ap (λ y. faults_by (fault_at p o m kind y sided) (numbers_of y)) is_given ∙ ap (λ z. faults_by (fault_at p o m z x sided) (numbers_of x)) is_kind
        ∙ ap (λ y. faults_by (fault_at p o m h.kind x y) (numbers_of x)) is_sided ∙ faults_are rule

    pub next_rows : (old new : List Row) → old ≡ flat_map points (take i (sided_rules written)) → new ≡ old ++ filter_map (checked_at p o m kind given sided) (numbers_of given) → new ≡ flat_map points (take (i + 1) (sided_rules written))
    next_rows old new e f =
        f ∙ ap (λ l. l ++ filter_map (checked_at p o m kind given sided) (numbers_of given)) e ∙ ap (λ l. flat_map points (take i (sided_rules written)) ++ l) rows_here ∙ sym (points_more written i r within at points)

    pub next_faults : (old new : Option Fault) → old ≡ faults_by fault (take i (sided_rules written)) → new ≡ join old (faults_by (fault_at p o m kind given sided) (numbers_of given)) → new ≡ faults_by fault (take (i + 1) (sided_rules written))
    next_faults old new e f =
        f ∙ ap (λ t. join t (faults_by (fault_at p o m kind given sided) (numbers_of given))) e ∙ ap (join (faults_by fault (take i (sided_rules written)))) faults_here ∙ sym (faults_more written i r within at fault)
