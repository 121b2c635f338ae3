-- An aggregate of a data set is `aggr` with a target for each measure.
use Rattle.std.proofs.Common.{◌≡◌, ℕ, Bool, true, false, ◌||◌, cond, List, [], ◌∷◌, ◌++◌, map, Some, None, Option, Ok, refl, sym, ap, ◌∙◌, subst, true≢false}
use Rattle.std.specs.List.{AllByRecursion, filter}
use Rattle.std.specs.Prelude.{option_map}
use Rattle.std.specs.Option.{option_map_or}
use Rattle.std.proofs.lemmas.Slice.Eq.{bytes_eq-Decides}
use Rattle.vtl_lists.proofs.Alls.{all_more}
use Rattle.vtl_cell.specs.Outcome.{fault_in, faults_by, join, unless}
use Rattle.vtl_cell.specs.Row.{Row}
use Rattle.vtl_cell.specs.declared.cell.Cell.TheVariants.{Null}
use Rattle.vtl_cell.specs.declared.operator.AggKind.{AggKind}
use Rattle.vtl_cell.specs.declared.operator.AggKind.TheVariants as agg
use Rattle.vtl_decimal.specs.Settings.{Settings}
use Rattle.vtl_tree.specs.Choices.{chosen}
use Rattle.vtl_tree.specs.Columns.{measures_of, others_of}
use Rattle.vtl_tree.specs.CompExp.{CompExp}
use Rattle.vtl_tree.specs.Environment.{DataSet}
use Rattle.vtl_tree.specs.Measures.{given_measure}
use Rattle.vtl_tree.specs.Names.{is_among}
use Rattle.vtl_tree.specs.Structure.{columns_of, names_of, same_name}
use Rattle.vtl_tree.specs.declared.choices.Choice.TheVariants as choice
use Rattle.vtl_tree.specs.declared.expression.AggCall.{AggCall}
use Rattle.vtl_tree.specs.declared.specifications.AggItems.TheVariants as items
use Rattle.vtl_tree.specs.declared.structure.Component.{Component}
use Rattle.vtl_tree.specs.declared.structure.Structure.{Structure}
use Rattle.vtl_tuples.proofs.Lists.{map-map, map_same}
use Rattle.vtl_meaning.specs.Aggregates.{Condition, Made, aggregate_of, call_for, condition_fault, condition_of, each_group, group_fault, group_point, is_kept, made_of, measure_call, target_named}
use Rattle.vtl_meaning.specs.AggregateShapes.{IsAggregated, made_components, of_measure}
use Rattle.vtl_meaning.specs.GroupExpressions.{aggregated}
use Rattle.vtl_meaning.specs.Groups.{keys_by, places_named, points_with}
use Rattle.vtl_meaning.specs.Points.{cell_or_null}
use Rattle.vtl_aggregate_laws.specs.Targets.{of_all_measures, of_own_targets, own_target, own_targets}
use Rattle.vtl_aggregate_laws.proofs.Evaluated.{faults_same}
use Rattle.vtl_aggregate_laws.proofs.Structures.{IsOther, both, chosen_other, of_others, own_names}

-- ---- groups with values that are the same
each_group_same : (at : Condition) (h : Option CompExp) (m n : Made) (ys : List Component) (keys : List Row) → AllByRecursion (λ y. (key : Row) → m y key ≡ n y key) ys → each_group at h m ys keys ≡ each_group at h n ys keys
each_group_same at h m n ys keys same = λ j. unless (join (faults_by (condition_fault at h) keys) (faults_by (faults j) kept)) (map (points j) kept)
  where
    kept : List Row
    kept = filter (is_kept at h) keys

    faults : group_fault m ys ≡ group_fault n ys
    faults = λ j key. faults_same (λ y. fault_in (m y key)) (λ y. fault_in (n y key)) ys (all_more (λ y. (k : Row) → m y k ≡ n y k) (λ y. fault_in (m y key) ≡ fault_in (n y key)) (λ y e. ap fault_in (e key)) ys same) j

    points : group_point m ys ≡ group_point n ys
    points = λ j key. key ++ map_same (λ y. cell_or_null (m y key)) (λ y. cell_or_null (n y key)) ys (all_more (λ y. (k : Row) → m y k ≡ n y k) (λ y. cell_or_null (m y key) ≡ cell_or_null (n y key)) (λ y e. ap cell_or_null (e key)) ys same) j

-- ---- the aggregate that makes a column
named_target : (f : AggKind) (ys : List Component) (name : List ℕ) → is_among name (names_of ys) ≡ true → option_map (λ t. t.call) (target_named (map (λ y. own_target f y.name) ys) name) ≡ Some (measure_call f name)
named_target f [] name e = absurd (true≢false (sym e))
named_target f (y ∷ ys) name e = go (same_name y.name name) refl e (named_target f ys name)
  where
    go : (b : Bool) → same_name y.name name ≡ b → (b || is_among name (names_of ys)) ≡ true → (is_among name (names_of ys) ≡ true → option_map (λ t. t.call) (target_named (map (λ z. own_target f z.name) ys) name) ≡ Some (measure_call f name))
        → option_map (λ t. t.call) (cond b (Some (own_target f y.name)) (target_named (map (λ z. own_target f z.name) ys) name)) ≡ Some (measure_call f name)
    go true h g ih = ap (λ n. Some (measure_call f n)) ((bytes_eq-Decides y.name name).0 h)
    go false h g ih = ih g

-- the targets are one for each column that the aggregate makes
targets_are : (f : AggKind) (a : Structure) → own_targets f a ≡ map (λ y. own_target f y.name) (made_components (items.Measures f) a.components)
targets_are agg.Count a = refl
targets_are agg.Sum a = sym (map-map (λ y. own_target agg.Sum y.name) (given_measure (of_measure agg.Sum) None) (measures_of a))
targets_are agg.Avg a = sym (map-map (λ y. own_target agg.Avg y.name) (given_measure (of_measure agg.Avg) None) (measures_of a))
targets_are agg.Min a = sym (map-map (λ y. own_target agg.Min y.name) (given_measure (of_measure agg.Min) None) (measures_of a))
targets_are agg.Max a = sym (map-map (λ y. own_target agg.Max y.name) (given_measure (of_measure agg.Max) None) (measures_of a))
targets_are agg.Median a = sym (map-map (λ y. own_target agg.Median y.name) (given_measure (of_measure agg.Median) None) (measures_of a))

module _ (p : Settings) (f : AggKind) (names : List (List ℕ)) (h : Option CompExp) (d : DataSet) (s : Structure) (i : IsAggregated (of_all_measures f names h) d.structure s) where
  abbrev a : Structure
  a = d.structure

  abbrev columns : List Component
  columns = made_components (items.Measures f) a.components

  abbrev IsMade : Component → Type 0
  IsMade y = is_among y.name (names_of columns) ≡ true

  -- the columns of the result behind its identifiers are those that are made
  are_made : AllByRecursion IsMade (others_of s)
  are_made =
      of_others IsMade s
      (subst (AllByRecursion (λ y. IsOther y → IsMade y)) (sym i.shape)
      (both (λ y. IsOther y → IsMade y) (chosen choice.By names a.components) columns (chosen_other IsMade names a.components)
      (all_more IsMade (λ y. IsOther y → IsMade y) (λ y e o. e) columns (own_names columns))))

  same_call : (y : Component) → IsMade y → call_for (items.Targets (own_targets f a)) y.name ≡ call_for (items.Measures f) y.name
  same_call y e = ap (λ ts. option_map (λ t. t.call) (target_named ts y.name)) (targets_are f a) ∙ named_target f columns y.name e

  pub as_targets : aggregate_of p (of_own_targets f a names h) d s ≡ aggregate_of p (of_all_measures f names h) d s
  as_targets =
      let xs = columns_of a in
      let targets = of_own_targets f a names h in
      let measures = of_all_measures f names h in
      each_group_same (condition_of p measures xs d.points) h (made_of p targets xs d.points) (made_of p measures xs d.points) (others_of s) (keys_by (places_named names xs) d.points)
      (all_more IsMade (λ y. (key : Row) → made_of p targets xs d.points y key ≡ made_of p measures xs d.points y key)
      (λ y e key. ap (λ (call : Option AggCall). option_map_or (λ c. aggregated p xs c.kind c.component (points_with (places_named names xs) d.points key)) call (Ok Null)) (same_call y e)) (others_of s) are_made)
