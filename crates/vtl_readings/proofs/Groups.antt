-- An aggregate by its groups is the one by its keys.
use Rattle.std.proofs.Common.{◌≡◌, true, List, ◌++◌, map, Option, Some, None, Ok, refl, ap, ◌∙◌}
use Rattle.std.specs.List.{filter, flat_map}
use Rattle.std.specs.Option.{option_map_or}
use Rattle.vtl_decimal.specs.Settings.{Settings}
use Rattle.vtl_cell.specs.Outcome.{Outcome, fault_in, faults_by, join, unless}
use Rattle.vtl_cell.specs.Outcomes.{is_true}
use Rattle.vtl_cell.specs.Row.{Row}
use Rattle.vtl_cell.specs.declared.cell.Cell.{Cell}
use Rattle.vtl_cell.specs.declared.cell.Cell.TheVariants as c
use Rattle.vtl_tree.specs.CompExp.{CompExp}
use Rattle.vtl_tree.specs.Environment.{DataSet}
use Rattle.vtl_tree.specs.Structure.{columns_of}
use Rattle.vtl_tree.specs.Trees.{AggTree}
use Rattle.vtl_tree.specs.declared.structure.Structure.{Structure}
use Rattle.vtl_tree.specs.Columns.{others_of}
use Rattle.vtl_tree.proofs.Faults.{faults_by-append}
use Rattle.vtl_tuples.proofs.Lists.{filter-map, filter_each, map-map, map_each}
use Rattle.vtl_meaning.specs.Aggregates.{Condition, Made, aggregate_of, condition_fault, condition_of, group_fault, is_kept, made_of}
use Rattle.vtl_meaning.specs.Points.{cell_or_null}
use Rattle.vtl_meaning.specs.Aggregates as keyed
use Rattle.vtl_meaning.specs.Groups.{keys_by, places_named}
use Rattle.vtl_rulings.proofs.Orders.{faults_each}
use Rattle.vtl_readings.specs.Aggregates.{Group, aggregate_points, aggregates_at, condition_at, group_of, group_point, groups_of, kept_groups, values_asked}
use Rattle.vtl_readings.specs.Faults.{worst}
use Rattle.vtl_readings.proofs.Faults.{faults_flat, faults_map, worst_is}

-- ---- a condition that is not written is true at each group
kept_same : (at : Condition) (having : Option CompExp) (key : Row) → is_true (option_map_or (λ e. at e key) having (Ok (c.Bool true))) ≡ is_kept at having key
kept_same at None key = refl
kept_same at (Some e) key = refl

fault_same : (at : Condition) (having : Option CompExp) (key : Row) → fault_in (option_map_or (λ e. at e key) having (Ok (c.Bool true))) ≡ condition_fault at having key
fault_same at None key = refl
fault_same at (Some e) key = refl

-- ---- data sets
pub by_groups : (p : Settings) (spec : AggTree) (d : DataSet) (s : Structure) → aggregate_points p spec d s ≡ aggregate_of p spec d s
by_groups p spec d s =
    ap (λ o. unless o (map (group_point p spec d s) (kept_groups p spec d))) faults
    ∙ ap (unless (join (faults_by (condition_fault at spec.having) keys) (faults_by (group_fault made (others_of s)) kept))) points
  where
    at : Condition
    at = condition_of p spec (columns_of d.structure) d.points

    made : Made
    made = made_of p spec (columns_of d.structure) d.points

    keys : List Row
    keys = keys_by (places_named spec.grouping (columns_of d.structure)) d.points

    kept : List Row
    kept = filter (is_kept at spec.having) keys

    group : Row → Group
    group = group_of spec d

    asked : Group → Outcome Cell
    asked = condition_at p spec d

    values : Group → List (Outcome Cell)
    values = aggregates_at p spec d s

    kept_is : kept_groups p spec d ≡ map group kept
    kept_is = filter-map (λ g. is_true (asked g)) group keys ∙ ap (map group) (filter_each (λ key. is_true (asked (group key))) (is_kept at spec.having) (λ key. kept_same at spec.having key) keys)

    conditions : faults_by fault_in (map asked (groups_of spec d)) ≡ faults_by (condition_fault at spec.having) keys
    conditions =
        faults_map fault_in asked (groups_of spec d)
        ∙ faults_map (λ g. fault_in (asked g)) group keys
        ∙ faults_each (λ key. fault_in (asked (group key))) (condition_fault at spec.having) (λ key. fault_same at spec.having key) keys

    aggregates : faults_by fault_in (flat_map values (kept_groups p spec d)) ≡ faults_by (group_fault made (others_of s)) kept
    aggregates =
        faults_flat fault_in values (kept_groups p spec d)
        ∙ ap (faults_by (λ g. faults_by fault_in (values g))) kept_is
        ∙ faults_map (λ g. faults_by fault_in (values g)) group kept
        ∙ faults_each (λ key. faults_by fault_in (values (group key))) (group_fault made (others_of s)) (λ key. faults_map fault_in (λ y. made y key) (others_of s)) kept

    faults : worst (values_asked p spec d s) ≡ join (faults_by (condition_fault at spec.having) keys) (faults_by (group_fault made (others_of s)) kept)
    faults =
        worst_is (values_asked p spec d s)
        ∙ faults_by-append fault_in (map asked (groups_of spec d)) (flat_map values (kept_groups p spec d))
        ∙ ap (λ o. join o (faults_by fault_in (flat_map values (kept_groups p spec d)))) conditions
        ∙ ap (join (faults_by (condition_fault at spec.having) keys)) aggregates

    points : map (group_point p spec d s) (kept_groups p spec d) ≡ map (keyed.group_point made (others_of s)) kept
    points =
        ap (map (group_point p spec d s)) kept_is
        ∙ map-map (group_point p spec d s) group kept
        ∙ map_each (λ key. group_point p spec d s (group key)) (keyed.group_point made (others_of s)) (λ key. ap (λ cells. key ++ cells) (map-map cell_or_null (λ y. made y key) (others_of s))) kept
