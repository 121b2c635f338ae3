-- What is made of a group with places in place of names is what is meant.
use Rattle.std.proofs.Common.{◌≡◌, ℕ, ◌+◌, Bool, true, false, not, cond, List, [], ◌∷◌, ◌++◌, map, Option, None, Some, Ok, Err, refl, sym, ap, ◌∙◌}
use Rattle.std.specs.Option.{option_map_or}
use Rattle.vtl_cell.specs.Groups.{group_value}
use Rattle.vtl_decimal.specs.declared.number.Fault.{Fault}
use Rattle.vtl_cell.specs.Outcome.{Outcome, after, fault_in, faults_by, join}
use Rattle.vtl_cell.specs.Outcomes.{is_true}
use Rattle.vtl_cell.specs.Row.{Row, column_of}
use Rattle.vtl_decimal.specs.Settings.{Settings}
use Rattle.vtl_cell.specs.declared.cell.Cell.{Cell}
use Rattle.vtl_cell.specs.declared.cell.Cell.TheVariants as c
use Rattle.vtl_cell.specs.declared.operator.AggKind.{AggKind}
use Rattle.vtl_rows.specs.declared.column.Column.{Column}
use Rattle.vtl_tree.specs.CompExp.{CompExp}
use Rattle.vtl_tree.specs.Structure.{same_name}
use Rattle.vtl_tree.specs.declared.expression.AggCall.{AggCall}
use Rattle.vtl_tree.specs.declared.structure.Component.{Component}
use Rattle.vtl_tree.specs.Trees.{AggTree}
use Rattle.vtl_tree.specs.declared.specifications.AggItems.{AggItems}
use Rattle.vtl_tree.specs.Columns.{place_of}
use Rattle.vtl_sets.specs.TableOf.{column_for}
use Rattle.vtl_meaning.specs.Aggregates.{call_for, condition_fault, condition_of, group_fault, group_point, is_kept, made_of, made_value}
use Rattle.vtl_meaning.specs.Points.{cell_or_null}
use Rattle.vtl_meaning.specs.GroupExpressions.{aggregated, grouped_cell, value_at_group, value_over}
use Rattle.vtl_meaning.specs.Groups.{keys_by, places_named, points_with}
use Rattle.vtl_group.specs.Calls.{call_value, column_place, placed, placed_call, placed_for}
use Rattle.vtl_group.specs.declared.calls.Call.{Call}
use Rattle.vtl_group.specs.declared.calls.Call.TheVariants as call
use Rattle.vtl_group.specs.Points.{Group, called_in, fault_for, faults_of_calls, passes, row_for, tested, value_in, values_of_calls}

abbrev pub columns_for : List Component → List Column
columns_for xs = map column_for xs

pub place_is : (name : List ℕ) (xs : List Component) → column_place name (columns_for xs) ≡ place_of name xs
place_is name [] = refl
place_is name (x ∷ xs) = ap (λ n. cond (not (same_name x.name name)) (1 + n) 0) (place_is name xs)

pub places_are : (xs : List Component) (names : List (List ℕ)) → map (λ name. column_place name (columns_for xs)) names ≡ places_named names xs
places_are xs [] = refl
places_are xs (name ∷ names) = λ i. place_is name xs i ∷ places_are xs names i

-- ---- at a group of these points
module _ (p : Settings) (xs : List Component) (points : List Row) where
  call_is : (kind : AggKind) (component : Option (List ℕ)) → call_value p (placed (columns_for xs) kind component) points ≡ aggregated p xs kind component points
  call_is kind None = refl
  call_is kind (Some name) = ap (λ n. group_value p kind (map (column_of n) points)) (place_is name xs)

  abbrev meant : AggCall → Outcome Cell
  meant a = aggregated p xs a.kind a.component points

  abbrev found : AggCall → Outcome Cell
  found a = call_value p (placed_call (columns_for xs) a) points

  calls_are : found ≡ meant
  calls_are = λ i a. call_is a.kind a.component i

  made_is : (items : AggItems) (y : Component) → call_value p (placed_for (columns_for xs) items y.name) points ≡ made_value p xs items y points
  made_is items y = go (call_for items y.name)
    where
      go : (o : Option AggCall) → call_value p (option_map_or (placed_call (columns_for xs)) o call.Nothing) points ≡ option_map_or meant o (Ok c.Null)
      go None = refl
      go (Some a) = call_is a.kind a.component

-- ---- the group of a key
module _ (p : Settings) (spec : AggTree) (xs ys : List Component) (points : List Row) where
  abbrev pub at_key : Row → Group
  at_key key = record { names = spec.grouping; key = key; columns = columns_for xs; points = points_with (places_named spec.grouping xs) points key }

  abbrev members : Row → List Row
  members key = points_with (places_named spec.grouping xs) points key

  condition_is : (e : CompExp) (key : Row) → value_in p (at_key key) e ≡ condition_of p spec xs points e key
  condition_is e key = ap (λ f. value_over p (grouped_cell spec.grouping key) f e) (calls_are p xs (members key))

  abbrev truth_of : Outcome Cell → Outcome Bool
  truth_of m = after m (λ v. Ok (is_true (Ok v)))

  passes_is : (m : Outcome Cell) → passes (truth_of m) ≡ is_true m
  passes_is (Ok v) = refl
  passes_is (Err f) = refl

  fault_is : (m : Outcome Cell) → fault_in (truth_of m) ≡ fault_in m
  fault_is (Ok v) = refl
  fault_is (Err f) = refl

  pub kept_is : (having : Option CompExp) (key : Row) → passes (tested p (at_key key) having) ≡ is_kept (condition_of p spec xs points) having key
  kept_is None key = refl
  kept_is (Some e) key = ap (λ m. passes (truth_of m)) (condition_is e key) ∙ passes_is (condition_of p spec xs points e key)

  having_is : (having : Option CompExp) (key : Row) → fault_in (tested p (at_key key) having) ≡ condition_fault (condition_of p spec xs points) having key
  having_is None key = refl
  having_is (Some e) key = ap (λ m. fault_in (truth_of m)) (condition_is e key) ∙ fault_is (condition_of p spec xs points e key)

  abbrev pub calls : List Component → List Call
  calls zs = map (λ y. placed_for (columns_for xs) spec.items y.name) zs

  values_are : (key : Row) (zs : List Component) → values_of_calls p (calls zs) (members key) ≡ map (λ y. cell_or_null (made_of p spec xs points y key)) zs
  values_are key [] = refl
  values_are key (y ∷ zs) = λ i. cell_or_null (made_is p xs (members key) spec.items y i) ∷ values_are key zs i

  faults_are : (key : Row) (zs : List Component) → faults_of_calls p (calls zs) (members key) ≡ group_fault (made_of p spec xs points) zs key
  faults_are key [] = refl
  faults_are key (y ∷ zs) = λ i. join (fault_in (made_is p xs (members key) spec.items y i)) (faults_are key zs i)

  pub row_is : (key : Row) → row_for p (calls ys) (at_key key) ≡ group_point (made_of p spec xs points) ys key
  row_is key = ap (λ vs. key ++ vs) (values_are key ys)

  -- the fault at a key
  abbrev pub fault_at : Row → Option Fault
  fault_at key = join (condition_fault (condition_of p spec xs points) spec.having key) (cond (is_kept (condition_of p spec xs points) spec.having key) (group_fault (made_of p spec xs points) ys key) None)

  pub fault_at_is : (key : Row) → fault_for p spec.having (calls ys) (at_key key) ≡ fault_at key
  fault_at_is key = λ i. join (having_is spec.having key i) (cond (kept_is spec.having key i) (faults_are key ys i) None)

  -- the keys, which of them are kept, and the point of each
  abbrev pub keys : List Row
  keys = keys_by (places_named spec.grouping xs) points

  abbrev pub kept : Row → Bool
  kept = is_kept (condition_of p spec xs points) spec.having

  abbrev pub point : Row → Row
  point = group_point (made_of p spec xs points) ys
