-- A window in the points of one frequency gives at each of them the total up to it, or the value before it; and the results for all frequencies.
use Rattle.std.proofs.Common.{◌≡◌, ℕ, ◌+◌, Bool, true, false, List, [], ◌∷◌, ◌++◌, map, take, Ok, Option, Some, None, refl, sym, ap, ◌∙◌}
use Rattle.std.specs.Prelude.{if◌then◌else◌}
use Rattle.std.specs.List.{AllByRecursion, flat_map, list_any}
use Rattle.std.specs.Option.{option_map_or}
use Rattle.std.proofs.lemmas.List.{map-append}
use Rattle.vtl_lists.proofs.Perms.{Perm-map, Perm-sym}
use Rattle.vtl_lists.proofs.Alls.{all_kept}
use Rattle.vtl_cell.specs.Conversion.{as_kind}
use Rattle.vtl_cell.specs.Frames.{frame_of, lag_of}
use Rattle.vtl_cell.specs.Groups.{group_value}
use Rattle.vtl_cell.specs.Outcome.{Outcome, after, fault_in, faults_by, join, unless}
use Rattle.vtl_cell.specs.Row.{Row, column_of, same_row}
use Rattle.vtl_cell.specs.declared.cell.Cell.{Cell}
use Rattle.vtl_cell.specs.declared.operator.AggKind.TheVariants as agg
use Rattle.vtl_cell.proofs.Aggregates.{group-Perm}
use Rattle.vtl_decimal.specs.Settings.{Settings}
use Rattle.vtl_decimal.specs.declared.number.Fault.{Fault}
use Rattle.vtl_series.specs.Series.{frequencies}
use Rattle.vtl_time.specs.declared.periods.Frequency.{Frequency}
use Rattle.vtl_tree.specs.Columns.{place_of}
use Rattle.vtl_tree.specs.DataSet.{IsDataSet}
use Rattle.vtl_tree.specs.Environment.{DataSet}
use Rattle.vtl_tree.specs.Measures.{is_measure}
use Rattle.vtl_tree.specs.Structure.{IsStructure, columns_of}
use Rattle.vtl_tree.specs.Trees as nodes
use Rattle.vtl_tree.specs.declared.calls.AnalyticCall.{AnalyticCall}
use Rattle.vtl_tree.specs.declared.calls.AnalyticOp.{AnalyticOp}
use Rattle.vtl_tree.specs.declared.calls.AnalyticOp.TheVariants as op
use Rattle.vtl_tree.specs.declared.calls.Window.{Window}
use Rattle.vtl_tree.specs.declared.structure.Component.{Component}
use Rattle.vtl_tree.specs.declared.structure.Structure.{Structure}
use Rattle.vtl_tree.proofs.Faults.{faults_by-append}
use Rattle.vtl_meaning.specs.Aggregates.{Made, group_fault as point_fault}
use Rattle.vtl_meaning.specs.Analytics.{each_point as each_made, made_of, measure_call, point_of, tree_value}
use Rattle.vtl_meaning.specs.LookUps.{value_named}
use Rattle.vtl_meaning.specs.Points.{cell_or_null, with_points}
use Rattle.vtl_meaning.specs.Windows.{Stand, argument, bound_of, call_value, default_frame, framed, op_value, stand_of}
use Rattle.vtl_timing.specs.Times.{HasTime, by_measure, previous, up_to}
use Rattle.vtl_timing.proofs.ShiftKept.{none_parts}
use Rattle.sql_meaning.specs.Selects.{appended, rows_in}
use Rattle.sql_meaning.proofs.Faulted.{fault_unless}
use Rattle.times_to_sql.specs.Frequencies.{is_of_frequency, part_of, series_window, within_frequencies}
use Rattle.times_to_sql.proofs.SeriesLists.{one_before, own_items, take_front}
use Rattle.times_to_sql.proofs.SeriesOrders.{Standing, order_is, previous_is, stands, up_to_is}

-- ---- the same values at all points
pub made_same : (m n : Made) (ys : List Component) (rows : List Row) → AllByRecursion (λ r. AllByRecursion (λ y. m y r ≡ n y r) ys) rows → each_made m ys rows ≡ each_made n ys rows
made_same m n ys rows all = λ i. unless (faults rows all i) (points rows all i)
  where
    fault : (r : Row) (zs : List Component) → AllByRecursion (λ y. m y r ≡ n y r) zs → point_fault m zs r ≡ point_fault n zs r
    fault r [] e = refl
    fault r (z ∷ zs) e = λ i. join (fault_in (e.0 i)) (fault r zs e.1 i)

    point : (r : Row) (zs : List Component) → AllByRecursion (λ y. m y r ≡ n y r) zs → point_of m zs r ≡ point_of n zs r
    point r [] e = refl
    point r (z ∷ zs) e = λ i. cell_or_null (e.0 i) ∷ point r zs e.1 i

    faults : (rs : List Row) → AllByRecursion (λ r. AllByRecursion (λ y. m y r ≡ n y r) ys) rs → faults_by (point_fault m ys) rs ≡ faults_by (point_fault n ys) rs
    faults [] e = refl
    faults (r ∷ rs) e = λ i. join (fault r ys e.0 i) (faults rs e.1 i)

    points : (rs : List Row) → AllByRecursion (λ r. AllByRecursion (λ y. m y r ≡ n y r) ys) rs → map (point_of m ys) rs ≡ map (point_of n ys) rs
    points [] e = refl
    points (r ∷ rs) e = λ i. point r ys e.0 i ∷ points rs e.1 i

-- ---- results one behind the other
unless_same : {X : Type 0} (f g : Option Fault) (x y : X) → f ≡ g → (g ≡ None → x ≡ y) → unless f x ≡ unless g y
unless_same f g x y e same = ap (λ o. unless o x) e ∙ go g same
  where
    go : (o : Option Fault) → (o ≡ None → x ≡ y) → unless o x ≡ unless o y
    go None s = ap Ok (s refl)
    go (Some v) s = refl

module _ (fault : Row → Option Fault) (point : Row → Row) (part : Frequency → List Row) where
  abbrev result : List Row → Outcome (List Row)
  result rows = unless (faults_by fault rows) (map point rows)

  appended_faults : (fs : List Frequency) → faults_by fault_in (map (λ f. result (part f)) fs) ≡ faults_by fault (flat_map part fs)
  appended_faults [] = refl
  appended_faults (f ∷ fs) =
      (λ i. join (fault_unless (faults_by fault (part f)) (map point (part f)) i) (appended_faults fs i))
      ∙ sym (faults_by-append fault (part f) (flat_map part fs))

  appended_rows : (fs : List Frequency) → faults_by fault (flat_map part fs) ≡ None → flat_map rows_in (map (λ f. result (part f)) fs) ≡ map point (flat_map part fs)
  appended_rows [] e = refl
  appended_rows (f ∷ fs) e =
      let parts = none_parts (faults_by fault (part f)) (faults_by fault (flat_map part fs)) (sym (faults_by-append fault (part f) (flat_map part fs)) ∙ e) in
      (λ i. rows_in (unless (parts.0 i) (map point (part f))) ++ appended_rows fs parts.1 i)
      ∙ sym (map-append point (part f) (flat_map part fs))

  pub appended_is : (fs : List Frequency) → appended (map (λ f. result (part f)) fs) ≡ result (flat_map part fs)
  appended_is fs = unless_same (faults_by fault_in (map (λ f. result (part f)) fs)) (faults_by fault (flat_map part fs)) (flat_map rows_in (map (λ f. result (part f)) fs)) (map point (flat_map part fs)) (appended_faults fs) (appended_rows fs)

-- ---- the values of a window
module _ (p : Settings) (a : Structure) (well : IsStructure a) (time : HasTime a) (us : List Row) (h : IsDataSet a us) where
  abbrev xs : List Component
  xs = columns_of a

  abbrev d : DataSet
  d = with_points a us

  abbrev w : Window
  w = series_window a

  abbrev at : List ℕ → Row → Cell
  at name r = value_named xs r name

  abbrev IsThere : Frequency → Row → Type 0
  IsThere f r = (list_any (same_row r) us ≡ true) × (is_of_frequency a f r ≡ true)

  framed_is : {X : Type 0} (place : ℕ) (rows : List X) → framed w place rows ≡ take (place + 1) rows
  framed_is place rows = ap (λ o. frame_of (bound_of (default_frame o).start) (bound_of (default_frame o).end) place rows) (order_is a well time)

  module _ (f : Frequency) (r : Row) (there : IsThere f r) where
    abbrev s : Stand
    s = stand_of (part_of f d) w r

    standing : Standing a us r s.ordered s.place
    standing = stands a well time us h f r there.1 there.0

    pub sum_is : (name : List ℕ) → op_value p xs w (argument xs (Some name)) op.Sum s ≡ group_value p agg.Sum (map (at name) (up_to d r))
    sum_is name =
        let front = standing.cut.front in
        ap (group_value p agg.Sum) (framed_is s.place (map (at name) s.ordered) ∙ (λ i. take (standing.place_is i + 1) (map (at name) (standing.cut.is i))) ∙ take_front (at name) front r standing.cut.back)
        ∙ group-Perm p agg.Sum (map (at name) (front ++ r ∷ [])) (map (at name) (up_to d r)) (Perm-map (at name) (Perm-sym (up_to_is a us h r s.ordered s.place standing)))

    pub lag_is : (name : List ℕ) (default : Cell) → op_value p xs w (argument xs (Some name)) (op.Lag 1 default) s ≡ Ok (option_map_or (at name) (previous d r) default)
    lag_is name default =
        ap Ok ((λ i. lag_of 1 default (standing.place_is i) (map (at name) (standing.cut.is i)))
        ∙ one_before (at name) default standing.cut.front (r ∷ standing.cut.back)
        ∙ ap (λ o. option_map_or (at name) o default) (sym (previous_is a us h time r s.ordered s.place standing)))

  -- a call on a measure in the window of its series
  abbrev called_on : AnalyticOp → Component → AnalyticCall
  called_on o y = record { op = o; component = Some y.name; window = w }

  those : (f : Frequency) → AllByRecursion (IsThere f) (part_of f d).points
  those f = all_kept (λ r. list_any (same_row r) us ≡ true) (is_of_frequency a f) us (own_items us)

  -- what a call gives in each part, it gives within the frequencies
  pub within_is : (o : AnalyticOp) (v : Component → Row → Outcome Cell) → ((f : Frequency) (r : Row) → IsThere f r → (y : Component) → call_value p (part_of f d) (called_on o y) r ≡ v y r)
      → (s : Structure) → within_frequencies p o d s ≡ each_made (by_measure (λ y r. after (v y r) (as_kind p y.kind)) a) (columns_of s) (flat_map (λ f. (part_of f d).points) frequencies)
  within_is o v gives s =
      let made : Made = by_measure (λ y r. after (v y r) (as_kind p y.kind)) a in
      (λ i. appended (map (λ f. each f i) frequencies))
      ∙ appended_is (point_fault made (columns_of s)) (point_of made (columns_of s)) (λ f. (part_of f d).points) frequencies
    where
      value : (f : Frequency) (r : Row) → IsThere f r → (y : Component) → made_of p (nodes.of_measures o w) (part_of f d) y r ≡ by_measure (λ z q. after (v z q) (as_kind p z.kind)) a y r
      value f r there y = go (is_measure y)
        where
          go : (b : Bool) → option_map_or (λ t. tree_value p (part_of f (with_points a us)) y.kind t r) (if b then Some (measure_call o (series_window a) y.name) else None) (Ok (column_of (place_of y.name (columns_of a)) r)) ≡ (if b then after (v y r) (as_kind p y.kind) else Ok (value_named (columns_of a) r y.name))
          go true = ap (λ m. after m (as_kind p y.kind)) (gives f r there y)
          go false = refl

      columns : (f : Frequency) (r : Row) → IsThere f r → (zs : List Component) → AllByRecursion (λ y. made_of p (nodes.of_measures o w) (part_of f d) y r ≡ by_measure (λ z q. after (v z q) (as_kind p z.kind)) a y r) zs
      columns f r there [] = tt
      columns f r there (z ∷ zs) = (value f r there z, columns f r there zs)

      rows : (f : Frequency) (rs : List Row) → AllByRecursion (IsThere f) rs → AllByRecursion (λ r. AllByRecursion (λ y. made_of p (nodes.of_measures o w) (part_of f d) y r ≡ by_measure (λ z q. after (v z q) (as_kind p z.kind)) a y r) (columns_of s)) rs
      rows f [] all = tt
      rows f (r ∷ rs) all = (columns f r all.0 (columns_of s), rows f rs all.1)

      each : (f : Frequency) → each_made (made_of p (nodes.of_measures o w) (part_of f d)) (columns_of s) (part_of f d).points ≡ each_made (by_measure (λ y r. after (v y r) (as_kind p y.kind)) a) (columns_of s) (part_of f d).points
      each f = made_same (made_of p (nodes.of_measures o w) (part_of f d)) (by_measure (λ y r. after (v y r) (as_kind p y.kind)) a) (columns_of s) (part_of f d).points (rows f (part_of f d).points (those f))

  pub sums_within : (s : Structure) → within_frequencies p op.Sum d s ≡ each_made (by_measure (λ y r. after (group_value p agg.Sum (map (at y.name) (up_to d r))) (as_kind p y.kind)) a) (columns_of s) (flat_map (λ f. (part_of f d).points) frequencies)
  sums_within s = within_is op.Sum (λ y r. group_value p agg.Sum (map (at y.name) (up_to d r))) (λ f r there y. sum_is f r there y.name) s

  pub lags_within : (default : Cell) (s : Structure) → within_frequencies p (op.Lag 1 default) d s ≡ each_made (by_measure (λ y r. as_kind p y.kind (option_map_or (at y.name) (previous d r) default)) a) (columns_of s) (flat_map (λ f. (part_of f d).points) frequencies)
  lags_within default s = within_is (op.Lag 1 default) (λ y r. Ok (option_map_or (at y.name) (previous d r) default)) (λ f r there y. lag_is f r there y.name default) s
