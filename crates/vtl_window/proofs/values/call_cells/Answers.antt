use Rattle.std.proofs.Common.{◌≡◌, ◌<◌, ℕ, List, length, map, All, [], IsPermutation, Vec, Global, refl, sym, ap, ◌∙◌, subst}
use Rattle.std.specs.List.{range_with_len}
use Rattle.std.specs.Option.{option_map_or}
use Rattle.std.proofs.lemmas.List.{length-map}
use Rattle.vtl_cell.specs.Outcome.{Outcome, join}
use Rattle.vtl_cell.specs.Row.{column_of}
use Rattle.vtl_cell.specs.declared.cell.Cell.{Cell}
use Rattle.vtl_rows.specs.Places.{row_at}
use Rattle.vtl_tree.specs.DataSet.{IsDataSet}
use Rattle.vtl_tree.specs.Shown.{shown}
use Rattle.vtl_tree.specs.Structure.{columns_of}
use Rattle.vtl_meaning.specs.Points.{cell_or_null}
use Rattle.vtl_tree.specs.Columns.{place_of}
use Rattle.vtl_scalar.specs.Seen.{seen_of}
use Rattle.vtl_meaning.specs.Analytics.{tree_value}
use Rattle.vtl_meaning.specs.Windows.{call_value}
use Rattle.vtl_tree.specs.Trees.{analytic}
use Rattle.vtl_window.specs.Analyses.{cells_by, faults_of}
use Rattle.vtl_window.specs.Calls.{lent}
use Rattle.vtl_window.specs.Sorted.{order_keys, partition_keys}
use Rattle.vtl_window.proofs.AnalysisLemmas.{faults_listed, ok_same}
use Rattle.vtl_window.proofs.CallLemmas.{argument_at}
use Rattle.vtl_frames.proofs.ListLemmas.{listed}
use Rattle.vtl_window.proofs.PartitionLemmas.{points_wide_each}
use Rattle.vtl_window.proofs.PutLemmas.{places_many}
use Rattle.vtl_window.proofs.values.call_cells.Goals as goal

pub sorted_values-requires-clause-column : goal.sorted_values-requires-clause-column
sorted_values-requires-clause-column c =
    let d = c.args.a.now in
    let xs = columns_of d.structure in
    let lent = c.deref-4.result.now in
    let columns : shown lent ≡ xs = (ap shown c.deref-4.ensures.value ∙ c.in_ok-columns.ensures ∙ ap columns_of c.structure.ensures.structure) in
    let own = subst (λ a. IsDataSet a d.points) refl c.structure.ensures.points in
    let n : length lent ≡ length xs = sym (length-map lent (λ r. r.now)) ∙ ap length columns in
    λ k. ap (λ i. column_of i (row_at d.points k)) (c.argument_place-column.ensures ∙ ap (λ l. option_map_or (λ name. place_of name.now l) c.args.call.component (length lent)) columns)
    ∙ argument_at xs c.args.call.component (length lent) d.points n (points_wide_each d own) k

pub sorted_values-requires-clause-partition : goal.sorted_values-requires-clause-partition
sorted_values-requires-clause-partition c =
    c.deref-6.ensures.value ∙ c.in_ok-partition.ensures ∙ ap (λ l. partition_keys l c.args.call.window.now) (ap shown c.deref-2.ensures.value ∙ c.in_ok-columns.ensures ∙ ap columns_of c.structure.ensures.structure)

pub sorted_values-requires-clause-order : goal.sorted_values-requires-clause-order
sorted_values-requires-clause-order c =
    c.deref-7.ensures.value ∙ c.in_ok-order.ensures ∙ ap (λ l. order_keys l c.args.call.window.now) (ap shown c.deref-3.ensures.value ∙ c.in_ok-columns.ensures ∙ ap columns_of c.structure.ensures.structure)

pub put_back-requires-clause-all : goal.put_back-requires-clause-all
put_back-requires-clause-all c =
    let places = c.in_ok-places.places.items in
    let all = c.in_ok-places.ensures.order.all in
    subst (λ (l : List ℕ). IsPermutation (range_with_len 0 (length l)) l) (sym c.deref-8.ensures.value) (subst (λ m. IsPermutation (range_with_len 0 m) places) (sym (places_many (length c.args.a.now.points) places all)) all)

pub put_back-requires-clause-within : goal.put_back-requires-clause-within
put_back-requires-clause-within c =
    let places = c.in_ok-places.places.items in
    subst (λ (l : List ℕ). All (λ i. i < length l) l) (sym c.deref-8.ensures.value) (subst (λ m. All (λ i. i < m) places) (sym (places_many (length c.args.a.now.points) places c.in_ok-places.ensures.order.all)) c.in_ok-places.ensures.within)

pub returns-clause-cells : goal.returns-clause-cells
returns-clause-cells c =
    let d = c.args.a.now in
    let call = lent c.args.call in
    let places = c.in_ok-places.places.items in
    let made = tree_value c.args.p.now d c.args.kind (analytic call) in
    let many = ap (λ (l : List ℕ). length l) c.deref-8.ensures.value ∙ places_many (length d.points) places c.in_ok-places.ensures.order.all in
    let at : ℕ → Outcome Cell = λ k. made (row_at d.points k) in
    ok_same c.put_back.result (λ (v : Vec Cell Global). v.items) (cells_by at (range_with_len 0 (length c.deref-8.result.now))) (cells_by made d.points)
    (ap (λ m. cells_by at (range_with_len 0 m)) many ∙ listed (λ r. cell_or_null (made r)) d.points [])
    (c.put_back.ensures.cells (λ k. call_value c.args.p.now d call (row_at d.points k)) (c.in_ok-sorted.ensures ∙ ap (map (λ k. call_value c.args.p.now d call (row_at d.points k))) (c.deref-5.ensures.value ∙ sym c.deref-8.ensures.value)))

pub returns-clause-seen : goal.returns-clause-seen
returns-clause-seen c =
    let d = c.args.a.now in
    let call = lent c.args.call in
    let places = c.in_ok-places.places.items in
    let made = tree_value c.args.p.now d c.args.kind (analytic call) in
    let many = ap (λ (l : List ℕ). length l) c.deref-8.ensures.value ∙ places_many (length d.points) places c.in_ok-places.ensures.order.all in
    let at : ℕ → Outcome Cell = λ k. made (row_at d.points k) in
    let before = seen_of c.args.seen.now in
    ok_same c.put_back.result (λ (v : Vec Cell Global). seen_of c.put_back.new.seen) (join before (faults_of at (range_with_len 0 (length c.deref-8.result.now)))) (join before (faults_of made d.points))
    (ap (join before) (ap (λ m. faults_of at (range_with_len 0 m)) many ∙ faults_listed made d.points))
    (c.put_back.ensures.seen (λ k. call_value c.args.p.now d call (row_at d.points k)) (c.in_ok-sorted.ensures ∙ ap (map (λ k. call_value c.args.p.now d call (row_at d.points k))) (c.deref-5.ensures.value ∙ sym c.deref-8.ensures.value)))
