use Rattle.std.proofs.Common.{◌≡◌, ◌<◌, ◌≤◌, ℕ, [], length, get_or, map, take, List, ◌++◌, sym, ap, ◌∙◌, subst, arith}
use Rattle.std.specs.List.{concat}
use Rattle.std.proofs.lemmas.List.{take_all}
use Rattle.vtl_cell.specs.Outcome.{Outcome}
use Rattle.vtl_cell.specs.Row.{Row}
use Rattle.vtl_cell.specs.declared.cell.Cell.{Cell}
use Rattle.vtl_rows.specs.Keys.{key_of}
use Rattle.vtl_rows.specs.Places.{row_at}
use Rattle.vtl_frames.specs.Ranked.{AreInOrder}
use Rattle.vtl_frames.specs.Stretches.{stretches_of}
use Rattle.vtl_frames.proofs.RunLemmas.{joined, one_found, one_more}
use Rattle.vtl_tree.specs.DataSet.{IsDataSet}
use Rattle.vtl_tree.specs.Structure.{columns_of}
use Rattle.vtl_tree.specs.Columns.{identifiers_of}
use Rattle.vtl_meaning.specs.Windows.{call_value}
use Rattle.vtl_window.specs.Calls.{lent}
use Rattle.vtl_window.specs.Runs.{run_values}
use Rattle.vtl_window.specs.Sorted.{identifier_keys, order_keys, partition_keys, tie_breakers}
use Rattle.vtl_window.proofs.PartitionLemmas.{by_order}
use Rattle.vtl_window.proofs.SortLemmas.{order_is}
use Rattle.vtl_window.proofs.ValueLemmas.{partition_values}
use Rattle.vtl_window.proofs.values.sorted_values.Goals as goal

pub push_call-requires-clause-keys : goal.push_call-requires-clause-keys
push_call-requires-clause-keys c = ap (map key_of) c.requires.order ∙ order_is (columns_of c.args.a.now.structure) c.args.call.window.now

pub push_call-requires-clause-order : goal.push_call-requires-clause-order
push_call-requires-clause-order c =
    let d = c.args.a.now in
    let call = lent c.args.call in
    let rows = d.points in
    let places = c.args.places.now in
    let keys = partition_keys (columns_of d.structure) call.window in
    let found = c.in_ok-partitions.partitions in
    let i = c.loop-i.i in
    let same : found ≡ stretches_of keys rows places = c.in_ok-partitions.ensures ∙ (λ j. stretches_of (c.requires.partition j) (c.table.ensures.points j) places) in
    let one = one_found keys rows places found i same (omega (arith, c.len-i-end.ensures, c.loop-i-test.true)) in
    let last = identifier_keys (columns_of d.structure) (tie_breakers call.op (identifiers_of d.structure)) in
    subst (λ ks. AreInOrder ks rows c.stretch-run.result.now) (sym c.requires.order)
    (subst (AreInOrder (order_keys (columns_of d.structure) call.window) rows) (sym (c.stretch-run.ensures ∙ one.is))
    (by_order d call.window last places c.requires.sorted one.start one.end one.cut))

pub loop-i-preserved : goal.loop-i-preserved
loop-i-preserved c =
    let d = c.args.a.now in
    let call = lent c.args.call in
    let rows = d.points in
    let places = c.args.places.now in
    let keys = partition_keys (columns_of d.structure) call.window in
    let found = c.in_ok-partitions.partitions in
    let i = c.loop-i.i in
    let same : found ≡ stretches_of keys rows places = c.in_ok-partitions.ensures ∙ (λ j. stretches_of (c.requires.partition j) (c.table.ensures.points j) places) in
    let one = one_found keys rows places found i same (omega (arith, c.len-i-end.ensures, c.loop-i-test.true)) in
    let p = c.args.p.now in
    let own = subst (λ (l : List Row). IsDataSet d.structure l) c.table.ensures.points c.table.ensures.table.points in
    let f : ℕ → Outcome Cell = λ k. call_value p d call (row_at rows k) in
    let before = c.loop-i.out.items in
    one_more f found i [] before c.push_call.new.out.items (omega (arith, c.len-i-end.ensures, c.loop-i-test.true)) c.loop-i.invariant
    (c.in_ok-push_call.ensures ∙ ap (λ r. before ++ run_values p (columns_of d.structure) call rows r) (c.stretch-run.ensures ∙ one.is)
    ∙ ap (λ l. before ++ l) (partition_values d own call places one.start one.end one.cut p c.requires.sorted)
    ∙ ap (λ r. before ++ map f r) (sym one.is))

pub returns : goal.returns
returns c =
    let d = c.args.a.now in
    let call = lent c.args.call in
    let rows = d.points in
    let places = c.args.places.now in
    let keys = partition_keys (columns_of d.structure) call.window in
    let found = c.in_ok-partitions.partitions in
    let i = c.loop-i.i in
    let same : found ≡ stretches_of keys rows places = c.in_ok-partitions.ensures ∙ (λ j. stretches_of (c.requires.partition j) (c.table.ensures.points j) places) in
    let f : ℕ → Outcome Cell = λ k. call_value c.args.p.now d call (row_at rows k) in
    let past : length found ≤ i = omega (arith, c.len-i-end.ensures, c.loop-i-test.false) in
    c.loop-i.invariant ∙ ap (λ l. map f (concat l)) (take_all i found past ∙ same) ∙ ap (map f) (joined keys rows places)
