use Rattle.std.proofs.Common.{All, ◌<◌, ◌++◌, length, map, sym, ap, subst, ◌∙◌}
use Rattle.std.specs.Prelude.{IsPermutation}
use Rattle.std.specs.List.{AllByRecursion, concat, range_with_len}
use Rattle.std.proofs.lemmas.List.{length-map}
use Rattle.std.proofs.lemmas.List.FromFn.{length-range_with_len}
use Rattle.std.proofs.lemmas.Result.{IfOk-weaker}
use Rattle.vtl_lists.proofs.Perms.{Perm-from_IsPermutation, length-Perm}
use Rattle.vtl_rows.specs.Places.{IsOrderOf}
use Rattle.vtl_frames.specs.Stretches.{stretches_of}
use Rattle.vtl_frames.proofs.RunLemmas.{joined}
use Rattle.sql_meaning.specs.Values.{place_in}
use Rattle.sql_meaning.specs.Windows.{told_apart, window_value}
use Rattle.sql_from.specs.Held.{base_held}
use Rattle.sql_from.specs.Sources.{Sourced, scope_held}
use Rattle.sql_from.specs.Standing.{rows_for, sight_of}
use Rattle.sql_window.specs.Keys.{AreCut, order_key, partition_key, tie_breakers}
use Rattle.sql_window.specs.Runs.{window_at}
use Rattle.sql_window.proofs.PutLemmas.{keys_within, order_named, partition_named, told_rows}
use Rattle.sql_window.proofs.windows.window_values.Goals as goal

pub places_by_columns-requires : goal.places_by_columns-requires
places_by_columns-requires c =
    let s = c.sources-sources.result.now in
    let scope = scope_held s.sources in
    let o = c.args.window.now.over in
    let call = c.args.window.now.call in
    let n = length c.table-table.result.now.columns in
    let wide = c.table-table.ensures.wide in
    let partition : AllByRecursion (λ x. place_in scope x < n) o.partition =
    subst (λ (z : Sourced). AllByRecursion (λ x. place_in (scope_held z.sources) x < n) o.partition) (sym c.sources-sources.ensures)
    (subst (λ m. AllByRecursion (λ x. place_in (scope_held c.args.rows.now.rows.now.sources.sources) x < m) o.partition) (sym wide) c.requires.partition) in
    let order : AllByRecursion (λ k. place_in scope k.column < n) o.order =
    subst (λ (z : Sourced). AllByRecursion (λ k. place_in (scope_held z.sources) k.column < n) o.order) (sym c.sources-sources.ensures)
    (subst (λ m. AllByRecursion (λ k. place_in (scope_held c.args.rows.now.rows.now.sources.sources) k.column < m) o.order) (sym wide) c.requires.order) in
    let part = c.deref.ensures.value ∙ c.in_ok-partition.ensures ∙ ap (map (partition_key scope)) c.as_slice.ensures in
    let ord = c.deref-2.ensures.value ∙ c.in_ok-order.ensures ∙ ap (map (order_key scope)) c.as_slice-2.ensures in
    let keys = c.deref-3.ensures.value ∙ c.in_ok-keys.ensures ∙ ap (λ l. (l ++ c.deref-2.result.now) ++ tie_breakers call (length c.columns-width.result.now)) part
    ∙ ap (λ l. (map (partition_key scope) o.partition ++ l) ++ tie_breakers call (length c.columns-width.result.now)) ord
    ∙ ap (λ l. (map (partition_key scope) o.partition ++ map (order_key scope) o.order) ++ tie_breakers call (length l)) c.columns-width.ensures.columns in
    subst (All (λ k. k.column < n)) (sym keys) (keys_within scope o call n partition order)

pub push_partitions-requires : goal.push_partitions-requires
push_partitions-requires c =
    let sources = c.sources-sources.result.now in
    let scope = scope_held sources.sources in
    let v = sight_of c.args.p.now sources in
    let o = c.args.window.now.over in
    let call = c.args.window.now.call in
    let rows = c.table-table.result.now.rows in
    let n = length c.table-table.result.now.columns in
    let p0 = map (partition_key scope) o.partition in
    let o0 = map (order_key scope) o.order in
    let partition_is = c.in_ok-partition.ensures ∙ ap (map (partition_key scope)) c.as_slice.ensures in
    let order_is = c.in_ok-order.ensures ∙ ap (map (order_key scope)) c.as_slice-2.ensures in
    let keys = c.deref-3.ensures.value ∙ c.in_ok-keys.ensures ∙ ap (λ l. (l ++ c.deref-2.result.now) ++ tie_breakers call (length c.columns-width.result.now)) (c.deref.ensures.value ∙ partition_is)
    ∙ ap (λ l. (p0 ++ l) ++ tie_breakers call (length c.columns-width.result.now)) (c.deref-2.ensures.value ∙ order_is)
    ∙ ap (λ l. (p0 ++ o0) ++ tie_breakers call (length l)) c.columns-width.ensures.columns in
    let places = c.in_ok-places.places.items in
    let found = c.in_ok-partitions.ensures ∙ ap (λ l. stretches_of l rows c.deref-4.result.now) (c.deref-5.ensures.value ∙ partition_is) ∙ ap (stretches_of p0 rows) c.deref-4.ensures.value in
    let cut : AreCut v c.args.window.now o0 rows n c.in_ok-partitions.partitions = record {
      partition = p0;
      numbers = places;
      sorted = record {
        partition_is = partition_named v o.partition;
        order_is = order_named (base_held c.args.p.now sources.held) scope o.order;
        placed = subst (λ l. IsOrderOf l rows places) keys c.in_ok-places.ensures.order;
        wide = c.columns-width.ensures.wide;
      };
      are = found;
    } in
    subst (λ l. AreCut v c.args.window.now l rows n c.in_ok-partitions.partitions) (sym (c.deref-6.ensures.value ∙ order_is)) cut

pub put_back-requires-clause-all : goal.put_back-requires-clause-all
put_back-requires-clause-all c =
    let rows = c.table-table.result.now.rows in
    let places = c.in_ok-places.places.items in
    let all = c.in_ok-places.ensures.order.all in
    let many = sym (length-range_with_len 0 (length rows)) ∙ length-Perm (Perm-from_IsPermutation (range_with_len 0 (length rows)) places all) in
    subst (λ l. IsPermutation (range_with_len 0 (length l)) l) (sym c.deref-7.ensures.value) (subst (λ m. IsPermutation (range_with_len 0 m) places) many all)

pub put_back-requires-clause-many : goal.put_back-requires-clause-many
put_back-requires-clause-many c =
    let v = sight_of c.args.p.now c.sources-sources.result.now in
    let w = c.args.window.now in
    let rows = c.table-table.result.now.rows in
    let places = c.in_ok-places.places.items in
    let f = window_at v w rows in
    let p0 = map (partition_key (scope_held c.sources-sources.result.now.sources)) w.over.partition in
    let partition_is = c.deref-5.ensures.value ∙ c.in_ok-partition.ensures ∙ ap (map (partition_key (scope_held c.sources-sources.result.now.sources))) c.as_slice.ensures in
    let found = c.in_ok-partitions.ensures ∙ ap (λ l. stretches_of l rows c.deref-4.result.now) partition_is ∙ ap (stretches_of p0 rows) c.deref-4.ensures.value in
    let values = c.in_ok-push_partitions.ensures ∙ ap (λ l. l ++ map f (concat c.in_ok-partitions.partitions)) c.in_ok-values.ensures.items ∙ ap (λ l. map f (concat l)) found
    ∙ ap (map f) (joined p0 rows places ∙ sym c.deref-7.ensures.value) in
    ap length values ∙ length-map c.deref-7.result.now f

pub returns : goal.returns
returns c =
    let v = sight_of c.args.p.now c.sources-sources.result.now in
    let w = c.args.window.now in
    let told = rows_for c.args.rows.now.rows.now.sources c.args.rows.now.rows.now.tuples in
    let rows = c.table-table.result.now.rows in
    let places = c.in_ok-places.places.items in
    let all = c.in_ok-places.ensures.order.all in
    let many = sym (length-Perm (Perm-from_IsPermutation (range_with_len 0 (length rows)) places all)) ∙ length-range_with_len 0 (length rows) in
    let f = window_at v w rows in
    let p0 = map (partition_key (scope_held c.sources-sources.result.now.sources)) w.over.partition in
    let partition_is = c.deref-5.ensures.value ∙ c.in_ok-partition.ensures ∙ ap (map (partition_key (scope_held c.sources-sources.result.now.sources))) c.as_slice.ensures in
    let found = c.in_ok-partitions.ensures ∙ ap (λ l. stretches_of l rows c.deref-4.result.now) partition_is ∙ ap (stretches_of p0 rows) c.deref-4.ensures.value in
    let values = c.in_ok-push_partitions.ensures ∙ ap (λ l. l ++ map f (concat c.in_ok-partitions.partitions)) c.in_ok-values.ensures.items ∙ ap (λ l. map f (concat l)) found
    ∙ ap (map f) (joined p0 rows places ∙ sym c.deref-7.ensures.value) in
    IfOk-weaker c.put_back.result _ _
    (λ r e. e ∙ ap (λ l. map f (range_with_len 0 (length l))) c.deref-7.ensures.value ∙ ap (λ m. map f (range_with_len 0 m)) many ∙ told_rows v w rows
    ∙ ap (λ l. map (window_value v w l) (told_apart l)) c.table-table.ensures.rows
    ∙ ap (λ (z : Sourced). map (window_value (sight_of c.args.p.now z) w told) (told_apart told)) c.sources-sources.ensures)
    (c.put_back.ensures f values)
