use Rattle.std.proofs.Common.{◌≡◌, ◌<◌, ◌≤◌, List, [], length, map, take, All, sym, ap, ◌∙◌, subst}
use Rattle.std.proofs.lemmas.List.{length-map}
use Rattle.std.specs.Option.{option_map}
use Rattle.vtl_rows.specs.Tables.{cells_at, column_at}
use Rattle.vtl_sets.specs.TableOf.{column_for}
use Rattle.vtl_tree.specs.Shown.{shown}
use Rattle.vtl_tree.specs.Structure.{key_width}
use Rattle.vtl_csv.specs.InputFields.{ReadColumn, components_in, read_column, read_columns}
use Rattle.vtl_csv.specs.InputFile.{rows_with}
use Rattle.vtl_csv.specs.InputSteps.{fault_of, layout_seen, rows_outcome}
use Rattle.vtl_csv.proofs.InputDataSetLemmas.{components_read, rows_arranged}
use Rattle.vtl_csv.proofs.InputLayoutLemmas.{layout_all_below, layout_below, layout_columns, layout_keys, layout_some, layout_wide}
use Rattle.vtl_csv.proofs.dataset.read_table.Goals as goal

pub key_places-requires : goal.key_places-requires
key_places-requires c =
    let keys = layout_keys c.args.structure.now (layout_seen c.args.layout.now) c.requires.structure c.requires.layout in
    subst (λ l. key_width c.args.structure.now ≤ length l) (sym c.deref.ensures.value) keys

pub read_rows-requires-clause-some : goal.read_rows-requires-clause-some
read_rows-requires-clause-some c =
    let s = layout_seen c.args.layout.now in
    let wide = layout_wide c.args.structure.now s c.requires.structure c.requires.layout in
    let same = c.deref-3.ensures.value ∙ c.in_ok-columns.ensures ∙ ap (λ l. read_columns c.args.not_null.now (shown l)) c.deref-2.ensures.value in
    let count = ap length same ∙ length-map s.columns (read_column c.args.not_null.now) in
    subst (λ n. 0 < n) (sym count) wide

pub read_rows-requires-clause-keys : goal.read_rows-requires-clause-keys
read_rows-requires-clause-keys c =
    let s = layout_seen c.args.layout.now in
    let same = c.deref-3.ensures.value ∙ c.in_ok-columns.ensures ∙ ap (λ l. read_columns c.args.not_null.now (shown l)) c.deref-2.ensures.value in
    let count = ap length same ∙ length-map s.columns (read_column c.args.not_null.now) in
    let keys = c.in_ok-keys.ensures ∙ ap (take (key_width c.args.structure.now)) c.deref.ensures.value in
    subst (All (λ i. i < length c.deref-3.result.now)) (sym keys) (layout_below c.args.structure.now s c.requires.structure c.requires.layout (length c.deref-3.result.now) (key_width c.args.structure.now) count)

pub into_projected-requires-clause-some : goal.into_projected-requires-clause-some
into_projected-requires-clause-some c =
    let some = layout_some c.args.structure.now (layout_seen c.args.layout.now) c.requires.structure c.requires.layout in
    subst (λ l. 0 < length l) (sym c.deref-in-None.ensures.value) some

pub into_projected-requires-clause-within : goal.into_projected-requires-clause-within
into_projected-requires-clause-within c =
    let s = layout_seen c.args.layout.now in
    let same = c.deref-3.ensures.value ∙ c.in_ok-columns.ensures ∙ ap (λ l. read_columns c.args.not_null.now (shown l)) c.deref-2.ensures.value in
    let below = c.in_ok-table.ensures.columns ∙ ap (λ l. map column_for (components_in l)) same ∙ ap (map column_for) (components_read c.args.not_null.now s.columns) in
    let count = ap length below ∙ length-map s.columns column_for in
    subst (All (λ i. i < length c.in_ok-table.table.columns)) (sym c.deref-in-None.ensures.value) (layout_all_below c.args.structure.now s c.requires.structure c.requires.layout (length c.in_ok-table.table.columns) count)

pub returns : goal.returns
returns c =
    let s = layout_seen c.args.layout.now in
    let p = c.args.profile.now in
    let same = c.deref-3.ensures.value ∙ c.in_ok-columns.ensures ∙ ap (λ l. read_columns c.args.not_null.now (shown l)) c.deref-2.ensures.value in
    let below = c.in_ok-table.ensures.columns ∙ ap (λ l. map column_for (components_in l)) same ∙ ap (map column_for) (components_read c.args.not_null.now s.columns) in
    let keys = c.in_ok-keys.ensures ∙ ap (take (key_width c.args.structure.now)) c.deref.ensures.value in
    let places = c.deref-in-None.ensures.value in
    let read =
    ap (λ o. rows_outcome c.in_ok-table.table.rows (option_map fault_of o)) (sym c.in-None.is)
    ∙ c.in_ok-table.ensures.rows
    ∙ ap (λ columns. rows_with p columns c.in_ok-keys.keys.now [] c.args.reader.now) same
    ∙ ap (λ l. rows_with p (read_columns c.args.not_null.now s.columns) l [] c.args.reader.now) keys in (
      c.in_ok-into_projected-in-None.ensures.columns ∙ ap (λ columns. map (column_at columns) c.deref-in-None.result.now) below ∙ ap (map (column_at (map column_for s.columns))) places
          ∙ layout_columns c.args.structure.now s c.requires.structure c.requires.layout,
      rows_arranged s.places (rows_with p (read_columns c.args.not_null.now s.columns) (take (key_width c.args.structure.now) s.places) [] c.args.reader.now) c.in_ok-table.table.rows c.in_ok-into_projected-in-None.field-0.rows
          read (c.in_ok-into_projected-in-None.ensures.rows ∙ ap (λ l. map (cells_at l) c.in_ok-table.table.rows) places),
    )
