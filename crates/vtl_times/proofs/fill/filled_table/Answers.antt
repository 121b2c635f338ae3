use Rattle.std.proofs.Common.{◌≡◌, ◌<◌, [], ◌∷◌, map, ap, sym, ◌∙◌}
use Rattle.std.proofs.lemmas.List.Elements.{All-same}
use Rattle.std.proofs.lemmas.Result.{IfOk-weaker}
use Rattle.vtl_rows.specs.Gathered.{picked, picked_kind, pieces}
use Rattle.vtl_rows.specs.Tables.{Tabled, column_kinds, listed}
use Rattle.vtl_rows.specs.declared.gather.Pick.{Pick}
use Rattle.vtl_sets.proofs.ColumnLemmas.{some_table_columns}
use Rattle.vtl_sets.proofs.TableLemmas.{made_is_table}
use Rattle.vtl_tree.specs.Columns.{places_in}
use Rattle.vtl_tree.specs.Structure.{columns_of}
use Rattle.vtl_timing.proofs.FilledPoints.{fill_kept}
use Rattle.vtl_sets.specs.TableOf.{table_columns}
use Rattle.vtl_timing.specs.Times.{fill_of, other_identifiers, time_place}
use Rattle.vtl_times.specs.Filling.{filled_picks, numbered}
use Rattle.vtl_times.proofs.FilledRows.{all_within, filled_kinds, filled_rows}
use Rattle.vtl_times.proofs.fill.filled_table.Goals as goal

pub gather_beside-requires-clause-some : goal.gather_beside-requires-clause-some
gather_beside-requires-clause-some c =
    some_table_columns c.args.a.now.structure c.in_ok-columns.columns.items c.structure-structure.ensures.points.well_formed.some (c.in_ok-columns.ensures ∙ ap table_columns c.structure-structure.ensures.structure)

pub gather_beside-requires-clause-within : goal.gather_beside-requires-clause-within
gather_beside-requires-clause-within c =
    let s = c.args.a.now.structure in
    All-same (λ (p : Pick). p.part < 2) c.deref-3.result.now (filled_picks s) (c.deref-3.ensures.value ∙ c.in_ok-picks.ensures ∙ ap filled_picks c.structure-structure.ensures.structure) (all_within s)

pub gather_beside-requires-clause-kinds : goal.gather_beside-requires-clause-kinds
gather_beside-requires-clause-kinds c =
    let s = c.args.a.now.structure in
    let series = listed c.in_ok-series.series in
    let table = listed c.table.result.now in
    ap column_kinds (c.in_ok-columns.ensures ∙ ap table_columns c.structure-structure.ensures.structure)
    ∙ filled_kinds s series table c.structure-structure.ensures.points.well_formed c.in_ok-series.ensures.columns c.table.ensures.table.columns
    ∙ ap (map (picked_kind (series ∷ table ∷ []))) (sym (c.deref-3.ensures.value ∙ c.in_ok-picks.ensures ∙ ap filled_picks c.structure-structure.ensures.structure))

pub returns-clause-rows : goal.returns-clause-rows
returns-clause-rows c =
    let d = c.args.a.now in
    let s = d.structure in
    let series = listed c.in_ok-series.series in
    let table = listed c.table.result.now in
    let picks = c.deref-3.ensures.value ∙ c.in_ok-picks.ensures ∙ ap filled_picks c.structure-structure.ensures.structure in
    let pairs = c.deref-2.ensures.value ∙ c.in_ok-pairs.ensures ∙ ap numbered (c.deref.ensures.value ∙ c.in_ok-numbers.ensures) in
    IfOk-weaker c.gather_beside.result (λ (x : Tabled). x.rows ≡ map (picked (series ∷ table ∷ []) c.deref-3.result.now) (pieces 2 c.deref-2.result.now)) (λ (x : Tabled). x.rows ≡ fill_of c.args.extent d)
    (λ x e. e ∙ (λ j. map (picked (series ∷ table ∷ []) (picks j)) (pieces 2 (pairs j))) ∙ filled_rows c.args.extent d series table c.table.ensures.points c.in_ok-series.ensures.rows) c.gather_beside.ensures.rows

pub returns-clause-table : goal.returns-clause-table
returns-clause-table c =
    let d = c.args.a.now in
    let s = d.structure in
    let on = time_place s in
    let by = places_in (columns_of s) (other_identifiers s) in
    let columns = c.in_ok-columns.ensures ∙ ap table_columns c.structure-structure.ensures.structure in
    made_is_table s c.gather_beside.result (fill_of c.args.extent d)
    (IfOk-weaker c.gather_beside.result (λ (x : Tabled). x.columns ≡ c.in_ok-columns.columns.items) (λ (x : Tabled). x.columns ≡ table_columns s) (λ x e. e ∙ columns) c.gather_beside.ensures.columns)
    (returns-clause-rows c) (fill_kept c.args.extent d c.requires c.structure-structure.ensures.points (c.rows_stand_once.ensures c.args.extent on by d.points))
