use Rattle.std.proofs.Common.{◌≡◌, ◌++◌, List, [], ◌∷◌, map, ap, subst, ◌∙◌}
use Rattle.std.specs.Prelude.{IfOk}
use Rattle.vtl_cell.specs.Row.{Row}
use Rattle.vtl_rows.specs.Tables.{column_at}
use Rattle.vtl_rows.specs.declared.column.Column.{Column}
use Rattle.vtl_series.specs.Series.{series_rows}
use Rattle.vtl_sets.specs.TableOf.{table_columns}
use Rattle.vtl_tree.specs.Columns.{places_in}
use Rattle.vtl_tree.specs.Shown.{shown}
use Rattle.vtl_tree.specs.Structure.{columns_of}
use Rattle.vtl_tree.specs.declared.structure.Structure.{Structure}
use Rattle.vtl_timing.specs.Times.{other_identifiers, time_place}
use Rattle.vtl_times.proofs.FillLemmas.{columns_are}
use Rattle.vtl_times.proofs.fill.series_of.Goals as goal

pub returns-clause-columns : goal.returns-clause-columns
returns-clause-columns c =
    let s = c.args.a.now.structure in
    let on = c.in_ok-time.ensures ∙ ap time_place c.structure-structure.ensures.structure in
    let by = c.deref-3.ensures.value ∙ c.in_ok-by.ensures
    ∙ (λ i. places_in ((ap shown c.deref.ensures.value ∙ c.in_ok-columns.ensures) i) ((ap shown c.deref-2.ensures.value ∙ c.in_ok-others.ensures) i))
    ∙ ap (λ (t : Structure). places_in (columns_of t) (other_identifiers t)) c.structure-structure.ensures.structure in
    subst (λ (l : List Column). IfOk c.rows_of_series.result (λ t. t.columns ≡ l))
    (ap (λ (cs : List Column). map (column_at cs) (c.deref-3.result.now ++ c.in_ok-time.time ∷ [])) c.table.ensures.table.columns
    ∙ (λ i. map (column_at (table_columns s)) (by i ++ on i ∷ []))
    ∙ columns_are s c.structure-structure.ensures.points.well_formed c.requires)
    c.rows_of_series.ensures.columns

pub returns-clause-rows : goal.returns-clause-rows
returns-clause-rows c =
    let on = c.in_ok-time.ensures ∙ ap time_place c.structure-structure.ensures.structure in
    let by = c.deref-3.ensures.value ∙ c.in_ok-by.ensures
    ∙ (λ i. places_in ((ap shown c.deref.ensures.value ∙ c.in_ok-columns.ensures) i) ((ap shown c.deref-2.ensures.value ∙ c.in_ok-others.ensures) i))
    ∙ ap (λ (t : Structure). places_in (columns_of t) (other_identifiers t)) c.structure-structure.ensures.structure in
    subst (λ (l : List Row). IfOk c.rows_of_series.result (λ t. t.rows ≡ l)) (λ i. series_rows c.args.extent (on i) (by i) (c.table.ensures.points i)) c.rows_of_series.ensures.rows
