use Rattle.std.proofs.Common.{◌≡◌, ◌<◌, ℕ, true, List, [], length, map, ap, subst, ◌∙◌}
use Rattle.vtl_cell.specs.Outcome.{Outcome}
use Rattle.vtl_cell.specs.declared.cell.Cell.{Cell}
use Rattle.vtl_meaning.specs.Aggregates.{Made}
use Rattle.vtl_meaning.specs.Analytics.{each_point as each_made}
use Rattle.vtl_meaning.specs.Points.{cell_or_null}
use Rattle.vtl_rows.specs.Places.{row_at}
use Rattle.vtl_rows.specs.Tables.{Tabled, fits}
use Rattle.vtl_scalar.specs.Answers.{AnswersBy}
use Rattle.vtl_sets.specs.TableOf.{table_columns}
use Rattle.vtl_sets.proofs.TableLemmas.{answered_is_table}
use Rattle.vtl_tree.specs.DataSet.{IsDataSet, is_point}
use Rattle.vtl_tree.specs.Shown.{shown}
use Rattle.vtl_tree.specs.Structure.{columns_of}
use Rattle.std.specs.Prelude.{IfOk}
use Rattle.vtl_lists.proofs.Alls.{all_get}
use Rattle.vtl_times.specs.Columns.{column_value, row_values}
use Rattle.vtl_times.specs.Flows.{flow_by}
use Rattle.vtl_times.proofs.FlowLemmas.{flow_fits, flow_kept}
use Rattle.vtl_times.proofs.RowLemmas.{made_fits, row_is, rows_made}
use Rattle.vtl_times.proofs.flows.flow_table.Goals as goal

pub made_columns-requires-clause-columns : goal.made_columns-requires-clause-columns
made_columns-requires-clause-columns c = ap shown c.deref.ensures.value ∙ c.in_ok-own.ensures ∙ ap columns_of c.structure.ensures.structure

pub each_row-requires-clause-fits : goal.each_row-requires-clause-fits
each_row-requires-clause-fits c i h =
    let a = c.args.a.now in
    let s = c.args.made.now in
    let p = c.args.p.now in
    let w = c.args.along in
    let xs = columns_of a.structure in
    let ys = columns_of s in
    let made : Made = flow_by w p a in
    let values : ℕ → List (Outcome Cell) = row_values p c.deref-2.result.now a.points in
    let same : (j : ℕ) → j < length a.points → values j ≡ map (λ y. made y (row_at a.points j)) ys
    = λ j l. ap (map (column_value p (row_at a.points j) j)) c.deref-2.ensures.value ∙ c.in_ok-columns.ensures j l in
    let typed = all_get (λ r. is_point xs r ≡ true) a.points i [] h c.structure.ensures.points.typed in
    ap (fits (table_columns s)) (row_is made ys a.points values same i h)
    ∙ made_fits (λ y. cell_or_null (made y (row_at a.points i))) ys (flow_fits p a s c.requires c.structure.ensures.points w (row_at a.points i) typed)

pub returns-clause-rows : goal.returns-clause-rows
returns-clause-rows c =
    let a = c.args.a.now in
    let p = c.args.p.now in
    let made : Made = flow_by c.args.along p a in
    let ys = columns_of c.args.made.now in
    let values : ℕ → List (Outcome Cell) = row_values p c.deref-2.result.now a.points in
    let same : (j : ℕ) → j < length a.points → values j ≡ map (λ y. made y (row_at a.points j)) ys
    = λ j l. ap (map (column_value p (row_at a.points j) j)) c.deref-2.ensures.value ∙ c.in_ok-columns.ensures j l in
    subst (AnswersBy (λ (t : Tabled). t.rows) c.each_row.result) (rows_made made ys a.points values same) c.each_row.ensures.rows

pub returns-clause-table : goal.returns-clause-table
returns-clause-table c =
    let a = c.args.a.now in
    let s = c.args.made.now in
    let made : Made = flow_by c.args.along c.args.p.now a in
    answered_is_table s c.each_row.result (each_made made (columns_of s) a.points) c.each_row.ensures.columns (returns-clause-rows c)
    (λ out e. subst (λ m. IfOk m (IsDataSet s)) e (flow_kept c.args.p.now a s c.requires c.structure.ensures.points c.args.along))
