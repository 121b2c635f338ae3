use Rattle.std.proofs.Common.{◌≡◌, ◌<◌, ℕ, [], ◌∷◌, ◌++◌, List, length, map, get_or, ap, sym, ◌∙◌, arith}
use Rattle.std.proofs.lemmas.List.{get_or_default}
use Rattle.vtl_cell.specs.Outcome.{Outcome, join}
use Rattle.vtl_cell.specs.Row.{Row}
use Rattle.vtl_cell.specs.declared.cell.Cell.{Cell}
use Rattle.vtl_rows.specs.Tables.{fits}
use Rattle.vtl_rows.specs.Places.{row_at}
use Rattle.vtl_scalar.specs.Seen.{seen_of}
use Rattle.vtl_times.specs.Columns.{cells_of, column_value, fault_of, row_values}
use Rattle.vtl_times.proofs.RowLemmas.{faults_more, rows_more}
use Rattle.vtl_times.proofs.rows.each_row.Goals as goal

pub push_values-requires : goal.push_values-requires
push_values-requires c =
    let points = c.args.a.now.points in
    let columns = c.args.columns.now in
    let i = c.loop-i.i in
    let r = c.row.result.now in
    let many = ap (λ (l : List Row). length l) c.table-table.ensures.points in
    let within : i < length points = omega (arith, c.len-i-end.ensures.rows, c.loop-i-test.true, many) in
    let at : r ≡ row_at points i = c.row.ensures.row ∙ ap (λ (l : List Row). get_or l i r) c.table-table.ensures.points ∙ get_or_default points i r [] within in
    ap (λ x. fits c.loop-i.points.table.columns (cells_of (map (column_value c.args.p.now x i) columns))) at
    ∙ ap (λ xs. fits xs (cells_of (row_values c.args.p.now columns points i))) c.loop-i.invariant.columns
    ∙ c.requires.fits i within

pub loop-i-preserved : goal.loop-i-preserved
loop-i-preserved c =
    let points = c.args.a.now.points in
    let columns = c.args.columns.now in
    let i = c.loop-i.i in
    let r = c.row.result.now in
    let many = ap (λ (l : List Row). length l) c.table-table.ensures.points in
    let within : i < length points = omega (arith, c.len-i-end.ensures.rows, c.loop-i-test.true, many) in
    let at : r ≡ row_at points i = c.row.ensures.row ∙ ap (λ (l : List Row). get_or l i r) c.table-table.ensures.points ∙ get_or_default points i r [] within in
    let values : ℕ → List (Outcome Cell) = row_values c.args.p.now columns points in
    let now = ap (λ x. map (column_value c.args.p.now x i) columns) at in
    record {
      columns = c.push_values.ensures.columns ∙ c.loop-i.invariant.columns;
      rows = c.in_ok-push_values.ensures.rows ∙ ap (λ v. c.loop-i.points.table.rows ++ cells_of v ∷ []) now ∙ ap (λ l. l ++ cells_of (values i) ∷ []) c.loop-i.invariant.rows ∙ sym (rows_more values i);
      seen = c.in_ok-push_values.ensures.seen ∙ ap (λ v. join (seen_of c.loop-i.points.seen) (fault_of v)) now ∙ ap (λ s. join s (fault_of (values i))) c.loop-i.invariant.seen ∙ sym (faults_more values i);
    }
