use Rattle.std.proofs.Common.{◌≡◌, ◌<◌, ℕ, ℤ, List, [], map, length, true, ap, subst, ◌∙◌, arith, to_z, of_z, w64}
use Rattle.std.proofs.lemmas.Int.{to_z-of_z}
use Rattle.std.specs.Prelude.{IfOk}
use Rattle.vtl_lists.proofs.Alls.{all_get}
use Rattle.vtl_cell.specs.Outcome.{Outcome}
use Rattle.vtl_cell.specs.declared.cell.Cell.{Cell}
use Rattle.vtl_meaning.specs.Aggregates.{Made}
use Rattle.vtl_meaning.specs.Points.{cell_or_null}
use Rattle.vtl_rows.specs.Places.{row_at}
use Rattle.vtl_rows.specs.Tables.{Tabled, fits}
use Rattle.vtl_scalar.specs.Answers.{AnswersBy}
use Rattle.vtl_sets.specs.TableOf.{table_columns}
use Rattle.vtl_sets.proofs.TableLemmas.{answered_is_table}
use Rattle.vtl_tree.specs.DataSet.{is_point}
use Rattle.vtl_tree.specs.Structure.{columns_of}
use Rattle.vtl_tree.specs.declared.structure.Structure.{Structure}
use Rattle.vtl_timing.proofs.ShiftKept.{made_of_kinds, shift_kept}
use Rattle.vtl_timing.specs.Times.{shifted_value, timeshift_of}
use Rattle.vtl_times.specs.Columns.{cells_of, column_value, row_values}
use Rattle.vtl_times.proofs.RowLemmas.{made_fits, row_is, rows_made}
use Rattle.vtl_times.proofs.shift.shifted_table.Goals as goal

pub each_row-requires-clause-fits : goal.each_row-requires-clause-fits
each_row-requires-clause-fits c i h =
    let a = c.args.a.now in
    let s = a.structure in
    let p = c.args.p.now in
    let xs = columns_of s in
    let m : ℤ = to_z w64 (of_z w64 c.args.n) in
    let e : m ≡ c.args.n = grind (arith, to_z-of_z, c.ranges.n.sfits) in
    let made : Made = shifted_value c.args.n xs in
    let values : ℕ → List (Outcome Cell) = row_values p c.deref.result.now a.points in
    let same : (j : ℕ) → j < length a.points → values j ≡ map (λ y. made y (row_at a.points j)) xs
    = λ j l. ap (map (column_value p (row_at a.points j) j)) c.deref.ensures.value ∙ c.in_ok-columns.ensures p (row_at a.points j) j
    ∙ ap (λ (t : Structure). map (λ y. shifted_value m (columns_of t) y (row_at a.points j)) (columns_of t)) c.structure-structure.ensures.structure
    ∙ ap (λ k. map (λ y. shifted_value k xs y (row_at a.points j)) xs) e in
    let typed = all_get (λ r. is_point xs r ≡ true) a.points i [] h c.structure-structure.ensures.points.typed in
    ap (λ (t : Structure). fits (table_columns t) (cells_of (values i))) c.structure-structure.ensures.structure
    ∙ ap (fits (table_columns s)) (row_is made xs a.points values same i h)
    ∙ made_fits (λ y. cell_or_null (made y (row_at a.points i))) xs (made_of_kinds c.args.n s c.structure-structure.ensures.points.well_formed (row_at a.points i) typed)

pub returns-clause-rows : goal.returns-clause-rows
returns-clause-rows c =
    let a = c.args.a.now in
    let p = c.args.p.now in
    let xs = columns_of a.structure in
    let m : ℤ = to_z w64 (of_z w64 c.args.n) in
    let e : m ≡ c.args.n = grind (arith, to_z-of_z, c.ranges.n.sfits) in
    let made : Made = shifted_value c.args.n xs in
    let values : ℕ → List (Outcome Cell) = row_values p c.deref.result.now a.points in
    let same : (j : ℕ) → j < length a.points → values j ≡ map (λ y. made y (row_at a.points j)) xs
    = λ j l. ap (map (column_value p (row_at a.points j) j)) c.deref.ensures.value ∙ c.in_ok-columns.ensures p (row_at a.points j) j
    ∙ ap (λ (t : Structure). map (λ y. shifted_value m (columns_of t) y (row_at a.points j)) (columns_of t)) c.structure-structure.ensures.structure
    ∙ ap (λ k. map (λ y. shifted_value k xs y (row_at a.points j)) xs) e in
    subst (AnswersBy (λ (t : Tabled). t.rows) c.each_row.result) (rows_made made xs a.points values same) c.each_row.ensures.rows

pub returns-clause-table : goal.returns-clause-table
returns-clause-table c =
    let a = c.args.a.now in
    let s = a.structure in
    let columns = subst (λ (t : Structure). IfOk c.each_row.result (λ x. x.columns ≡ table_columns t)) c.structure-structure.ensures.structure c.each_row.ensures.columns in
    answered_is_table s c.each_row.result (timeshift_of c.args.n a) columns (returns-clause-rows c) (λ out e. shift_kept c.args.n a out c.structure-structure.ensures.points e)
