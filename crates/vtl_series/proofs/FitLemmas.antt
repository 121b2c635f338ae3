-- Rows of series fit their columns.
use Rattle.std.proofs.Common.{◌≡◌, ◌++◌, ◌∷◌, [], ◌&&◌, ℕ, true, not, List, map, refl, sym, ap, ◌∙◌, true≢false}
use Rattle.std.specs.List.{AllByRecursion}
use Rattle.std.proofs.lemmas.Bool.{and_parts}
use Rattle.vtl_lists.proofs.Sorts.{AllByRecursion-filter, AllByRecursion-map}
use Rattle.vtl_lists.proofs.Alls.{all_more}
use Rattle.vtl_cell.specs.Kinds.{is_of}
use Rattle.vtl_cell.specs.Row.{Row, same_row}
use Rattle.vtl_cell.specs.declared.cell.Cell.TheVariants as c
use Rattle.vtl_cell.specs.declared.kind.Kind.{Kind}
use Rattle.vtl_cell.specs.declared.kind.Kind.TheVariants as k
use Rattle.vtl_index.specs.Groups.{each_once}
use Rattle.vtl_rows.specs.Tables.{cells_at, column_at, fits, fits_kinds}
use Rattle.vtl_rows.specs.declared.column.Column.{Column}
use Rattle.vtl_rows.proofs.Gathers.{cell_fits}
use Rattle.vtl_time.specs.declared.periods.Frequency.{Frequency}
use Rattle.vtl_series.specs.declared.extent.Extent.{Extent}
use Rattle.vtl_series.specs.Kept.{FitsDated}
use Rattle.vtl_series.specs.Series.{dated, keys_by, series_rows, tuple_rows}
use Rattle.vtl_series.proofs.ListLemmas.{all_flat_map}
use Rattle.vtl_series.proofs.WholeLemmas.{all_rows}

-- the cells of a row that fits, and behind them any period
pub dated_fits : (columns : List Column) (by : List ℕ) (on : ℕ) (r : Row) → (column_at columns on).kind ≡ k.Period → fits columns r ≡ true → FitsDated (map (column_at columns) (by ++ on ∷ [])) (cells_at by r)
dated_fits columns [] on r e h q = ap (λ kind. is_of kind (c.Period q) && true) e
dated_fits columns (i ∷ is) on r e h q = λ n. cell_fits columns r h i n && dated_fits columns is on r e h q n

-- the rows of series
dated_kinds : (kinds : List Kind) (key : Row) (f : Frequency) (i : ℕ) → fits_kinds kinds key ≡ true → fits_kinds (kinds ++ k.Period ∷ []) (dated f key i) ≡ true
dated_kinds [] [] f i e = refl
dated_kinds [] (x ∷ key) f i e = absurd (true≢false (sym e))
dated_kinds (kind ∷ kinds) [] f i e = absurd (true≢false (sym e))
dated_kinds (kind ∷ kinds) (x ∷ key) f i e =
    let both = and_parts (is_of kind x) (fits_kinds kinds key) e in
    ap (λ b. b && fits_kinds (kinds ++ k.Period ∷ []) (dated f key i)) both.0 ∙ dated_kinds kinds key f i both.1

once_fit : (kinds : List Kind) (keys : List Row) → AllByRecursion (λ r. fits_kinds kinds r ≡ true) keys → AllByRecursion (λ r. fits_kinds kinds r ≡ true) (each_once same_row keys)
once_fit kinds [] all = tt
once_fit kinds (x ∷ keys) all = (all.0, AllByRecursion-filter (λ r. fits_kinds kinds r ≡ true) (λ y. not (same_row x y)) (each_once same_row keys) (once_fit kinds keys all.1))

pub series_fit : (e : Extent) (on : ℕ) (by : List ℕ) (kinds : List Kind) (rows : List Row) → AllByRecursion (λ r. fits_kinds kinds (cells_at by r) ≡ true) rows → AllByRecursion (λ r. fits_kinds (kinds ++ k.Period ∷ []) r ≡ true) (series_rows e on by rows)
series_fit e on by kinds rows all =
    let P : Row → Type 0 = λ r. fits_kinds (kinds ++ k.Period ∷ []) r ≡ true in
    all_flat_map (tuple_rows e on by rows) P (keys_by by rows)
    (all_more (λ key. fits_kinds kinds key ≡ true) (λ key. AllByRecursion P (tuple_rows e on by rows key)) (λ key fit. all_rows e on by rows P key (λ f i h s. dated_kinds kinds key f i fit)) (keys_by by rows)
    (once_fit kinds (map (cells_at by) rows) (AllByRecursion-map (cells_at by) (λ r. fits_kinds kinds r ≡ true) rows all)))
