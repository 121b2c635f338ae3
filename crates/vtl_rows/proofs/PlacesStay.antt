-- A table of which all columns are taken, in their order, stays as it is.
use Rattle.std.proofs.Common.{◌≡◌, ℕ, suc, ◌<◌, List, [], ◌∷◌, true, length, get_or, map, arith, refl, sym, ap, ◌∙◌}
use Rattle.std.specs.List.{All, range_with_len}
use Rattle.std.proofs.lemmas.List.FromFn.{fill_by_all}
use Rattle.vtl_cell.specs.declared.cell.Cell.TheVariants as c
use Rattle.vtl_cell.specs.declared.kind.Kind.TheVariants as k
use Rattle.vtl_cell.specs.Row.{Row, column_of}
use Rattle.vtl_rows.specs.declared.column.Column.{Column}
use Rattle.vtl_rows.specs.Tables.{AllFit, cells_at, column_at}
use Rattle.vtl_rows.proofs.Flats.{fits_wide}

pub columns_stay : (columns : List Column) → map (column_at columns) (range_with_len 0 (length columns)) ≡ columns
columns_stay columns = sym (fill_by_all (column_at columns) columns (length columns) (record { name = []; kind = k.Null }) refl (λ i h. refl))

pub cells_stay : (n : ℕ) (row : Row) → length row ≡ n → cells_at (range_with_len 0 n) row ≡ row
cells_stay n row e = sym (fill_by_all (λ i. column_of i row) row n c.Null e (λ i h. refl))

pub rows_stay : (columns : List Column) (rows : List Row) → AllFit columns rows → map (cells_at (range_with_len 0 (length columns))) rows ≡ rows
rows_stay columns [] all = refl
rows_stay columns (row ∷ rows) all =
    let wide = fits_wide columns row (all 0 row (omega arith)) in
    ap (λ r. r ∷ map (cells_at (range_with_len 0 (length columns))) rows) (cells_stay (length columns) row wide)
    ∙ ap (λ rs. row ∷ rs) (rows_stay columns rows (λ i d h. all (suc i) d (omega (arith, h))))

-- places that stand for themselves
map_same : (places : List ℕ) → map (λ i. i) places ≡ places
map_same [] = refl
map_same (i ∷ is) = ap (λ l. i ∷ l) (map_same is)

pub places_in_order : (places : List ℕ) (n : ℕ) → length places ≡ n → ((k : ℕ) → k < n → get_or places k 0 ≡ k) → places ≡ range_with_len 0 n
places_in_order places n e all = fill_by_all (λ i. i) places n 0 e all ∙ map_same (range_with_len 0 n)
