-- Rows in order rise by their first cells.
use Rattle.std.proofs.Common.{◌≡◌, ℕ, true, List, [], ◌∷◌}
use Rattle.std.specs.List.{AllByRecursion}
use Rattle.vtl_lists.specs.Sorting.{Rises, le_by, sorted_by}
use Rattle.vtl_lists.proofs.Sorts.{Rises-sorted_by}
use Rattle.vtl_cell.specs.Row.{Row, row_cmp}
use Rattle.vtl_cell.proofs.Rows.{front_rises, row_order}
use Rattle.vtl_csv.specs.CsvText.{le_key}

all_by_key : (n : ℕ) (x : Row) (ys : List Row) → AllByRecursion (λ y. le_by row_cmp x y ≡ true) ys → AllByRecursion (λ y. le_key n x y ≡ true) ys
all_by_key n x [] h = tt
all_by_key n x (y ∷ ys) h = (front_rises n x y h.0, all_by_key n x ys h.1)

rises_by_key : (n : ℕ) (xs : List Row) → Rises (le_by row_cmp) xs → Rises (le_key n) xs
rises_by_key n [] h = tt
rises_by_key n (x ∷ xs) h = (all_by_key n x xs h.0, rises_by_key n xs h.1)

pub sorted_by_key : (n : ℕ) (rows : List Row) → Rises (le_key n) (sorted_by (le_by row_cmp) rows)
sorted_by_key n rows = rises_by_key n (sorted_by (le_by row_cmp) rows) (Rises-sorted_by row_order rows)
