-- The place of a row in a window: how many rows stand before it.
use Rattle.std.specs.Prelude.{ℕ, ◌+◌, List, [], count_by, slice_index_or}
use Rattle.std.specs.Ordering.{is_lt}
use Rattle.vtl_cell.specs.Row.{Row, same_row}
use Rattle.vtl_cell.specs.Sorted.{Key, window_cmp}
use Rattle.sql_meaning.specs.Windows.{partition_of, told_apart}

-- a row by its place in the list
abbrev pub row_at : List Row → ℕ → Row
row_at rows i = slice_index_or rows i []

-- the same row as windows see it, with the number of those behind it that are alike
abbrev pub told_at : List Row → ℕ → Row × ℕ
told_at rows i = slice_index_or (told_apart rows) i ([], 0)

-- the rows that stand with it in one partition
abbrev pub partition_at : List ℕ → List Row → ℕ → List Row
partition_at places rows i = partition_of places rows (row_at rows i)

-- How many rows of a partition stand before a row: those below it in the order, which is by the listed keys and then by all columns, and of
-- those that are alike the ones that are earlier in the list.
abbrev pub rows_before : List Key → (partition earlier : List Row) → Row → ℕ
rows_before keys partition earlier r = count_by (λ q. is_lt (window_cmp keys [] q r)) partition + count_by (same_row r) earlier
