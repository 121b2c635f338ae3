-- Rows by their keys: each row has a lead, the first row that has its key.
use Rattle.std.specs.Prelude.{ℕ, List, map, filter, length}
use Rattle.std.specs.List.{position_or_len, range_with_len}
use Rattle.vtl_cell.specs.Row.{Row, same_row}
use Rattle.vtl_rows.specs.Places.{row_at}

-- for each row, the first row that has its key
abbrev pub leads_of : (Row → Row) → List Row → List ℕ
leads_of key rows = map (λ r. position_or_len (λ s. same_row (key s) (key r)) rows) rows

-- the numbers of the rows that have a key, rising
abbrev pub rows_with : (Row → Row) → List Row → Row → List ℕ
rows_with key rows k = filter (λ i. same_row (key (row_at rows i)) k) (range_with_len 0 (length rows))
