-- For each row that asks, the rows that it finds.
use Rattle.std.specs.Prelude.{ℕ, List, map}
use Rattle.std.specs.List.{range_with_len}
use Rattle.vtl_cell.specs.Row.{Row}
use Rattle.vtl_rows.specs.Places.{row_at}
use Rattle.vtl_index.specs.RowIndex.{RowLookup, first_found, found_rows}
use Rattle.vtl_index.specs.RowKeys.{key_at}
use Rattle.vtl_index.specs.declared.row_keys.KeyColumn.{KeyColumn}

-- the look-up, the columns of the same cells in rows that ask, and these rows
pub record Matched : Type 0 where
  pub index : RowLookup
  pub at : List KeyColumn
  pub asking : List Row

-- the keys of rows that ask; past the last of them, that of a row without cells
abbrev pub asked_keys : Matched → ℕ → Row
asked_keys m i = key_at m.index.p m.at (row_at m.asking i)

-- the rows that the row at a place finds
abbrev pub matched : Matched → ℕ → List ℕ
matched m i = found_rows m.index (asked_keys m i)

-- the first rows that are found by so many keys
abbrev pub firsts_by : RowLookup → (ℕ → Row) → ℕ → List ℕ
firsts_by x keys count = map (λ i. first_found x (keys i)) (range_with_len 0 count)
