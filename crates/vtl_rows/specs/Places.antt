-- Rows by their places in a table.
use Rattle.std.specs.Prelude.{◌≡◌, ℕ, ◌+◌, ◌<◌, ◌&&◌, Bool, false, List, [], map, length, nat_lt, slice_index, slice_index_or, IsPermutation}
use Rattle.std.specs.List.{range_with_len}
use Rattle.std.specs.List.Sorted.{IsSorted}
use Rattle.std.specs.Ordering.{is_lt, on, ordering_then, nat_cmp, then_cmp}
use Rattle.vtl_cell.specs.Row.{Row}
use Rattle.vtl_cell.specs.Sorted.{by_keys}
use Rattle.vtl_rows.specs.declared.column.SortKey.{SortKey}
use Rattle.vtl_rows.specs.Keys.{key_of, ordered, tie_by}

-- the row at a place, or no cells past the last
abbrev pub row_at : List Row → ℕ → Row
row_at rows i = slice_index_or rows i []

-- a number that stands behind a word
abbrev pub number_at : ℕ × ℕ → ℕ
number_at pair = pair.1

-- the places of a table's rows, each once, in the order of the keys; those of rows that tie rise
pub record IsOrderOf (keys : List SortKey) (rows : List Row) (places : List ℕ) : Type 0 where
  pub all : IsPermutation (range_with_len 0 (length rows)) places
  pub sorted : map (row_at rows) places ≡ ordered keys rows
  pub placed : IsSorted (then_cmp (on (row_at rows) (by_keys (map key_of keys))) nat_cmp) places

-- whether the row at a place ties with one at a place before it
abbrev pub ties_before : List SortKey → List Row → ℕ → ℕ → Bool
ties_before keys rows before place = nat_lt before place && tie_by keys (row_at rows before) (row_at rows place)
