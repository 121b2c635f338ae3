-- Ranks of the rows of a partition, and rows in order.
use Rattle.std.specs.Prelude.{ℕ, List, map, pos}
use Rattle.vtl_cell.specs.Outcome.{Outcome}
use Rattle.vtl_cell.specs.Row.{Row}
use Rattle.vtl_cell.specs.ScalarArithmetic.{integer}
use Rattle.vtl_cell.specs.Sorted.{by_keys, row_rank}
use Rattle.vtl_cell.specs.declared.cell.Cell.{Cell}
use Rattle.vtl_decimal.specs.Range.{fit_integer}
use Rattle.vtl_decimal.specs.Settings.{Settings}
use Rattle.vtl_lists.specs.Sorting.{Rises, le_by}
use Rattle.vtl_rows.specs.Keys.{key_of}
use Rattle.vtl_rows.specs.Places.{row_at}
use Rattle.vtl_rows.specs.declared.column.SortKey.{SortKey}

-- a count as a value
abbrev pub count_in : Settings → ℕ → Outcome Cell
count_in p n = integer (fit_integer p.scale (pos n))

-- of rows by their numbers none is before the one in front of it by the keys
abbrev pub AreInOrder : List SortKey → List Row → List ℕ → Type 0
AreInOrder keys rows numbers = Rises (λ j k. le_by (by_keys (map key_of keys)) (row_at rows j) (row_at rows k)) numbers

-- the rank that each row of a partition has in it by the keys
abbrev pub ranks_in : Settings → List SortKey → List Row → List ℕ → List (Outcome Cell)
ranks_in p keys rows run = map (λ k. row_rank p (map key_of keys) (row_at rows k) (map (row_at rows) run)) run
