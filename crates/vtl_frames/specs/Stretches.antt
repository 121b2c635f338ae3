-- A list of row numbers, cut where the rows no longer tie.
use Rattle.std.specs.Prelude.{ℕ, ◌+◌, ◌-◌, ◌<◌, ◌≤◌, List, drop, filter, length, map, slice_index_or, take}
use Rattle.std.specs.List.{range_with_len}
use Rattle.vtl_cell.specs.Row.{Row}
use Rattle.vtl_rows.specs.Runs.{is_start}
use Rattle.vtl_rows.specs.declared.column.SortKey.{SortKey}

-- where a stretch begins, by the starts of all stretches of so many rows; past the last one their number
abbrev pub start_at : List ℕ → ℕ → ℕ → ℕ
start_at starts count i = slice_index_or starts i count

-- the numbers from one start up to the next
abbrev pub stretch_at : List ℕ → List ℕ → ℕ → List ℕ
stretch_at numbers starts i = take (start_at starts (length numbers) (i + 1) - start_at starts (length numbers) i) (drop (start_at starts (length numbers) i) numbers)

-- the numbers cut at these starts
abbrev pub cut_at : List ℕ → List ℕ → List (List ℕ)
cut_at numbers starts = map (stretch_at numbers starts) (range_with_len 0 (length starts))

-- the stretches of rows that tie by the keys
abbrev pub stretches_of : List SortKey → List Row → List ℕ → List (List ℕ)
stretches_of keys rows numbers = cut_at numbers (filter (is_start keys rows numbers) (range_with_len 0 (length numbers)))

-- the numbers can be cut at these starts
pub record AreStarts (numbers starts : List ℕ) : Type 0 where
  pub rise : (i : ℕ) → i < length starts → start_at starts (length numbers) i ≤ start_at starts (length numbers) (i + 1)
  pub within : (i : ℕ) → i < length starts → start_at starts (length numbers) (i + 1) ≤ length numbers
