-- Partitions as stretches of row numbers.
use Rattle.std.specs.Prelude.{◌≡◌, ℕ, ◌+◌, ◌<◌, List, [], ◌∷◌, map, length, drop, count_by, slice_index_or}
use Rattle.std.specs.List.{range_with_len}
use Rattle.vtl_cell.specs.Outcome.{Outcome}
use Rattle.vtl_cell.specs.Row.{Row, same_row}
use Rattle.vtl_cell.specs.declared.cell.Cell.{Cell}
use Rattle.vtl_rows.specs.Places.{row_at}
use Rattle.sql_tree.specs.declared.windows.Over.{Over}
use Rattle.sql_tree.specs.declared.windows.Window.{Window}
use Rattle.sql_tree.specs.declared.windows.WindowCall.{WindowCall}
use Rattle.sql_tree.specs.declared.word_groups.ShiftFunction.{ShiftFunction}
use Rattle.sql_tree.specs.declared.word_groups.ShiftFunction.TheVariants as shift
use Rattle.vtl_lists.specs.Perm.{Perm}
use Rattle.vtl_cell.specs.Sorted.{window_cmp}
use Rattle.vtl_lists.specs.Sorting.{Rises, le_by}
use Rattle.vtl_frames.specs.declared.picks.Shift as places
use Rattle.vtl_frames.specs.declared.picks.Shift.TheVariants as place
use Rattle.sql_meaning.specs.Values.{View}
use Rattle.sql_meaning.specs.Windows.{Stand, call_value, keys_of, partition_of, partition_places, window_value}

-- how many rows behind a place are the same as its row
abbrev pub behind : List Row → ℕ → ℕ
behind rows j = count_by (same_row (row_at rows j)) (drop (j + 1) rows)

-- each row has as many rows that are the same behind it as in the list of rows
abbrev pub IsTold : List Row → List ℕ → Type 0
IsTold rows [] = Unit {0}
IsTold rows (j ∷ js) = (count_by (λ k. same_row (row_at rows j) (row_at rows k)) js ≡ behind rows j) × IsTold rows js

-- the value of a window at the row of a number
abbrev pub window_at : View → Window → List Row → ℕ → Outcome Cell
window_at v w rows j = window_value v w rows (row_at rows j, behind rows j)

-- these are the numbers of a partition's rows, in the order of a window
pub record IsPartition (v : View) (o : Over) (rows : List Row) (run : List ℕ) : Type 0 where
  pub members : (i : ℕ) → i < length run → Perm (map (row_at rows) run) (partition_of (partition_places v o) rows (row_at rows (slice_index_or run i 0)))
  pub rises : Rises (λ j k. le_by (window_cmp (keys_of v o) []) (row_at rows j) (row_at rows k)) run
  pub told : IsTold rows run

-- the side to which a function of shifts looks
abbrev pub shift_in : ShiftFunction → places.Shift
shift_in shift.Lag = place.Lag
shift_in shift.Lead = place.Lead

-- a place of a stretch, which is a partition in order
abbrev pub stand_at : List Row → List ℕ → ℕ → Stand
stand_at rows run i = record { row = row_at rows (slice_index_or run i 0); place = i; ordered = map (row_at rows) run }

-- the values of a call at each place of a stretch
abbrev pub run_values : View → WindowCall → Over → List Row → List ℕ → List (Outcome Cell)
run_values v call over rows run = map (λ i. call_value v call over (stand_at rows run i)) (range_with_len 0 (length run))
