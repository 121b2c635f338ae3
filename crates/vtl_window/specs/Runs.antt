-- Partitions as stretches of row numbers.
use Rattle.std.specs.Prelude.{ℕ, List, length, map, slice_index_or}
use Rattle.std.specs.List.{range_with_len}
use Rattle.vtl_cell.specs.Outcome.{Outcome}
use Rattle.vtl_cell.specs.Row.{Row}
use Rattle.vtl_decimal.specs.Settings.{Settings}
use Rattle.vtl_cell.specs.declared.cell.Cell.{Cell}
use Rattle.vtl_rows.specs.Places.{row_at}
use Rattle.vtl_tree.specs.declared.structure.Component.{Component}
use Rattle.vtl_tree.specs.declared.calls.AnalyticCall.{AnalyticCall}
use Rattle.vtl_meaning.specs.Windows.{Stand, argument, op_value}

-- a place of a stretch, which is a partition in order
abbrev pub stand_at : List Row → List ℕ → ℕ → Stand
stand_at rows run i = record { point = row_at rows (slice_index_or run i 0); place = i; ordered = map (row_at rows) run }

-- the value of a call at a stand
abbrev pub value_at : Settings → List Component → AnalyticCall → Stand → Outcome Cell
value_at p xs call s = op_value p xs call.window (argument xs call.component) call.op s

-- the values of a call at each place of a stretch
abbrev pub run_values : Settings → List Component → AnalyticCall → List Row → List ℕ → List (Outcome Cell)
run_values p xs call rows run = map (λ i. value_at p xs call (stand_at rows run i)) (range_with_len 0 (length run))
