-- The values of windows over the rows that WHERE keeps.
use Rattle.std.specs.Prelude.{ℕ, ◌+◌, ◌-◌, unsigned_abs, Bool, true, false, List, [], ◌∷◌, map, filter, count_by, Option, Some, None, Ok}
use Rattle.std.specs.Option.{option_map_or}
use Rattle.vtl_cell.specs.Frames.{first_cell, frame_of, lag_of, last_cell, lead_of}
use Rattle.vtl_cell.specs.Frames as frame
use Rattle.vtl_cell.specs.Groups.{group_value, ratio_of}
use Rattle.vtl_cell.specs.Outcome.{Outcome}
use Rattle.vtl_cell.specs.Row.{Row, same_row}
use Rattle.vtl_decimal.specs.Settings.{Settings}
use Rattle.vtl_cell.specs.Sorted.{Key, in_order, row_rank, window_cmp}
use Rattle.vtl_lists.specs.Sorting.{le_by}
use Rattle.vtl_cell.specs.declared.cell.Cell.{Cell}
use Rattle.vtl_cell.specs.declared.cell.Cell.TheVariants as c
use Rattle.vtl_cell.specs.Literals.{integer_written}
use Rattle.vtl_rows.specs.Tables.{cells_at}
use Rattle.sql_tree.specs.Trees.{Text}
use Rattle.sql_tree.specs.declared.parts.Column.{Column}
use Rattle.sql_tree.specs.declared.parts.Literal.{Literal}
use Rattle.sql_tree.specs.declared.windows.Bound.{Bound}
use Rattle.sql_tree.specs.declared.windows.Bound.TheVariants as bound
use Rattle.sql_tree.specs.declared.windows.Frame.{Frame}
use Rattle.sql_tree.specs.declared.windows.Over.{Over}
use Rattle.sql_tree.specs.declared.windows.Window.{Window}
use Rattle.sql_tree.specs.declared.windows.WindowCall.{WindowCall}
use Rattle.sql_tree.specs.declared.windows.WindowCall.TheVariants as call
use Rattle.sql_tree.specs.declared.windows.WindowKey.{WindowKey}
use Rattle.sql_tree.specs.declared.word_groups.Direction.{Direction}
use Rattle.sql_tree.specs.declared.word_groups.Direction.TheVariants as direction
use Rattle.sql_tree.specs.declared.word_groups.ShiftFunction.{ShiftFunction}
use Rattle.sql_tree.specs.declared.word_groups.ShiftFunction.TheVariants as shift
use Rattle.sql_tree.specs.declared.word_groups.Side.{Side}
use Rattle.sql_tree.specs.declared.word_groups.Side.TheVariants as side
use Rattle.sql_tree.specs.declared.word_groups.ValueFunction.{ValueFunction}
use Rattle.sql_tree.specs.declared.word_groups.ValueFunction.TheVariants as value
use Rattle.sql_meaning.specs.Values.{View, cell_at, literal_cell}

-- ---- rows that are alike

-- Each row with the number of those behind it that are the same. So rows that are alike are told apart, and stand in every window in one
-- order, that of the list.
abbrev pub told_apart : List Row → List (Row × ℕ)
told_apart [] = []
told_apart (r ∷ rs) = (r, count_by (same_row r) rs) ∷ told_apart rs

-- ---- partitions and orders

abbrev pub partition_places : View → Over → List ℕ
partition_places v o = map v.place o.partition

-- the rows that agree with one on the columns of PARTITION BY, null being equal to null
abbrev pub partition_of : List ℕ → List Row → Row → List Row
partition_of places rows r = filter (λ q. same_row (cells_at places q) (cells_at places r)) rows

abbrev pub is_falling : Option Direction → Bool
is_falling (Some direction.Descending) = true
is_falling other = false

abbrev pub key_of : View → WindowKey → Key
key_of v x = record { place = v.place x.column; falling = is_falling x.direction }

abbrev pub keys_of : View → Over → List Key
keys_of v o = map (key_of v) o.order

-- The place of a row in its partition in order, which is by the listed keys and then by all columns: up to it stand the rows that are
-- not above it, but for those that are the same and come behind it.
abbrev pub place_within : List Key → List Row → Row × ℕ → ℕ
place_within keys partition x = count_by (λ q. le_by (window_cmp keys []) q x.0) partition - (x.1 + 1)

-- ---- frames

-- the number that digits write
abbrev pub count_of : Settings → Text → ℕ
count_of p digits = option_map_or unsigned_abs (integer_written p digits) 0

abbrev pub rows_to : Side → ℕ → frame.Bound
rows_to side.Preceding n = frame.Preceding n
rows_to side.Following n = frame.Following n

abbrev pub end_of : Side → frame.Bound
end_of side.Preceding = frame.UnboundedPreceding
end_of side.Following = frame.UnboundedFollowing

abbrev pub bound_of : Settings → Bound → frame.Bound
bound_of p (bound.Unbounded s) = end_of s
bound_of p (bound.Rows digits s) = rows_to s (count_of p digits)
bound_of p bound.CurrentRow = frame.Current

-- the cells of the frame; a call without one, which in a typed script takes none, sees the whole partition
abbrev pub framed : Settings → Option Frame → ℕ → List Cell → List Cell
framed p None i cells = cells
framed p (Some f) i cells = frame_of (bound_of p f.first) (bound_of p f.last) i cells

-- ---- calls

abbrev pub default_cell : Settings → Option Literal → Cell
default_cell p None = c.Null
default_cell p (Some l) = literal_cell p l

abbrev pub shifted : ShiftFunction → ℕ → Cell → ℕ → List Cell → Cell
shifted shift.Lag = lag_of
shifted shift.Lead = lead_of

-- a row, its place in its partition, and the partition in order
pub record Stand : Type 0 where
  pub row : Row
  pub place : ℕ
  pub ordered : List Row

abbrev pub stand_in : List Key → List Row → Row × ℕ → Stand
stand_in keys partition x = record { row = x.0; place = place_within keys partition x; ordered = in_order keys [] partition }

-- of the cell at the row and the cells of the partition
abbrev pub value_in : Settings → Option Frame → ValueFunction → Cell → ℕ → List Cell → Outcome Cell
value_in p f value.FirstValue x i cells = Ok (first_cell (framed p f i cells))
value_in p f value.LastValue x i cells = Ok (last_cell (framed p f i cells))
value_in p f value.RatioToReport x i cells = ratio_of p x cells

abbrev pub cells_of : View → Column → List Row → List Cell
cells_of v x rows = map (λ q. cell_at v q x) rows

abbrev pub call_value : View → WindowCall → Over → Stand → Outcome Cell
call_value v (call.Aggregate f x) o s = group_value v.base.settings f (framed v.base.settings o.frame s.place (cells_of v x s.ordered))
call_value v (call.Value f x) o s = value_in v.base.settings o.frame f (cell_at v s.row x) s.place (cells_of v x s.ordered)
call_value v (call.Shift f x digits default) o s = Ok (shifted f (count_of v.base.settings digits) (default_cell v.base.settings default) s.place (cells_of v x s.ordered))
call_value v call.Rank o s = row_rank v.base.settings (keys_of v o) s.row s.ordered

-- the value of a window at one of the rows
abbrev pub window_value : View → Window → List Row → Row × ℕ → Outcome Cell
window_value v w rows x = call_value v w.call w.over (stand_in (keys_of v w.over) (partition_of (partition_places v w.over) rows x.0) x)
