-- Cells at the ends of frames, and cells some places away.
use Rattle.std.specs.Prelude.{ℕ, ◌+◌, ◌-◌, nat_le, nat_lt, List, Option, Some, None, if◌then◌else◌}
use Rattle.vtl_cell.specs.Frames.{first_cell, lag_of, last_cell, lead_of}
use Rattle.vtl_cell.specs.Row.{column_of}
use Rattle.vtl_cell.specs.declared.cell.Cell.{Cell}
use Rattle.vtl_frames.specs.declared.picks.End.{End}
use Rattle.vtl_frames.specs.declared.picks.End.TheVariants as ends
use Rattle.vtl_frames.specs.declared.picks.Shift.{Shift}
use Rattle.vtl_frames.specs.declared.picks.Shift.TheVariants as shift

abbrev pub end_cell : End → List Cell → Cell
end_cell ends.First = first_cell
end_cell ends.Last = last_cell

abbrev pub shifted : Shift → ℕ → Cell → ℕ → List Cell → Cell
shifted shift.Lag = lag_of
shifted shift.Lead = lead_of

-- ---- by places

-- the place of the cell at an end of a frame that has the places from one to before another
abbrev pub end_place : End → ℕ → ℕ → Option ℕ
end_place ends.First a b = if nat_lt a b then Some a else None
end_place ends.Last a b = if nat_lt a b then Some (b - 1) else None

-- the place so many places away from a place of n
abbrev pub place_away : Shift → ℕ → ℕ → ℕ → Option ℕ
place_away shift.Lag distance n i = if nat_le distance i then Some (i - distance) else None
place_away shift.Lead distance n i = if nat_lt distance (n - i) then Some (i + distance) else None

-- the cell at a place, or another where there is none
abbrev pub cell_or : Cell → List Cell → Option ℕ → Cell
cell_or default cells None = default
cell_or default cells (Some k) = column_of k cells
