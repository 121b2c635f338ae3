-- Which cells of a partition a frame has, and what is made at each place.
use Rattle.std.specs.Prelude.{ℕ, ◌-◌, List, length, map, min}
use Rattle.std.specs.List.{range_with_len}
use Rattle.vtl_cell.specs.Frames as frame
use Rattle.vtl_cell.specs.Outcome.{Outcome}
use Rattle.vtl_cell.specs.Row.{column_of}
use Rattle.vtl_cell.specs.declared.cell.Cell.{Cell}
use Rattle.vtl_frames.specs.declared.bounds.Bound.{Bound}
use Rattle.vtl_frames.specs.declared.bounds.Bound.TheVariants as bound
use Rattle.vtl_frames.specs.declared.bounds.Frame.{Frame}

-- what is made at each place of a partition
abbrev pub at_each : (ℕ → Outcome Cell) → List Cell → List (Outcome Cell)
at_each f cells = map f (range_with_len 0 (length cells))

abbrev pub bound_of : Bound → frame.Bound
bound_of bound.UnboundedPreceding = frame.UnboundedPreceding
bound_of (bound.Preceding n) = frame.Preceding n
bound_of bound.Current = frame.Current
bound_of (bound.Following n) = frame.Following n
bound_of bound.UnboundedFollowing = frame.UnboundedFollowing

-- the cells of the frame of the row at a place
abbrev pub framed : Frame → ℕ → List Cell → List Cell
framed f i cells = frame.frame_of (bound_of f.first) (bound_of f.last) i cells

-- ---- by places

-- of n rows the frame at place i has those from one place to before another
abbrev pub end_of : Frame → ℕ → ℕ → ℕ
end_of f n i = min (frame.up_to (bound_of f.last) n i) n

abbrev pub start_of : Frame → ℕ → ℕ → ℕ
start_of f n i = min (min (frame.before (bound_of f.first) n i) n) (end_of f n i)

-- the places from one to before another
abbrev pub places_from : ℕ → ℕ → List ℕ
places_from a b = range_with_len a (b - a)

-- the cells at these places
abbrev pub cells_at : List Cell → List ℕ → List Cell
cells_at cells places = map (λ k. column_of k cells) places
