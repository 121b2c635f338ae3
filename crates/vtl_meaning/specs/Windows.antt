-- What a call over a window gives at a point. The points that agree with it on the components of the partition stand in an order, the call
-- sees those in a frame round its place, and its value is one of their cells or of all of them.
use Rattle.std.specs.Prelude.{ℕ, List, [], ◌∷◌, map, count_by, Option, Ok, unwrap_or}
use Rattle.std.specs.Option.{option_map_or}
use Rattle.std.specs.Ordering.{is_lt}
use Rattle.std.specs.declared.cmp.Ordering.{Ordering}
use Rattle.vtl_cell.specs.Frames.{first_cell, frame_of, lag_of, last_cell, lead_of}
use Rattle.vtl_cell.specs.Frames as frame
use Rattle.vtl_cell.specs.Groups.{group_value, ratio_of}
use Rattle.vtl_cell.specs.Outcome.{Outcome}
use Rattle.vtl_cell.specs.Row.{Row, column_of}
use Rattle.vtl_decimal.specs.Settings.{Settings}
use Rattle.vtl_cell.specs.Sorted.{Key, in_order, row_rank, window_cmp}
use Rattle.vtl_cell.specs.declared.cell.Cell.{Cell}
use Rattle.vtl_cell.specs.declared.cell.Cell.TheVariants as c
use Rattle.vtl_cell.specs.declared.operator.AggKind.TheVariants as agg
use Rattle.vtl_rows.specs.Tables.{cells_at}
use Rattle.vtl_tree.specs.Environment.{DataSet}
use Rattle.vtl_tree.specs.Structure.{columns_of}
use Rattle.vtl_tree.specs.declared.structure.Component.{Component}
use Rattle.vtl_tree.specs.declared.structure.Structure.{Structure}
use Rattle.vtl_tree.specs.declared.calls.AnalyticCall.{AnalyticCall}
use Rattle.vtl_tree.specs.declared.calls.AnalyticOp.{AnalyticOp}
use Rattle.vtl_tree.specs.declared.calls.AnalyticOp.TheVariants as op
use Rattle.vtl_tree.specs.declared.calls.Bound.{Bound}
use Rattle.vtl_tree.specs.declared.calls.Bound.TheVariants as bound
use Rattle.vtl_tree.specs.declared.calls.Frame.{Frame}
use Rattle.vtl_tree.specs.declared.calls.OrderKey.{OrderKey}
use Rattle.vtl_tree.specs.declared.calls.Window.{Window}
use Rattle.vtl_tree.specs.Columns.{identifiers_of, place_of, places_in}
use Rattle.vtl_meaning.specs.Groups.{places_named, points_with}

-- ---- partitions and their order

-- the points that agree with one on the components of the partition, null being equal to null
abbrev pub partition_of : DataSet → Window → Row → List Row
partition_of d w r = let places = places_named w.partition (columns_of d.structure) in points_with places d.points (cells_at places r)

abbrev pub key_in : List Component → OrderKey → Key
key_in xs k = record { place = place_of k.component xs; falling = k.falling }

-- the listed components, by their places
abbrev pub keys_in : List Component → Window → List Key
keys_in xs w = map (key_in xs) w.order

abbrev pub identifier_places : Structure → List ℕ
identifier_places a = places_in (columns_of a) (identifiers_of a)

-- by the listed components, null first, each turned round where it falls, and then by all identifiers, rising
abbrev pub point_cmp : Structure → Window → Row → Row → Ordering
point_cmp a w = window_cmp (keys_in (columns_of a) w) (identifier_places a)

-- a point, its place in its partition, counted from 0, and the partition in order
pub record Stand : Type 0 where
  pub point : Row
  pub place : ℕ
  pub ordered : List Row

-- as many points stand before it as its place says
abbrev pub stand_of : DataSet → Window → Row → Stand
stand_of d w r = record {
  point = r;
  place = count_by (λ q. is_lt (point_cmp d.structure w q r)) (partition_of d w r);
  ordered = in_order (keys_in (columns_of d.structure) w) (identifier_places d.structure) (partition_of d w r);
}

-- ---- frames

abbrev pub bound_of : Bound → frame.Bound
bound_of bound.UnboundedPreceding = frame.UnboundedPreceding
bound_of (bound.Preceding n) = frame.Preceding n
bound_of bound.Current = frame.Current
bound_of (bound.Following n) = frame.Following n
bound_of bound.UnboundedFollowing = frame.UnboundedFollowing

-- where no frame is written: up to the point itself where there is an order, and otherwise the whole partition
abbrev pub default_frame : List OrderKey → Frame
default_frame [] = record { start = bound.UnboundedPreceding; end = bound.UnboundedFollowing }
default_frame (k ∷ ks) = record { start = bound.UnboundedPreceding; end = bound.Current }

abbrev pub frame_in : Window → Frame
frame_in w = unwrap_or w.frame (default_frame w.order)

-- what the frame holds of a partition, seen from a place
abbrev pub framed : {A : Type 0} → Window → ℕ → List A → List A
framed w i items = frame_of (bound_of (frame_in w).start) (bound_of (frame_in w).end) i items

-- ---- calls

-- the cell of the component of a call, of which `rank` has none
abbrev pub argument : List Component → Option (List ℕ) → Row → Cell
argument xs component r = option_map_or (λ name. column_of (place_of name xs) r) component c.Null

-- the cells in the frame
abbrev pub seen : Window → (Row → Cell) → Stand → List Cell
seen w at s = framed w s.place (map at s.ordered)

-- The value of an operator. An aggregate is one of the cells in the frame, where nulls are passed over; the first and the last value are
-- cells at its ends, nulls or not. `lag`, `lead`, `rank` and `ratio_to_report` see the whole partition.
abbrev pub op_value : Settings → List Component → Window → (Row → Cell) → AnalyticOp → Stand → Outcome Cell
op_value p xs w at op.Sum s = group_value p agg.Sum (seen w at s)
op_value p xs w at op.Avg s = group_value p agg.Avg (seen w at s)
op_value p xs w at op.Count s = group_value p agg.Count (seen w at s)
op_value p xs w at op.Min s = group_value p agg.Min (seen w at s)
op_value p xs w at op.Max s = group_value p agg.Max (seen w at s)
op_value p xs w at op.FirstValue s = Ok (first_cell (seen w at s))
op_value p xs w at op.LastValue s = Ok (last_cell (seen w at s))
op_value p xs w at (op.Lag n default) s = Ok (lag_of n default s.place (map at s.ordered))
op_value p xs w at (op.Lead n default) s = Ok (lead_of n default s.place (map at s.ordered))
op_value p xs w at op.Rank s = row_rank p (keys_in xs w) s.point s.ordered
op_value p xs w at op.RatioToReport s = ratio_of p (at s.point) (map at s.ordered)

-- the value of a call at a point of a data set
abbrev pub call_value : Settings → DataSet → AnalyticCall → Row → Outcome Cell
call_value p d call r = op_value p (columns_of d.structure) call.window (argument (columns_of d.structure) call.component) call.op (stand_of d call.window r)
