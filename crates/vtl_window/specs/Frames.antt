-- Bounds and frames as they are taken along a partition.
use Rattle.vtl_frames.specs.declared.bounds.Bound as places
use Rattle.vtl_frames.specs.declared.bounds.Bound.TheVariants as place
use Rattle.vtl_frames.specs.declared.bounds.Frame as taken
use Rattle.vtl_tree.specs.declared.calls.Bound.{Bound}
use Rattle.vtl_tree.specs.declared.calls.Bound.TheVariants as bound
use Rattle.vtl_tree.specs.declared.calls.Frame.{Frame}

abbrev pub bound_in : Bound → places.Bound
bound_in bound.UnboundedPreceding = place.UnboundedPreceding
bound_in (bound.Preceding n) = place.Preceding n
bound_in bound.Current = place.Current
bound_in (bound.Following n) = place.Following n
bound_in bound.UnboundedFollowing = place.UnboundedFollowing

abbrev pub taken_frame : Frame → taken.Frame
taken_frame f = record { first = bound_in f.start; last = bound_in f.end }
