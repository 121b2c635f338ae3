-- Bounds as they are written.
use Rattle.vtl_decimal.specs.Settings.{Settings}
use Rattle.vtl_frames.specs.declared.bounds.Bound as places
use Rattle.vtl_frames.specs.declared.bounds.Bound.TheVariants as place
use Rattle.sql_tree.specs.declared.windows.Bound.{Bound}
use Rattle.sql_tree.specs.declared.windows.Bound.TheVariants as bound
use Rattle.sql_tree.specs.declared.word_groups.Side.TheVariants as side
use Rattle.sql_meaning.specs.Windows.{count_of}

abbrev pub bound_in : Settings → Bound → places.Bound
bound_in p (bound.Unbounded side.Preceding) = place.UnboundedPreceding
bound_in p (bound.Unbounded side.Following) = place.UnboundedFollowing
bound_in p (bound.Rows digits side.Preceding) = place.Preceding (count_of p digits)
bound_in p (bound.Rows digits side.Following) = place.Following (count_of p digits)
bound_in p bound.CurrentRow = place.Current
