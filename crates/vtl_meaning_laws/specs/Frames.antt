-- Two frames, and an order that is turned round.
use Rattle.std.specs.Prelude.{not, map}
use Rattle.vtl_tree.specs.declared.calls.Bound.TheVariants as bound
use Rattle.vtl_tree.specs.declared.calls.Frame.{Frame}
use Rattle.vtl_tree.specs.declared.calls.OrderKey.{OrderKey}
use Rattle.vtl_tree.specs.declared.calls.Window.{Window}

-- that of running aggregates, which is the default where there is an order
abbrev pub from_first_to_current : Frame
from_first_to_current = record { start = bound.UnboundedPreceding; end = bound.Current }

abbrev pub of_current_alone : Frame
of_current_alone = record { start = bound.Current; end = bound.Current }

-- each listed component with `desc` in the place of `asc`, and `asc` in that of `desc`
abbrev pub turned_key : OrderKey → OrderKey
turned_key k = record k { falling = not k.falling }

abbrev pub turned_round : Window → Window
turned_round w = record w { order = map turned_key w.order }
