-- How far the offsets and the frames of analytic calls reach.
use Rattle.std.specs.Prelude.{◌≡◌, ℕ, pos, Bool, true, ◌&&◌}
use Rattle.std.specs.Int.RustNames.{int_le}
use Rattle.std.specs.List.{AllByRecursion}
use Rattle.std.specs.Option.{option_map_or}
use Rattle.vtl_cell.specs.Literals.{longest_reach}
use Rattle.vtl_tree.specs.Trees as nodes
use Rattle.vtl_tree.specs.Trees.{AnalyticTree, ValueTree}
use Rattle.vtl_tree.specs.declared.calls.AnalyticOp.{AnalyticOp}
use Rattle.vtl_tree.specs.declared.calls.AnalyticOp.TheVariants as op
use Rattle.vtl_tree.specs.declared.calls.Bound.{Bound}
use Rattle.vtl_tree.specs.declared.calls.Bound.TheVariants as bound
use Rattle.vtl_tree.specs.declared.calls.Frame.{Frame}
use Rattle.vtl_tree.specs.declared.calls.Window.{Window}

-- so many points away is not too far
abbrev pub is_near : ℕ → Bool
is_near n = int_le (pos n) longest_reach

abbrev pub is_near_bound : Bound → Bool
is_near_bound (bound.Preceding n) = is_near n
is_near_bound (bound.Following n) = is_near n
is_near_bound b = true

abbrev pub is_near_frame : Frame → Bool
is_near_frame f = is_near_bound f.start && is_near_bound f.end

abbrev pub is_near_window : Window → Bool
is_near_window w = option_map_or is_near_frame w.frame true

-- the offset of `lag` and `lead`
abbrev pub is_near_operator : AnalyticOp → Bool
is_near_operator (op.Lag n default) = is_near n
is_near_operator (op.Lead n default) = is_near n
is_near_operator o = true

pub record IsNear (o : AnalyticOp) (w : Window) : Type 0 where
  pub offset : is_near_operator o ≡ true
  pub frame : is_near_window w ≡ true

-- a target of `calc`, where it is a call
abbrev pub IsNearValue : ValueTree → Type 0
IsNearValue (nodes.scalar e) = Unit {0}
IsNearValue (nodes.analytic call) = IsNear call.op call.window

abbrev pub AreNear : AnalyticTree → Type 0
AreNear (nodes.of_measures o w) = IsNear o w
AreNear (nodes.of_items items) = AllByRecursion (λ i. IsNearValue i.value) items
