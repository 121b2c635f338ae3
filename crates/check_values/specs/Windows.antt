-- The windows of analytic calls, over the components of an operand.
use Rattle.std.specs.Prelude.{ℕ, ℤ, pos, unsigned_abs, Bool, true, false, not, ◌&&◌, List, [], ◌∷◌, Option, Some, None, Result, Ok, Err, if◌then◌else◌}
use Rattle.std.specs.Int.RustNames.{int_le}
use Rattle.std.specs.List.{list_any}
use Rattle.vtl_decimal.specs.Settings.{Settings}
use Rattle.vtl_syntax.specs.declared.parts.Comp.{Comp}
use Rattle.vtl_syntax.specs.declared.parts.DataPoints.{DataPoints}
use Rattle.vtl_syntax.specs.declared.parts.Limit.{Limit}
use Rattle.vtl_syntax.specs.declared.parts.Limit.TheVariants as limit
use Rattle.vtl_syntax.specs.declared.parts.OrderPart.{OrderPart}
use Rattle.vtl_syntax.specs.declared.parts.OverPart.{OverPart}
use Rattle.vtl_syntax.specs.declared.word_groups.Direction.{Direction}
use Rattle.vtl_syntax.specs.declared.word_groups.Direction.TheVariants as direction
use Rattle.vtl_syntax.specs.declared.word_groups.Side.{Side}
use Rattle.vtl_syntax.specs.declared.word_groups.Side.TheVariants as side
use Rattle.vtl_tree.specs.Structure.{same_name}
use Rattle.vtl_tree.specs.declared.structure.Component.{Component}
use Rattle.vtl_tree.specs.declared.calls.Bound.{Bound}
use Rattle.vtl_tree.specs.declared.calls.Bound.TheVariants as bound
use Rattle.vtl_tree.specs.declared.calls.Frame.{Frame}
use Rattle.vtl_tree.specs.declared.calls.OrderKey.{OrderKey}
use Rattle.vtl_tree.specs.declared.calls.Window.{Window}
use Rattle.vtl_tree.specs.Names.{name_of}
use Rattle.vtl_cell.specs.Literals.{integer_written, longest_reach}
use Rattle.vtl_lists.specs.Results.{◌>>=◌}
use Rattle.check_faults.specs.InTurn.{in_turn}
use Rattle.check_faults.specs.Rules.{ruled}
use Rattle.check_faults.specs.declared.rules.Rule.{Rule}
use Rattle.check_faults.specs.declared.rules.Rule.TheVariants as rule

abbrev pub is_known : List ℕ → List Component → Bool
is_known name columns = list_any (λ x. same_name x.name name) columns

-- a name behind others: it is that of a component, and not one of them
abbrev pub name_form : (known repeated : Bool) → Result (Unit {0}) Rule
name_form known repeated = ruled ((rule.UnknownComponent, not known) ∷ (rule.RepeatedName, repeated) ∷ []) (tt {0})

-- a name of `partition by`, behind others
abbrev pub part_typed : List Component → List (List ℕ) → Comp → Result (List ℕ) Rule
part_typed columns before c = name_form (is_known (name_of c) columns) (list_any (same_name (name_of c)) before) >>= λ u. Ok (name_of c)

-- the names of `partition by`
abbrev pub partition_typed : List Component → List Comp → Result (List (List ℕ)) Rule
partition_typed columns cs = in_turn (part_typed columns) [] cs

abbrev pub is_falling : Option Direction → Bool
is_falling (Some direction.Descending) = true
is_falling (Some direction.Ascending) = false
is_falling None = false

abbrev pub key_of : OrderPart → OrderKey
key_of o = record { component = name_of o.component; falling = is_falling o.direction }

-- a key behind others
abbrev pub key_typed : List Component → List OrderKey → OrderPart → Result OrderKey Rule
key_typed columns done o = name_form (is_known (name_of o.component) columns) (list_any (λ x. same_name (name_of o.component) x.component) done) >>= λ u. Ok (key_of o)

-- the keys of `order by`
abbrev pub order_typed : List Component → List OrderPart → Result (List OrderKey) Rule
order_typed columns os = in_turn (key_typed columns) [] os

-- a number of points that digits write, no farther than a frame or an offset may reach
abbrev pub points_in : Option ℤ → Result ℕ Rule
points_in None = Err rule.WrongLiteral
points_in (Some n) = if int_le (pos 0) n && int_le n longest_reach then Ok (unsigned_abs n) else Err rule.WrongLiteral

abbrev pub points_typed : Settings → List ℕ → Result ℕ Rule
points_typed p digits = points_in (integer_written p digits)

abbrev pub points_at : Side → ℕ → Bound
points_at side.Preceding n = bound.Preceding n
points_at side.Following n = bound.Following n

abbrev pub unbounded_at : Side → Bound
unbounded_at side.Preceding = bound.UnboundedPreceding
unbounded_at side.Following = bound.UnboundedFollowing

abbrev pub bound_typed : Settings → Limit → Result Bound Rule
bound_typed p (limit.Unbounded s) = Ok (unbounded_at s)
bound_typed p (limit.Points digits s) = points_typed p digits >>= λ n. Ok (points_at s n)
bound_typed p limit.Current = Ok bound.Current

abbrev pub frame_typed : Settings → Option DataPoints → Result (Option Frame) Rule
frame_typed p None = Ok None
frame_typed p (Some d) = bound_typed p d.from >>= λ a. bound_typed p d.to >>= λ b. Ok (Some (record { start = a; end = b }))

abbrev pub or_none : {A : Type 0} → Option (List A) → List A
or_none (Some xs) = xs
or_none None = []

-- a window where there are no components that its names could stand for: its frame alone
abbrev pub frame_alone : Settings → OverPart → Result Window Rule
frame_alone p o = frame_typed p o.points >>= λ f. Ok (record { partition = []; order = []; frame = f })

-- a window: its partition, its order and its frame
abbrev pub window_typed : Settings → List Component → OverPart → Result Window Rule
window_typed p columns o =
    partition_typed columns (or_none o.partition) >>= λ names. order_typed columns (or_none o.order) >>= λ keys. frame_typed p o.points >>= λ f. Ok (record { partition = names; order = keys; frame = f })
