-- How far the offsets and the frames of analytic calls reach.
use Rattle.std.proofs.Common.{◌≡◌, ℕ, Bool, true, false, cond, ◌&&◌, List, [], Option, Some, None, Ok, Err, refl, ap, ◌∙◌}
use Rattle.std.specs.Int.RustNames.{int_le}
use Rattle.std.specs.Option.{option_map_or}
use Rattle.std.specs.Prelude.{ℤ, pos, negsuc}
use Rattle.std.proofs.lemmas.Bool.{and_parts}
use Rattle.vtl_lists.specs.Results.{◌>>=◌}
use Rattle.vtl_decimal.specs.Settings.{Settings}
use Rattle.vtl_cell.specs.declared.cell.Cell.{Cell}
use Rattle.vtl_cell.specs.declared.kind.Kind.{Kind}
use Rattle.check_faults.specs.declared.rules.Rule.TheVariants as rule
use Rattle.vtl_syntax.specs.Trees as tree
use Rattle.vtl_syntax.specs.Trees.{Exp}
use Rattle.vtl_syntax.specs.declared.parts.DataPoints.{DataPoints}
use Rattle.vtl_syntax.specs.declared.parts.Limit.{Limit}
use Rattle.vtl_syntax.specs.declared.parts.Limit.TheVariants as limit
use Rattle.vtl_syntax.specs.declared.parts.Literal.{Literal}
use Rattle.vtl_syntax.specs.declared.parts.OverPart.{OverPart}
use Rattle.vtl_syntax.specs.declared.word_groups.AggregateName.{AggregateName}
use Rattle.vtl_syntax.specs.declared.word_groups.AggregateName.TheVariants as aggregate
use Rattle.vtl_syntax.specs.declared.word_groups.ShiftName.{ShiftName}
use Rattle.vtl_syntax.specs.declared.word_groups.ShiftName.TheVariants as shift
use Rattle.vtl_syntax.specs.declared.word_groups.Side.{Side}
use Rattle.vtl_syntax.specs.declared.word_groups.Side.TheVariants as side
use Rattle.vtl_syntax.specs.declared.word_groups.ValueWindowName.{ValueWindowName}
use Rattle.vtl_syntax.specs.declared.word_groups.ValueWindowName.TheVariants as window
use Rattle.vtl_cell.specs.Literals.{integer_written, longest_reach}
use Rattle.vtl_tree.specs.declared.structure.Component.{Component}
use Rattle.vtl_tree.specs.declared.calls.Frame.{Frame}
use Rattle.vtl_tree.specs.declared.calls.Window.{Window}
use Rattle.check_values.specs.Windows.{bound_typed, frame_alone, frame_typed, or_none, order_typed, partition_typed, points_at, points_in, points_typed, window_typed}
use Rattle.check_operators.specs.Typed.{TypedTree, dataset, value}
use Rattle.check_operators.specs.declared.places.Place.{Place}
use Rattle.check_operators.specs.declared.places.Place.TheVariants as place
use Rattle.check_groups.specs.Windowed.{call_typed, default_typed, kinds_beside, of_aggregate, of_shift, of_window, or_count, over_of, over_parts, over_window, shift_call, window_at}
use Rattle.check_groups.specs.declared.calls.Call.{Call}
use Rattle.check_groups.specs.declared.calls.Needed.TheVariants as needed
use Rattle.vtl_meaning.specs.Reaches.{IsNear, is_near, is_near_bound, is_near_frame, is_near_operator, is_near_window}
use Rattle.check_laws.specs.Gives.{Gives}
use Rattle.check_laws.proofs.Steps.{after, then}
use Rattle.check_operators.specs.Places.{columns_in}

pub points-near : (o : Option ℤ) → Gives (λ n. is_near n ≡ true) (points_in o)
points-near None = tt
points-near (Some (pos n)) = go (int_le (pos 0) (pos n) && int_le (pos n) longest_reach) refl
  where
    go : (b : Bool) → (int_le (pos 0) (pos n) && int_le (pos n) longest_reach) ≡ b → Gives (λ n. is_near n ≡ true) (cond b (Ok n) (Err rule.WrongLiteral))
    go true e = (and_parts (int_le (pos 0) (pos n)) (int_le (pos n) longest_reach) e).1
    go false e = tt
points-near (Some (negsuc n)) = tt

bound-near : (p : Settings) (l : Limit) → Gives (λ b. is_near_bound b ≡ true) (bound_typed p l)
bound-near p (limit.Unbounded side.Preceding) = refl
bound-near p (limit.Unbounded side.Following) = refl
bound-near p (limit.Points digits s) = then (λ n. is_near n ≡ true) (λ b. is_near_bound b ≡ true) (points_typed p digits) (λ n. Ok (points_at s n)) (points-near (integer_written p digits)) (on s)
  where
    on : (s : Side) (n : ℕ) → is_near n ≡ true → is_near_bound (points_at s n) ≡ true
    on side.Preceding n h = h
    on side.Following n h = h
bound-near p limit.Current = refl

frame-near : (p : Settings) (d : Option DataPoints) → Gives (λ f. option_map_or is_near_frame f true ≡ true) (frame_typed p d)
frame-near p None = refl
frame-near p (Some d) =
    then (λ a. is_near_bound a ≡ true) Q (bound_typed p d.from) (λ a. bound_typed p d.to >>= λ b. Ok (Some (record { start = a; end = b }))) (bound-near p d.from)
    (λ a near. then (λ b. is_near_bound b ≡ true) Q (bound_typed p d.to) (λ b. Ok (Some (record { start = a; end = b }))) (bound-near p d.to) (λ b also. ap (λ x. x && is_near_bound b) near ∙ also))
  where
    Q : Option Frame → Type 0
    Q f = option_map_or is_near_frame f true ≡ true

window-near : (p : Settings) (columns : List Component) (o : OverPart) → Gives (λ w. is_near_window w ≡ true) (window_typed p columns o)
window-near p columns o =
    after Q (partition_typed columns (or_none o.partition)) (λ names. order_typed columns (or_none o.order) >>= λ keys. frame_typed p o.points >>= λ f. Ok (record { partition = names; order = keys; frame = f }))
    (λ names. after Q (order_typed columns (or_none o.order)) (λ keys. frame_typed p o.points >>= λ f. Ok (record { partition = names; order = keys; frame = f }))
    (λ keys. then (λ f. option_map_or is_near_frame f true ≡ true) Q (frame_typed p o.points) (λ f. Ok (record { partition = names; order = keys; frame = f })) (frame-near p o.points) (λ f near. near)))
  where
    Q : Window → Type 0
    Q w = is_near_window w ≡ true

alone-near : (p : Settings) (o : OverPart) → Gives (λ w. is_near_window w ≡ true) (frame_alone p o)
alone-near p o = then (λ f. option_map_or is_near_frame f true ≡ true) (λ w. is_near_window w ≡ true) (frame_typed p o.points) (λ f. Ok (record { partition = []; order = []; frame = f })) (frame-near p o.points) (λ f near. near)

at-near : (p : Settings) (at : Place) (o : OverPart) → Gives (λ w. is_near_window w ≡ true) (window_at p at o)
at-near p place.Outside o = alone-near p o
at-near p (place.Inside i) o = window-near p i.components o

over-near : (p : Settings) (at : Place) (x : Option TypedTree) (o : OverPart) → Gives (λ w. is_near_window w ≡ true) (over_window p at x o)
over-near p at None o = at-near p at o
over-near p at (Some (value v)) o = at-near p at o
over-near p at (Some (dataset n)) o = window-near p (columns_in n) o

abbrev IsNearCall : Call → Type 0
IsNearCall call = is_near_operator (or_count call.op) ≡ true

shift-near : (p : Settings) (f : ShiftName) (n : List ℕ) (l : Option Literal) (kinds : List Kind) → Gives IsNearCall (shift_call p f n l kinds)
unfolding shift_call
shift-near p f n l kinds =
    then (λ n. is_near n ≡ true) IsNearCall (points_typed p n) (λ points. default_typed p kinds l >>= λ cell. Ok (record { op = Some (of_shift f points cell); needed = needed.Ranked })) (points-near (integer_written p n))
    (λ points near. after IsNearCall (default_typed p kinds l) (λ cell. Ok (record { op = Some (of_shift f points cell); needed = needed.Ranked })) (λ cell. go f points cell near))
  where
    go : (f : ShiftName) (points : ℕ) (cell : Cell) → is_near points ≡ true → is_near_operator (of_shift f points cell) ≡ true
    go shift.Lag points cell near = near
    go shift.Lead points cell near = near

call-near : (p : Settings) (e : Exp) (kinds : List Kind) → Gives IsNearCall (call_typed p e kinds)
call-near p (tree.aggregate_over f e o) kinds = go f
  where
    go : (f : AggregateName) → is_near_operator (or_count (of_aggregate f)) ≡ true
    go aggregate.Sum = refl
    go f = refl
call-near p (tree.value_window f e o) kinds = go f
  where
    go : (f : ValueWindowName) → is_near_operator (of_window f) ≡ true
    go window.FirstValue = refl
    go f = refl
call-near p (tree.shift f e n l o) kinds = shift-near p f n l kinds
call-near p e kinds = refl

-- a call and its window
abbrev pub AreNearParts : Call × Window → Type 0
AreNearParts parts = IsNear (or_count parts.0.op) parts.1

pub parts-near : (p : Settings) (at : Place) (e : Exp) (x : Option TypedTree) → Gives AreNearParts (over_parts p at e x)
unfolding over_parts
parts-near p at e x =
    then IsNearCall AreNearParts (call_typed p e (kinds_beside x)) (λ call. over_window p at x (over_of e) >>= λ w. Ok (call, w)) (call-near p e (kinds_beside x))
    (λ call near. then (λ w. is_near_window w ≡ true) AreNearParts (over_window p at x (over_of e)) (λ w. Ok (call, w)) (over-near p at x (over_of e)) (λ w frame. record { offset = near; frame = frame }))
