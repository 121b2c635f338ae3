-- The value of a call is null or of the kind that the call gives.
use Rattle.std.proofs.Common.{◌≡◌, ℕ, pos, ◌+◌, ◌-◌, ℤ, Bool, true, false, cond, List, map, length, Result, Ok, Err, Option, Some, None, refl, ap, subst}
use Rattle.std.specs.Prelude.{count_by}
use Rattle.std.specs.List.{AllByRecursion}
use Rattle.std.specs.Ordering.{is_lt}
use Rattle.vtl_lists.proofs.Sorts.{AllByRecursion-map}
use Rattle.vtl_lists.proofs.Alls.{all_more}
use Rattle.vtl_lists.proofs.Tests.{then_some}
use Rattle.vtl_decimal.specs.Operators.{quotient}
use Rattle.vtl_decimal.specs.Tally.{tally_of}
use Rattle.vtl_decimal.specs.declared.number.Fault.{Fault as DecimalFault}
use Rattle.vtl_cell.specs.Conversion.{as_kind}
use Rattle.vtl_cell.specs.Frames.{first_cell, last_cell}
use Rattle.vtl_cell.specs.Groups.{group_value, numbers_of, ratio_of, units_of, values_of}
use Rattle.vtl_cell.specs.Kinds.{is_null, kind_of}
use Rattle.vtl_cell.specs.Outcome.{Outcome, after}
use Rattle.vtl_decimal.specs.Range.{fit_integer, fit_number}
use Rattle.vtl_cell.specs.Row.{Row}
use Rattle.vtl_cell.specs.ScalarArithmetic.{number, units}
use Rattle.vtl_cell.specs.ScalarKinds.{meets}
use Rattle.vtl_decimal.specs.Settings.{Settings}
use Rattle.vtl_cell.specs.Sorted.{by_keys, row_rank}
use Rattle.vtl_cell.specs.declared.cell.Cell.{Cell}
use Rattle.vtl_cell.specs.declared.cell.Cell.TheVariants as c
use Rattle.vtl_cell.specs.declared.kind.Kind.{Kind}
use Rattle.vtl_cell.specs.declared.kind.Kind.TheVariants as k
use Rattle.vtl_cell.specs.declared.operator.AggKind.{AggKind}
use Rattle.vtl_cell.specs.declared.operator.AggKind.TheVariants as agg
use Rattle.vtl_cell.specs.AggregateKinds.{aggregate_kind, is_number}
use Rattle.vtl_tree.specs.DataSet.{is_point}
use Rattle.vtl_tree.specs.Environment.{DataSet}
use Rattle.vtl_tree.specs.Structure.{columns_of}
use Rattle.vtl_tree.specs.declared.structure.Component.{Component}
use Rattle.vtl_tree.specs.declared.calls.AnalyticCall.{AnalyticCall}
use Rattle.vtl_tree.specs.declared.calls.AnalyticOp.{AnalyticOp}
use Rattle.vtl_tree.specs.declared.calls.AnalyticOp.TheVariants as op
use Rattle.vtl_tree.specs.declared.calls.Window.{Window}
use Rattle.vtl_tree.specs.Names.{component_of}
use Rattle.vtl_tree.specs.Kinds.{given_kind}
use Rattle.vtl_meaning.proofs.GroupKinds.{GivesOf, IsOf, group_is, integer_is, null_is_of}
use Rattle.vtl_meaning.proofs.GroupPoints.{found_cell}
use Rattle.vtl_meaning.specs.AnalyticShapes.{given_of, taken, takes}
use Rattle.vtl_meaning.specs.Windows.{Stand, argument, call_value, keys_in, op_value, seen, stand_of}
use Rattle.vtl_meaning.proofs.Partitions.{all_or, framed_all, lag_has, ordered_all}

-- ---- as a value of a kind

pub number_is : (r : Result ℤ DecimalFault) → GivesOf k.Num (number r)
number_is (Ok n) = refl
number_is (Err e) = tt

-- a value of the kind stays, and an integer stands for a number
converts : (p : Settings) (kind : Kind) (v : Cell) → meets kind (kind_of v) ≡ true → GivesOf kind (as_kind p kind v)
converts p k.Num (c.Int n) h = number_is (fit_number (units p n))
converts p kind c.Null h = refl
converts p k.Bool (c.Bool b) h = refl
converts p k.Int (c.Int n) h = refl
converts p k.Num (c.Num n) h = refl
converts p k.Text (c.Text t) h = refl
converts p k.Day (c.Day t) h = refl
converts p k.Period (c.Period t) h = refl
converts p kind v h = cc

-- a value of a kind may stand where the kind is wanted
meets_own : (kind : Kind) (v : Cell) → IsOf kind v → meets kind (kind_of v) ≡ true
meets_own kind c.Null h = refl
meets_own k.Bool (c.Bool b) h = refl
meets_own k.Int (c.Int n) h = refl
meets_own k.Num (c.Num n) h = refl
meets_own k.Text (c.Text t) h = refl
meets_own k.Day (c.Day t) h = refl
meets_own k.Period (c.Period t) h = refl
meets_own kind v h = cc

stays : (p : Settings) (kind : Kind) (m : Outcome Cell) → GivesOf kind m → GivesOf kind (after m (as_kind p kind))
stays p kind (Ok v) h = converts p kind v (meets_own kind v h)
stays p kind (Err f) h = tt

-- ---- operators

ratio_is : (p : Settings) (x : Cell) (cells : List Cell) → GivesOf k.Num (ratio_of p x cells)
ratio_is p x cells = go (is_null x)
  where
    quotients : (m : Result ℤ DecimalFault) → GivesOf k.Num (after m (λ total. number (quotient p.rounding p.scale (units_of p.scale x) total)))
    quotients (Ok total) = number_is (quotient p.rounding p.scale (units_of p.scale x) total)
    quotients (Err e) = tt

    go : (b : Bool) → GivesOf k.Num (cond b (Ok c.Null) (after (fit_number (tally_of (numbers_of p.scale (values_of cells))).total) (λ total. number (quotient p.rounding p.scale (units_of p.scale x) total))))
    go true = refl
    go false = quotients (fit_number (tally_of (numbers_of p.scale (values_of cells))).total)

-- the kinds that numbers give
sum_given : (kind : Kind) → is_number kind ≡ true → aggregate_kind agg.Sum kind ≡ Some (given_kind op.Sum kind)
sum_given k.Null h = refl
sum_given k.Int h = refl
sum_given k.Num h = refl
sum_given kind h = cc

mean_given : (kind : Kind) → is_number kind ≡ true → aggregate_kind agg.Avg kind ≡ Some k.Num
mean_given kind h = ap (λ b. cond b (Some k.Num) None) h

module _ (p : Settings) (xs : List Component) (w : Window) (at : Row → Cell) (s : Stand) (kind : Kind) (here : IsOf kind (at s.point)) (all : AllByRecursion (IsOf kind) (map at s.ordered)) where
  -- a cell, as a value of its kind
  abbrev Converts : Cell → Type 0
  Converts v = GivesOf kind (as_kind p kind v)

  all_convert : AllByRecursion Converts (map at s.ordered)
  all_convert = all_more (IsOf kind) Converts (λ v h. converts p kind v (meets_own kind v h)) (map at s.ordered) all

  in_frame : AllByRecursion (IsOf kind) (seen w at s)
  in_frame = framed_all (IsOf kind) w s.place (map at s.ordered) all

  aggregate_is : (f : AggKind) (given : Kind) → aggregate_kind f kind ≡ Some given → GivesOf given (after (group_value p f (seen w at s)) (as_kind p given))
  aggregate_is f given e = stays p given (group_value p f (seen w at s)) (group_is p f kind given (seen w at s) e in_frame)

  rank_is : GivesOf k.Int (after (op_value p xs w at op.Rank s) (as_kind p k.Int))
  rank_is = stays p k.Int (row_rank p (keys_in xs w) s.point s.ordered) (integer_is (fit_integer p.scale (pos (count_by (λ q. is_lt (by_keys (keys_in xs w) q s.point)) s.ordered + 1))))

  op_is : (o : AnalyticOp) → takes o kind ≡ true → GivesOf (given_kind o kind) (after (op_value p xs w at o s) (as_kind p (given_kind o kind)))
  op_is op.Sum h = aggregate_is agg.Sum (given_kind op.Sum kind) (sum_given kind h)
  op_is op.Avg h = aggregate_is agg.Avg k.Num (mean_given kind h)
  op_is op.Count h = aggregate_is agg.Count k.Int refl
  op_is op.Min h = aggregate_is agg.Min kind refl
  op_is op.Max h = aggregate_is agg.Max kind refl
  op_is op.FirstValue h = stays p kind (Ok (first_cell (seen w at s))) (all_or (IsOf kind) (seen w at s) 0 c.Null in_frame (null_is_of kind))
  op_is op.LastValue h = stays p kind (Ok (last_cell (seen w at s))) (all_or (IsOf kind) (seen w at s) (length (seen w at s) - 1) c.Null in_frame (null_is_of kind))
  op_is (op.Lag n default) h = lag_has Converts n default s.place (map at s.ordered) (converts p kind default h) all_convert
  op_is (op.Lead n default) h = all_or Converts (map at s.ordered) (s.place + n) default all_convert (converts p kind default h)
  op_is op.Rank h = rank_is
  op_is op.RatioToReport h = stays p k.Num (ratio_of p (at s.point) (map at s.ordered)) (ratio_is p (at s.point) (map at s.ordered))

-- ---- calls

if_some : {A : Type 0} (b : Bool) (x y : A) → cond b (Some x) None ≡ Some y → (b ≡ true) × (x ≡ y)
if_some true x y e = let same : x ≡ y = cc in (refl, same)
if_some false x y e = cc

pub call_is : (p : Settings) (d : DataSet) (call : AnalyticCall) (kind : Kind) (r : Row) → given_of (columns_of d.structure) call.op call.component ≡ Some kind → is_point (columns_of d.structure) r ≡ true → AllByRecursion (λ q. is_point (columns_of d.structure) q ≡ true) d.points
    → GivesOf kind (after (call_value p d call r) (as_kind p kind))
call_is p d call kind r e here all = go call.component call.op e
  where
    xs : List Component
    xs = columns_of d.structure

    s : Stand
    s = stand_of d call.window r

    IsRow : Row → Type 0
    IsRow q = is_point xs q ≡ true

    go : (component : Option (List ℕ)) (o : AnalyticOp) → given_of xs o component ≡ Some kind → GivesOf kind (after (op_value p xs call.window (argument xs component) o s) (as_kind p kind))
    go (Some name) o f =
        let found = then_some (component_of name xs) (λ x. taken o x.kind) kind f in
        let given = if_some (takes o found.0.kind) (given_kind o found.0.kind) kind found.2 in
        let cell : (q : Row) → IsRow q → IsOf found.0.kind (argument xs (Some name) q) = λ q h. (found_cell name found.0 xs q found.1 h).0 in
        subst (λ z. GivesOf z (after (op_value p xs call.window (argument xs (Some name)) o s) (as_kind p z))) given.1
        (op_is p xs call.window (argument xs (Some name)) s found.0.kind (cell r here) (AllByRecursion-map (argument xs (Some name)) (IsOf found.0.kind) s.ordered (all_more IsRow (λ q. IsOf found.0.kind (argument xs (Some name) q)) cell s.ordered (ordered_all IsRow d call.window r all))) o given.0)
    go None op.Rank f =
        let same : k.Int ≡ kind = cc in
        subst (λ z. GivesOf z (after (row_rank p (keys_in xs call.window) s.point s.ordered) (as_kind p z))) same
        (stays p k.Int (row_rank p (keys_in xs call.window) s.point s.ordered) (integer_is (fit_integer p.scale (pos (count_by (λ q. is_lt (by_keys (keys_in xs call.window) q s.point)) s.ordered + 1)))))
    go None o f = cc
