-- The value of a call is of the profile where the cells of the points are.
use Rattle.std.proofs.Common.{ℕ, pos, ◌+◌, ◌-◌, ℤ, Bool, true, false, cond, List, map, length, Result, Ok, Err, Option, Some, None}
use Rattle.std.specs.Prelude.{count_by}
use Rattle.std.specs.List.{AllByRecursion}
use Rattle.std.specs.Ordering.{is_lt}
use Rattle.vtl_lists.proofs.Sorts.{AllByRecursion-map}
use Rattle.vtl_lists.proofs.Alls.{all_more}
use Rattle.vtl_decimal.specs.Operators.{quotient}
use Rattle.vtl_decimal.specs.Tally.{tally_of}
use Rattle.vtl_decimal.specs.declared.number.Fault.{Fault as DecimalFault}
use Rattle.vtl_cell.specs.Conversion.{as_kind}
use Rattle.vtl_cell.specs.Groups.{numbers_of, ratio_of, units_of, values_of}
use Rattle.vtl_cell.specs.Kinds.{is_null}
use Rattle.vtl_cell.specs.Outcome.{Outcome, after}
use Rattle.vtl_cell.specs.Profile.{IsOfProfile}
use Rattle.vtl_decimal.specs.Range.{fit_number}
use Rattle.vtl_cell.specs.Row.{Row}
use Rattle.vtl_cell.specs.ScalarArithmetic.{number, units}
use Rattle.vtl_decimal.specs.Settings.{Settings}
use Rattle.vtl_cell.specs.Sorted.{by_keys}
use Rattle.vtl_cell.specs.declared.cell.Cell.{Cell}
use Rattle.vtl_cell.specs.declared.cell.Cell.TheVariants as c
use Rattle.vtl_cell.specs.declared.kind.Kind.{Kind}
use Rattle.vtl_cell.specs.declared.kind.Kind.TheVariants as k
use Rattle.vtl_cell.specs.declared.operator.AggKind.TheVariants as agg
use Rattle.vtl_tree.specs.DataSet.{AreOfProfile}
use Rattle.vtl_tree.specs.Environment.{DataSet}
use Rattle.vtl_tree.specs.Structure.{columns_of}
use Rattle.vtl_tree.specs.declared.structure.Component.{Component}
use Rattle.vtl_tree.specs.declared.calls.AnalyticCall.{AnalyticCall}
use Rattle.vtl_tree.specs.declared.calls.AnalyticOp.{AnalyticOp}
use Rattle.vtl_tree.specs.declared.calls.AnalyticOp.TheVariants as op
use Rattle.vtl_tree.specs.declared.calls.Window.{Window}
use Rattle.vtl_tree.specs.Columns.{place_of}
use Rattle.vtl_meaning.proofs.GroupKinds.{GivesOfProfile, group_gives, whole_gives}
use Rattle.vtl_meaning.specs.AnalyticShapes.{default_in}
use Rattle.vtl_meaning.specs.Windows.{Stand, argument, call_value, keys_in, op_value, seen, stand_of}
use Rattle.vtl_meaning.proofs.Partitions.{all_or, framed_all, lag_has, ordered_all}
use Rattle.vtl_meaning.proofs.GroupPoints.{column_gives}

number_gives : (p : Settings) (r : Result ℤ DecimalFault) → GivesOfProfile p (number r)
number_gives p (Ok n) = tt
number_gives p (Err e) = tt

converted_gives : (p : Settings) (kind : Kind) (v : Cell) → IsOfProfile p v → GivesOfProfile p (as_kind p kind v)
converted_gives p k.Num (c.Int n) h = number_gives p (fit_number (units p n))
converted_gives p kind v h = h

pub stays_proper : (p : Settings) (kind : Kind) (m : Outcome Cell) → GivesOfProfile p m → GivesOfProfile p (after m (as_kind p kind))
stays_proper p kind (Ok v) h = converted_gives p kind v h
stays_proper p kind (Err f) h = tt

ratio_gives : (p : Settings) (x : Cell) (cells : List Cell) → GivesOfProfile p (ratio_of p x cells)
ratio_gives p x cells = go (is_null x)
  where
    quotients : (m : Result ℤ DecimalFault) → GivesOfProfile p (after m (λ total. number (quotient p.rounding p.scale (units_of p.scale x) total)))
    quotients (Ok total) = number_gives p (quotient p.rounding p.scale (units_of p.scale x) total)
    quotients (Err e) = tt

    go : (b : Bool) → GivesOfProfile p (cond b (Ok c.Null) (after (fit_number (tally_of (numbers_of p.scale (values_of cells))).total) (λ total. number (quotient p.rounding p.scale (units_of p.scale x) total))))
    go true = tt
    go false = quotients (fit_number (tally_of (numbers_of p.scale (values_of cells))).total)

module _ (p : Settings) (xs : List Component) (w : Window) (at : Row → Cell) (s : Stand) (all : AllByRecursion (IsOfProfile p) (map at s.ordered)) where
  in_frame : AllByRecursion (IsOfProfile p) (seen w at s)
  in_frame = framed_all (IsOfProfile p) w s.place (map at s.ordered) all

  op_gives : (o : AnalyticOp) → IsOfProfile p (default_in o) → GivesOfProfile p (op_value p xs w at o s)
  op_gives op.Sum h = group_gives p agg.Sum (seen w at s) in_frame
  op_gives op.Avg h = group_gives p agg.Avg (seen w at s) in_frame
  op_gives op.Count h = group_gives p agg.Count (seen w at s) in_frame
  op_gives op.Min h = group_gives p agg.Min (seen w at s) in_frame
  op_gives op.Max h = group_gives p agg.Max (seen w at s) in_frame
  op_gives op.FirstValue h = column_gives p 0 (seen w at s) in_frame
  op_gives op.LastValue h = column_gives p (length (seen w at s) - 1) (seen w at s) in_frame
  op_gives (op.Lag n default) h = lag_has (IsOfProfile p) n default s.place (map at s.ordered) h all
  op_gives (op.Lead n default) h = all_or (IsOfProfile p) (map at s.ordered) (s.place + n) default all h
  op_gives op.Rank h = whole_gives p (pos (count_by (λ q. is_lt (by_keys (keys_in xs w) q s.point)) s.ordered + 1))
  op_gives op.RatioToReport h = ratio_gives p (at s.point) (map at s.ordered)

pub call_gives : (p : Settings) (d : DataSet) (call : AnalyticCall) (r : Row) → IsOfProfile p (default_in call.op) → AreOfProfile p d.points → GivesOfProfile p (call_value p d call r)
call_gives p d call r h all =
    op_gives p xs call.window (argument xs call.component) s
    (AllByRecursion-map (argument xs call.component) (IsOfProfile p) s.ordered (all_more IsProper (λ q. IsOfProfile p (argument xs call.component q)) (λ q. cell q call.component) s.ordered (ordered_all IsProper d call.window r all))) call.op h
  where
    xs : List Component
    xs = columns_of d.structure

    s : Stand
    s = stand_of d call.window r

    IsProper : Row → Type 0
    IsProper q = AllByRecursion (IsOfProfile p) q

    cell : (q : Row) (component : Option (List ℕ)) → IsProper q → IsOfProfile p (argument xs component q)
    cell q None i = tt
    cell q (Some name) i = column_gives p (place_of name xs) q i
