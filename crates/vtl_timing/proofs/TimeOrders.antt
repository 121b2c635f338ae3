-- Shifts and totals do not see the order of points.
use Rattle.std.proofs.Common.{◌≡◌, ℤ, List, map, Ok, ap, subst}
use Rattle.std.specs.Prelude.{if◌then◌else◌}
use Rattle.std.specs.Ordering.{is_le}
use Rattle.vtl_lists.specs.Perm.{Perm}
use Rattle.vtl_lists.proofs.Perms.{Perm-filter, Perm-map}
use Rattle.vtl_decimal.specs.Settings.{Settings}
use Rattle.vtl_cell.specs.Kinds.{is_null}
use Rattle.vtl_cell.specs.Order.{cell_cmp}
use Rattle.vtl_cell.specs.Outcome.{Outcome}
use Rattle.vtl_cell.specs.Outcomes.{Same}
use Rattle.vtl_cell.specs.Row.{Row}
use Rattle.vtl_cell.specs.declared.cell.Cell.{Cell}
use Rattle.vtl_cell.specs.declared.cell.Cell.TheVariants as c
use Rattle.vtl_cell.specs.declared.operator.AggKind.TheVariants as agg
use Rattle.vtl_cell.proofs.Aggregates.{group-Perm}
use Rattle.vtl_tree.specs.Environment.{DataSet}
use Rattle.vtl_tree.specs.Measures.{is_measure}
use Rattle.vtl_tree.specs.Structure.{columns_of}
use Rattle.vtl_tree.specs.declared.structure.Component.{Component}
use Rattle.vtl_tree.specs.declared.structure.Structure.{Structure}
use Rattle.vtl_meaning.specs.Analytics.{each_point as each_made}
use Rattle.vtl_meaning.specs.LookUps.{value_named}
use Rattle.vtl_meaning.proofs.AnalyticOrders.{points_respect}
use Rattle.vtl_timing.specs.Times.{by_measure, in_one_series, shifted_value, stock_of, stock_value, time_of, timeshift_of, up_to}

module _ (a : Structure) (us vs : List Row) (q : Perm us vs) where
  abbrev first : DataSet
  first = record { structure = a; points = us }

  abbrev second : DataSet
  second = record { structure = a; points = vs }

  pub shift_respects : (n : ℤ) → Same (timeshift_of n first) (timeshift_of n second)
  shift_respects n = points_respect (shifted_value n (columns_of a)) (columns_of a) us vs q

  -- a value for each measure that is the same among the points in another order
  measures_respect : (value other : Component → Row → Outcome Cell) (s : Structure) → ((y : Component) (r : Row) → value y r ≡ other y r) → Same (each_made (by_measure value a) (columns_of s) us) (each_made (by_measure other a) (columns_of s) vs)
  measures_respect value other s e =
      let same : by_measure value a ≡ by_measure other a = λ i y r. if is_measure y then e y r i else Ok (value_named (columns_of a) r y.name) in
      subst (λ made. Same (each_made (by_measure value a) (columns_of s) us) (each_made made (columns_of s) vs)) same (points_respect (by_measure value a) (columns_of s) us vs q)

  up_to_same : (r : Row) → Perm (up_to first r) (up_to second r)
  up_to_same r = Perm-filter (λ z. is_le (cell_cmp (time_of a z) (time_of a r))) (Perm-filter (in_one_series a r) q)

  stock_same : (p : Settings) (y : Component) (r : Row) → stock_value p first y r ≡ stock_value p second y r
  stock_same p y r =
      let at : Row → Cell = λ z. value_named (columns_of a) z y.name in
      ap (λ m. if is_null (at r) then Ok c.Null else m) (group-Perm p agg.Sum (map at (up_to first r)) (map at (up_to second r)) (Perm-map at (up_to_same r)))

  pub stocks_respect : (p : Settings) (s : Structure) → Same (stock_of p first s) (stock_of p second s)
  stocks_respect p s = measures_respect (stock_value p first) (stock_value p second) s (stock_same p)
