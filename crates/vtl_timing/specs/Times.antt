-- The time operators: `timeshift`, `fill_time_series`, `flow_to_stock` and `stock_to_flow`. The time of an operand is its one identifier of
-- kind time_period. A series is the points that agree in the other identifiers and in the frequency of their time; what comes before what
-- in it is said by the order of periods, so no series is sorted and no point has a place.
use Rattle.std.specs.Prelude.{ℕ, ℤ, pos, ◌≡◌, Bool, not, ◌&&◌, List, [], ◌∷◌, ◌++◌, map, filter, find, length, Option, Some, Ok, if◌then◌else◌}
use Rattle.std.specs.List.{list_all, position_or_len}
use Rattle.std.specs.Option.{option_map_or}
use Rattle.std.specs.Ordering.{is_le, is_lt}
use Rattle.vtl_cell.specs.Groups.{group_value}
use Rattle.vtl_cell.specs.Kinds.{is_null, same_kind}
use Rattle.vtl_cell.specs.Order.{cell_cmp, same_cell}
use Rattle.vtl_cell.specs.Outcome.{Outcome}
use Rattle.vtl_cell.specs.Row.{Row, column_of, same_row}
use Rattle.vtl_cell.specs.declared.cell.Cell.{Cell}
use Rattle.vtl_cell.specs.declared.cell.Cell.TheVariants as c
use Rattle.vtl_cell.specs.declared.kind.Kind.TheVariants as k
use Rattle.vtl_cell.specs.declared.operator.AggKind.TheVariants as agg
use Rattle.vtl_cell.specs.declared.operator.ScalarOp.TheVariants as op
use Rattle.vtl_cell.specs.ScalarPeriods.{frequency_of, shifted_of}
use Rattle.vtl_decimal.specs.Settings.{Settings}
use Rattle.vtl_series.specs.Series.{series_rows}
use Rattle.vtl_series.specs.declared.extent.Extent.{Extent}
use Rattle.vtl_tree.specs.Columns.{identifiers_of, places_in}
use Rattle.vtl_tree.specs.Environment.{DataSet}
use Rattle.vtl_tree.specs.Measures.{is_measure}
use Rattle.vtl_tree.specs.Structure.{columns_of, same_role}
use Rattle.vtl_tree.specs.Value.{called}
use Rattle.vtl_tree.specs.declared.structure.Component.{Component}
use Rattle.vtl_tree.specs.declared.structure.Role.TheVariants as role
use Rattle.vtl_tree.specs.declared.structure.Structure.{Structure}
use Rattle.vtl_meaning.specs.Aggregates.{Made}
use Rattle.vtl_meaning.specs.Agreement.{values_in}
use Rattle.vtl_meaning.specs.Analytics.{each_point as each_made}
use Rattle.vtl_meaning.specs.Joined.{tuple_at, tuple_point}
use Rattle.vtl_meaning.specs.LookUps.{value_named, values_named}

-- ---- the time

-- an identifier that holds periods
abbrev pub is_time : Component → Bool
is_time x = same_role x.role role.Identifier && same_kind x.kind k.Period

-- exactly one identifier does
abbrev pub HasTime : Structure → Type 0
HasTime a = length (filter is_time (identifiers_of a)) ≡ 1

-- its place among the identifiers, which are the first columns
abbrev pub time_place : Structure → ℕ
time_place a = position_or_len is_time (identifiers_of a)

abbrev pub other_identifiers : Structure → List Component
other_identifiers a = filter (λ x. not (is_time x)) (identifiers_of a)

abbrev pub time_of : Structure → Row → Cell
time_of a r = column_of (time_place a) r

-- ---- series

-- the same other identifiers, and times of one frequency
abbrev pub in_one_series : Structure → Row → Row → Bool
in_one_series a r q =
    same_row (values_in a (other_identifiers a) q) (values_in a (other_identifiers a) r) && same_cell (frequency_of (time_of a q)) (frequency_of (time_of a r))

-- the points of the series of a point
abbrev pub series_of : DataSet → Row → List Row
series_of d r = filter (in_one_series d.structure r) d.points

-- those that are no later, of which the point itself is one
abbrev pub up_to : DataSet → Row → List Row
up_to d r = filter (λ q. is_le (cell_cmp (time_of d.structure q) (time_of d.structure r))) (series_of d r)

-- those that are earlier
abbrev pub before : DataSet → Row → List Row
before d r = filter (λ q. is_lt (cell_cmp (time_of d.structure q) (time_of d.structure r))) (series_of d r)

-- the last of these, which none of them is later than; the first point of a series has none
abbrev pub previous : DataSet → Row → Option Row
previous d r = find (λ q. list_all (λ z. is_le (cell_cmp (time_of d.structure z) (time_of d.structure q))) (before d r)) (before d r)

-- ---- `timeshift`: each point with its time so many periods later, or earlier for a negative number
abbrev pub shifted_value : ℤ → List Component → Component → Row → Outcome Cell
shifted_value n xs y r = let v = value_named xs r y.name in if is_time y then shifted_of v (Some n) else Ok v

abbrev pub timeshift_of : ℤ → DataSet → Outcome (List Row)
timeshift_of n d = each_made (shifted_value n (columns_of d.structure)) (columns_of d.structure) d.points

-- ---- `fill_time_series`: a point for each period of each series, with null in all that is no identifier where there was none

-- the columns of a row of a series, of which the period is the last
abbrev pub series_columns : Structure → List Component
series_columns a = other_identifiers a ++ filter is_time (identifiers_of a)

-- such a row as the identifiers of a point, in their order
abbrev pub in_order : Structure → Row → Row
in_order a r = values_named (series_columns a) (identifiers_of a) r

abbrev pub filled_keys : Extent → DataSet → List Row
filled_keys e d = map (in_order d.structure) (series_rows e (time_place d.structure) (places_in (columns_of d.structure) (other_identifiers d.structure)) d.points)

abbrev pub fill_of : Extent → DataSet → List Row
fill_of e d = map (λ key. tuple_point (tuple_at (identifiers_of d.structure) (d ∷ []) key)) (filled_keys e d)

-- ---- flows and stocks: a value for each measure, and the identifiers as they are

-- what makes a column of the result, whose structure has the identifiers and measures of the operand
abbrev pub by_measure : (Component → Row → Outcome Cell) → Structure → Made
by_measure value a y r = if is_measure y then value y r else Ok (value_named (columns_of a) r y.name)

-- the total of the values up to the point, where the point has one
abbrev pub stock_value : Settings → DataSet → Component → Row → Outcome Cell
stock_value p d y r =
    let at : Row → Cell = λ q. value_named (columns_of d.structure) q y.name in
    if is_null (at r) then Ok c.Null else group_value p agg.Sum (map at (up_to d r))

abbrev pub stock_of : Settings → DataSet → Structure → Outcome (List Row)
stock_of p d s = each_made (by_measure (stock_value p d) d.structure) (columns_of s) d.points

-- the value less that of the previous point, or less zero at the first one
abbrev pub flow_value : Settings → DataSet → Component → Row → Outcome Cell
flow_value p d y r =
    let at : Row → Cell = λ q. value_named (columns_of d.structure) q y.name in
    called p y.kind (Ok (at r) ∷ Ok (option_map_or at (previous d r) (c.Int (pos 0))) ∷ []) op.Subtract

abbrev pub flow_of : Settings → DataSet → Structure → Outcome (List Row)
flow_of p d s = each_made (by_measure (flow_value p d) d.structure) (columns_of s) d.points
