-- What the definitions give for single data sets.
use Rattle.std.proofs.Common.{◌≡◌, ℕ, pos, negsuc, true, false, List, [], ◌∷◌, Option, None, Some, Ok, Err, refl}
use Rattle.std.specs.Prelude.{codes}
use Rattle.vtl_decimal.specs.declared.number.Fault.TheVariants.{DivZero, Range}
use Rattle.vtl_cell.specs.Outcome.{Outcome}
use Rattle.vtl_cell.specs.Row.{Row}
use Rattle.vtl_decimal.specs.Settings.{Settings}
use Rattle.vtl_cell.specs.declared.cell.Cell.{Cell}
use Rattle.vtl_cell.specs.declared.cell.Cell.TheVariants.{Int, Null, Num}
use Rattle.vtl_cell.specs.declared.kind.Kind.TheVariants as k
use Rattle.vtl_cell.specs.declared.operator.ScalarOp.TheVariants as op
use Rattle.vtl_decimal.specs.declared.settings.Rounding.TheVariants.{HalfUp}
use Rattle.vtl_tree.specs.CompExp.{CompExp, call, column, comp_exp, const, no_comp_exps}
use Rattle.vtl_tree.specs.Environment.{DataSet, no_data}
use Rattle.vtl_tree.specs.declared.structure.Component.{Component}
use Rattle.vtl_tree.specs.declared.structure.Role.TheVariants as role
use Rattle.vtl_tree.specs.declared.structure.Structure.{Structure}
use Rattle.vtl_tree.specs.Trees as nodes
use Rattle.vtl_tree.specs.Trees.{AnalyticTree, ItemTree, ValueTree}
use Rattle.vtl_tree.specs.declared.calls.AnalyticOp.{AnalyticOp}
use Rattle.vtl_tree.specs.declared.calls.AnalyticOp.TheVariants.{Avg, Count, FirstValue, Lag, LastValue, Lead, Max, Min, Rank, RatioToReport, Sum}
use Rattle.vtl_tree.specs.declared.calls.Bound.{Bound}
use Rattle.vtl_tree.specs.declared.calls.Bound.TheVariants.{Current, Following, Preceding, UnboundedFollowing, UnboundedPreceding}
use Rattle.vtl_tree.specs.declared.calls.OrderKey.{OrderKey}
use Rattle.vtl_tree.specs.declared.calls.Window.{Window}
use Rattle.vtl_tree.specs.Measures.{made}
use Rattle.vtl_meaning.specs.Analytics.{analytic_of}
use Rattle.vtl_meaning.specs.AnalyticShapes.{analyzed_components}

abbrev scale_six : Settings
scale_six = record { scale = 6; rounding = HalfUp }

abbrev int : ℕ → Cell
int n = Int (pos n)

abbrev with_components : List Component → Structure
with_components xs = record { components = xs }

-- ---- components, and data sets of them

abbrev place : Component
place = made (codes "place") role.Identifier k.Int

abbrev year : Component
year = made (codes "year") role.Identifier k.Int

abbrev sold : Component
sold = made (codes "sold") role.Measure k.Int

abbrev note : Component
note = made (codes "note") role.Attribute k.Text

abbrev by_place_and_year : Structure
by_place_and_year = with_components (place ∷ year ∷ sold ∷ note ∷ [])

abbrev kept : List Component
kept = place ∷ year ∷ sold ∷ []

abbrev sale : (p y : ℕ) → Cell → Row
sale p y v = int p ∷ int y ∷ v ∷ Null ∷ []

-- the points stand in no order
abbrev sales : DataSet
sales = record {
  structure = by_place_and_year;
  points = sale 1 30 (int 4) ∷ sale 1 10 (int 1) ∷ sale 2 10 (int 8) ∷ sale 1 20 Null ∷ [];
}

-- ---- windows

abbrev rising_by : Component → OrderKey
rising_by x = record { component = x.name; falling = false }

abbrev falling_by : Component → OrderKey
falling_by x = record { component = x.name; falling = true }

-- `over (partition by place)` and `over (partition by place order by ..)`
abbrev of_place : Window
of_place = record { partition = place.name ∷ []; order = []; frame = None }

abbrev of_place_by : OrderKey → Window
of_place_by key = record of_place { order = key ∷ [] }

abbrev by_year : Window
by_year = of_place_by (rising_by year)

-- `over (order by ..)`
abbrev of_all_by : OrderKey → Window
of_all_by key = record { partition = []; order = key ∷ []; frame = None }

-- `data points between .. and ..`
abbrev between : Bound → Bound → Window → Window
between from to w = record w { frame = Some (record { start = from; end = to }) }

-- an operator on the data set of sales, the results in the order of its points: of place 1 the years 30 and 10, of place 2 the year 10, and
-- of place 1 the year 20
abbrev of_sales : AnalyticOp → Window → Outcome (List Row)
of_sales o w = analytic_of scale_six (nodes.of_measures o w) sales (with_components kept)

abbrev values : (a b c d : Cell) → Outcome (List Row)
values a b c d = Ok ((int 1 ∷ int 30 ∷ a ∷ []) ∷ (int 1 ∷ int 10 ∷ b ∷ []) ∷ (int 2 ∷ int 10 ∷ c ∷ []) ∷ (int 1 ∷ int 20 ∷ d ∷ []) ∷ [])

-- ---- frames

-- without an order the whole partition, with one up to the point itself
whole_partition : of_sales Sum of_place ≡ values (int 5) (int 5) (int 8) (int 5)
whole_partition = refl

running_total : of_sales Sum by_year ≡ values (int 5) (int 1) (int 8) (int 1)
running_total = refl

falling_total : of_sales Sum (of_place_by (falling_by year)) ≡ values (int 4) (int 5) (int 8) (int 4)
falling_total = refl

-- a frame goes by places and not by values; it is cut to the partition
neighbours : of_sales Max (between (Preceding 1) (Following 1) by_year) ≡ values (int 4) (int 1) (int 8) (int 4)
neighbours = refl

all_before : of_sales Min (between UnboundedPreceding (Preceding 1) by_year) ≡ values (int 1) Null Null (int 1)
all_before = refl

far_bounds : of_sales Sum (between (Preceding 1000000) (Following 1000000) by_year) ≡ values (int 5) (int 5) (int 8) (int 5)
far_bounds = refl

-- a frame whose start lies behind its end is empty: of no value the count is 0, and all else is null
nothing_counted : of_sales Count (between (Following 2) (Following 1) by_year) ≡ values (int 0) (int 0) (int 0) (int 0)
nothing_counted = refl

nothing_first : of_sales FirstValue (between Current (Preceding 1) by_year) ≡ values Null Null Null Null
nothing_first = refl

-- the first and the last value are cells of the frame, null included; up to the point itself the last one is its own
first_in_frame : of_sales FirstValue (between Current UnboundedFollowing by_year) ≡ values (int 4) (int 1) (int 8) Null
first_in_frame = refl

own_value : of_sales LastValue by_year ≡ values (int 4) (int 1) (int 8) Null
own_value = refl

last_of_partition : of_sales LastValue (between UnboundedPreceding UnboundedFollowing by_year) ≡ values (int 4) (int 4) (int 8) (int 4)
last_of_partition = refl

-- null stands first where the order rises, and last where it falls
null_first : of_sales FirstValue (of_all_by (rising_by sold)) ≡ values Null Null Null Null
null_first = refl

null_last : of_sales LastValue (between UnboundedPreceding UnboundedFollowing (of_all_by (falling_by sold))) ≡ values Null Null Null Null
null_last = refl

-- points that tie by the listed components stand by their identifiers
ties_by_identifiers : of_sales FirstValue (of_all_by (rising_by year)) ≡ values (int 1) (int 1) (int 1) (int 1)
ties_by_identifiers = refl

-- ---- `lag` and `lead`
point_before : of_sales (Lag 1 Null) by_year ≡ values Null Null Null (int 1)
point_before = refl

-- no point of another partition is seen
default_before : of_sales (Lag 2 (int 7)) by_year ≡ values (int 1) (int 7) (int 7) (int 7)
default_before = refl

point_behind : of_sales (Lead 1 (int 0)) by_year ≡ values (int 0) Null (int 0) (int 4)
point_behind = refl

itself : of_sales (Lag 0 (int 7)) by_year ≡ values (int 4) (int 1) (int 8) Null
itself = refl

-- ---- ratios: the total of the place 1 is 5
ratios : of_sales RatioToReport of_place ≡ values (Num (pos 800000)) (Num (pos 200000)) (Num (pos 1000000)) Null
ratios = refl

-- the structures that are made
ratio_components : analyzed_components (nodes.of_measures RatioToReport of_place) by_place_and_year.components ≡ place ∷ year ∷ made (codes "sold") role.Measure k.Num ∷ []
ratio_components = refl

mean_components : analyzed_components (nodes.of_measures Avg of_place) by_place_and_year.components ≡ place ∷ year ∷ made (codes "sold") role.Measure k.Num ∷ []
mean_components = refl

-- ---- in `calc`

-- `sales[calc place_rank := rank(over (partition by place order by sold desc)), sold := sold + 1, before := lag(sold, 1 over (order by year))]`:
-- all targets see the operand's points, an attribute stays, and two windows may have different orders
abbrev place_rank : Component
place_rank = made (codes "place_rank") role.Measure k.Int

abbrev before : Component
before = made (codes "before") role.Measure k.Int

abbrev target : Component → ValueTree → ItemTree
target x v = record { role = None; target = x.name; value = v }

abbrev analytic : AnalyticOp → Option (List ℕ) → Window → ValueTree
analytic o component w = nodes.analytic (record { op = o; component = component; window = w })

abbrev one_more : CompExp
one_more = call op.Add k.Int (comp_exp (column 2 sold.name k.Int) (comp_exp (const (int 1)) no_comp_exps))

abbrev three_targets : AnalyticTree
three_targets = nodes.of_items (
    target place_rank (analytic Rank None (of_place_by (falling_by sold)))
    ∷ target sold (nodes.scalar one_more)
    ∷ target before (analytic (Lag 1 (int 0)) (Some sold.name) (of_all_by (rising_by year))) ∷ [])

targets_made : analytic_of scale_six three_targets sales (with_components (place ∷ year ∷ sold ∷ note ∷ place_rank ∷ before ∷ []))
    ≡ Ok (
    (int 1 ∷ int 30 ∷ int 5 ∷ int 1 ∷ Null ∷ Null ∷ [])
    ∷ (int 1 ∷ int 10 ∷ int 2 ∷ int 2 ∷ int 0 ∷ Null ∷ [])
    ∷ (int 2 ∷ int 10 ∷ int 9 ∷ int 1 ∷ int 1 ∷ Null ∷ [])
    ∷ (int 1 ∷ int 20 ∷ Null ∷ int 3 ∷ int 8 ∷ Null ∷ []) ∷ [])
targets_made = refl

target_components_are : analyzed_components three_targets by_place_and_year.components ≡ place ∷ year ∷ sold ∷ note ∷ place_rank ∷ before ∷ []
target_components_are = refl

-- points that tie by the listed components have one rank, and the next one counts them all
abbrev ranked : AnalyticTree
ranked = nodes.of_items (target sold (analytic Rank None (of_all_by (rising_by year))) ∷ [])

tied_ranks : analytic_of scale_six ranked sales (with_components kept) ≡ values (int 4) (int 1) (int 1) (int 3)
tied_ranks = refl

-- ---- an integer default beside numbers is the equal number
abbrev weight : Component
weight = made (codes "weight") role.Measure k.Num

abbrev weights : DataSet
weights = record { structure = with_components (year ∷ weight ∷ []); points = (int 10 ∷ Num (pos 1500000) ∷ []) ∷ (int 20 ∷ Num (pos 2500000) ∷ []) ∷ [] }

number_default : analytic_of scale_six (nodes.of_measures (Lag 1 (int 3)) (of_all_by (rising_by year))) weights (with_components (year ∷ weight ∷ [])) ≡ Ok ((int 10 ∷ Num (pos 3000000) ∷ []) ∷ (int 20 ∷ Num (pos 1500000) ∷ []) ∷ [])
number_default = refl

-- ---- faults

abbrev two_places : (a b c d : Cell) → DataSet
two_places a b c d = record { structure = by_place_and_year; points = sale 1 10 a ∷ sale 1 20 b ∷ sale 2 10 c ∷ sale 2 20 d ∷ [] }

abbrev of_places : AnalyticOp → Window → DataSet → Outcome (List Row)
of_places o w d = analytic_of scale_six (nodes.of_measures o w) d (with_components kept)

-- a total of 0, but not below a null
zero_total : of_places RatioToReport of_place (two_places (int 1) (Int (negsuc 0)) (int 1) (int 1)) ≡ Err DivZero
zero_total = refl

zero_of_nulls : of_places RatioToReport of_place (two_places Null Null (int 1) (int 1)) ≡ Ok ((int 1 ∷ int 10 ∷ Null ∷ []) ∷ (int 1 ∷ int 20 ∷ Null ∷ []) ∷ (int 2 ∷ int 10 ∷ Num (pos 500000) ∷ []) ∷ (int 2 ∷ int 20 ∷ Num (pos 500000) ∷ []) ∷ [])
zero_of_nulls = refl

-- the total of the frame counts, and not those on the way to it: here that of one frame is out of range, and there that of none
total_out_of_range : of_places Sum by_year (two_places (int 999999999999) (int 1) (int 1) (int 1)) ≡ Err Range
total_out_of_range = refl

abbrev three_years : DataSet
three_years = record { structure = by_place_and_year; points = sale 1 10 (int 999999999999) ∷ sale 1 20 (int 1) ∷ sale 1 30 (Int (negsuc 0)) ∷ [] }

exact_total : of_places Sum of_place three_years ≡ Ok ((int 1 ∷ int 10 ∷ int 999999999999 ∷ []) ∷ (int 1 ∷ int 20 ∷ int 999999999999 ∷ []) ∷ (int 1 ∷ int 30 ∷ int 999999999999 ∷ []) ∷ [])
exact_total = refl

-- division by zero comes first, also where it is of another partition than a total out of range
division_first : of_places RatioToReport of_place (two_places (int 999999999999) (int 999999999999) (int 1) (Int (negsuc 0))) ≡ Err DivZero
division_first = refl

-- ---- no points
no_points : analytic_of scale_six (nodes.of_measures Sum by_year) (no_data by_place_and_year) (with_components kept) ≡ Ok []
no_points = refl
