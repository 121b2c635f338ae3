-- What the definitions give for single data sets.
use Rattle.std.proofs.Common.{◌≡◌, ℕ, pos, negsuc, true, List, [], ◌∷◌, Option, None, Some, Ok, Err, refl}
use Rattle.std.specs.Prelude.{codes}
use Rattle.vtl_decimal.specs.declared.number.Fault.TheVariants.{DivZero, Range}
use Rattle.vtl_cell.specs.Outcome.{Outcome}
use Rattle.vtl_cell.specs.Row.{Row}
use Rattle.vtl_decimal.specs.Settings.{Settings}
use Rattle.vtl_cell.specs.declared.cell.Cell.{Cell}
use Rattle.vtl_cell.specs.declared.cell.Cell.TheVariants.{Int, Null, Num, Text}
use Rattle.vtl_cell.specs.declared.cell.Cell.TheVariants as c
use Rattle.vtl_cell.specs.declared.kind.Kind.{Kind}
use Rattle.vtl_cell.specs.declared.kind.Kind.TheVariants as k
use Rattle.vtl_cell.specs.declared.operator.AggKind.{AggKind}
use Rattle.vtl_cell.specs.declared.operator.AggKind.TheVariants.{Avg, Count, Max, Median, Min, Sum}
use Rattle.vtl_cell.specs.declared.operator.ScalarOp.{ScalarOp}
use Rattle.vtl_cell.specs.declared.operator.ScalarOp.TheVariants as op
use Rattle.vtl_decimal.specs.declared.settings.Rounding.{Rounding}
use Rattle.vtl_decimal.specs.declared.settings.Rounding.TheVariants.{Down, HalfEven, HalfUp}
use Rattle.vtl_tree.specs.CompExp.{CompExp, aggregate, call, column, comp_exp, const, no_comp_exps}
use Rattle.vtl_tree.specs.Environment.{DataSet, no_data}
use Rattle.vtl_tree.specs.Structure.{names_of}
use Rattle.vtl_tree.specs.declared.structure.Component.{Component}
use Rattle.vtl_tree.specs.declared.structure.Role.TheVariants as role
use Rattle.vtl_tree.specs.declared.structure.Structure.{Structure}
use Rattle.vtl_tree.specs.Trees.{AggTree}
use Rattle.vtl_tree.specs.declared.specifications.AggItems.TheVariants as items
use Rattle.vtl_tree.specs.declared.specifications.AggTarget.{AggTarget}
use Rattle.vtl_tree.specs.Measures.{int_var, made}
use Rattle.vtl_meaning.specs.Aggregates.{aggregate_of}
use Rattle.vtl_meaning.specs.AggregateShapes.{made_components}

abbrev scale_six : Settings
scale_six = record { scale = 6; rounding = HalfUp }

abbrev int : ℕ → Cell
int n = Int (pos n)

abbrev with_components : List Component → Structure
with_components xs = record { components = xs }

-- ---- components, and data sets of them

abbrev place : Component
place = made (codes "place") role.Identifier k.Int

abbrev year : Component
year = made (codes "year") role.Identifier k.Int

abbrev sold : Component
sold = made (codes "sold") role.Measure k.Int

abbrev left : Component
left = made (codes "left") role.Measure k.Int

abbrev note : Component
note = made (codes "note") role.Attribute k.Text

-- the attribute stands before the identifiers; in column order it is the last
abbrev by_place_and_year : Structure
by_place_and_year = with_components (note ∷ place ∷ sold ∷ year ∷ left ∷ [])

abbrev sales : DataSet
sales = record {
  structure = by_place_and_year;
  points =
      (int 1 ∷ int 10 ∷ int 5 ∷ int 50 ∷ Text (codes "a") ∷ [])
      ∷ (int 2 ∷ int 10 ∷ int 0 ∷ int 9 ∷ Null ∷ [])
      ∷ (int 1 ∷ int 20 ∷ int 7 ∷ Null ∷ Null ∷ []) ∷ [];
}

-- ---- what is asked of groups

abbrev of_measures : AggKind → List Component → AggTree
of_measures f ids = record { items = items.Measures f; grouping = names_of ids; having = None }

abbrev with_having : CompExp → AggTree → AggTree
with_having e spec = record spec { having = Some e }

-- ---- `sum(sales group by place)`: a group for each place, nulls passed over, no attribute
by_place : aggregate_of scale_six (of_measures Sum (place ∷ [])) sales (with_components (place ∷ sold ∷ left ∷ [])) ≡ Ok ((int 1 ∷ int 12 ∷ int 50 ∷ []) ∷ (int 2 ∷ int 0 ∷ int 9 ∷ []) ∷ [])
by_place = refl

-- `min(sales group by year)`, and `count(sales group by year)`: one measure, the number of points
by_year : aggregate_of scale_six (of_measures Min (year ∷ [])) sales (with_components (year ∷ sold ∷ left ∷ [])) ≡ Ok ((int 10 ∷ int 0 ∷ int 9 ∷ []) ∷ (int 20 ∷ int 7 ∷ Null ∷ []) ∷ [])
by_year = refl

counted : aggregate_of scale_six (of_measures Count (year ∷ [])) sales (with_components (year ∷ int_var ∷ [])) ≡ Ok ((int 10 ∷ int 2 ∷ []) ∷ (int 20 ∷ int 1 ∷ []) ∷ [])
counted = refl

-- the measures that are made
given_measures_are : made_components (items.Measures Avg) (by_place_and_year.components) ≡ made (codes "sold") role.Measure k.Num ∷ made (codes "left") role.Measure k.Num ∷ []
given_measures_are = refl

-- ---- `sum(sales)`: without a grouping one point without identifiers, and none of no points
whole : aggregate_of scale_six (of_measures Sum []) sales (with_components (sold ∷ left ∷ [])) ≡ Ok ((int 12 ∷ int 59 ∷ []) ∷ [])
whole = refl

no_points : aggregate_of scale_six (of_measures Count []) (no_data by_place_and_year) (with_components (int_var ∷ [])) ≡ Ok []
no_points = refl

-- ---- `sales[aggr attribute points := count(), known := count(left), total := sum(left), top := max(note) group by place, year]`
abbrev target : Component → AggKind → Option Component → AggTarget
target x f None = record { role = Some x.role; target = x.name; call = record { kind = f; component = None } }
target x f (Some y) = record { role = None; target = x.name; call = record { kind = f; component = Some y.name } }

abbrev points : Component
points = made (codes "points") role.Attribute k.Int

abbrev known : Component
known = made (codes "known") role.Measure k.Int

abbrev total : Component
total = made (codes "total") role.Measure k.Int

abbrev top : Component
top = made (codes "top") role.Measure k.Text

abbrev four_targets : AggTree
four_targets = record {
  items = items.Targets (target points Count None ∷ target known Count (Some left) ∷ target total Sum (Some left) ∷ target top Max (Some note) ∷ []);
  grouping = place.name ∷ year.name ∷ [];
  having = None;
}

-- measures stand before attributes; of no value the total is null, and the count is 0
targets_made : aggregate_of scale_six four_targets sales (with_components (place ∷ year ∷ points ∷ known ∷ total ∷ top ∷ []))
    ≡ Ok ((int 1 ∷ int 10 ∷ int 1 ∷ int 50 ∷ Text (codes "a") ∷ int 1 ∷ []) ∷ (int 2 ∷ int 10 ∷ int 1 ∷ int 9 ∷ Null ∷ int 1 ∷ []) ∷ (int 1 ∷ int 20 ∷ int 0 ∷ Null ∷ Null ∷ int 1 ∷ []) ∷ [])
targets_made = refl

target_components_are : made_components four_targets.items by_place_and_year.components ≡ points ∷ known ∷ total ∷ top ∷ []
target_components_are = refl

-- two targets of one measure, and a target with the name of an identifier that goes
abbrev least_year : AggTree
least_year = record { items = items.Targets (target year Min (Some sold) ∷ target total Max (Some sold) ∷ []); grouping = place.name ∷ []; having = None }

name_taken : aggregate_of scale_six least_year sales (with_components (place ∷ made (codes "year") role.Measure k.Int ∷ total ∷ [])) ≡ Ok ((int 1 ∷ int 5 ∷ int 7 ∷ []) ∷ (int 2 ∷ int 0 ∷ int 0 ∷ []) ∷ [])
name_taken = refl

-- ---- `having`
abbrev of_place : CompExp
of_place = column 0 place.name k.Int

abbrev of_group : AggKind → Component → Kind → CompExp
of_group f x kind = aggregate (record { kind = f; component = Some x.name }) kind

abbrev of_two : ScalarOp → Kind → CompExp → CompExp → CompExp
of_two o kind a b = call o kind (comp_exp a (comp_exp b no_comp_exps))

abbrev number : ℕ → CompExp
number n = const (int n)

-- `count(sales group by year having max(left) > 10)`: null at the year 20, so that group is not kept
abbrev above_ten : CompExp
above_ten = of_two op.Greater k.Bool (of_group Max left k.Int) (number 10)

abbrev counted_by : Component → CompExp → Outcome (List Row)
counted_by x e = aggregate_of scale_six (with_having e (of_measures Count (x ∷ []))) sales (with_components (x ∷ int_var ∷ []))

null_is_not_true : counted_by year above_ten ≡ Ok ((int 10 ∷ int 2 ∷ []) ∷ [])
null_is_not_true = refl

-- `.. having place = 1`: a grouping identifier has the group's value
identifier_named : counted_by place (of_two op.Equal k.Bool of_place (number 1)) ≡ Ok ((int 1 ∷ int 2 ∷ []) ∷ [])
identifier_named = refl

-- `.. having 1 / sum(sold) > 0`: the place 2 has the sum 0
abbrev divided : CompExp
divided = of_two op.Greater k.Bool (of_two op.Divide k.Num (number 1) (of_group Sum sold k.Int)) (number 0)

condition_divides : counted_by place divided ≡ Err DivZero
condition_divides = refl

-- `.. having if place = 2 then true else 1 / sum(sold) > 0`: an aggregate counts where the expression reaches it
abbrev unless_two : CompExp
unless_two = call op.If k.Bool (comp_exp (of_two op.Equal k.Bool of_place (number 2)) (comp_exp (const (c.Bool true)) (comp_exp divided no_comp_exps)))

branch_not_reached : counted_by place unless_two ≡ Ok ((int 1 ∷ int 2 ∷ []) ∷ (int 2 ∷ int 1 ∷ []) ∷ [])
branch_not_reached = refl

-- ---- totals, means and middles
abbrev groups_of : List Row → DataSet
groups_of points = record { structure = with_components (place ∷ year ∷ sold ∷ []); points = points }

abbrev large : List Row
large = (int 1 ∷ int 10 ∷ int 999999999999 ∷ []) ∷ (int 1 ∷ int 20 ∷ int 999999999999 ∷ []) ∷ (int 1 ∷ int 30 ∷ Int (negsuc 999999999998) ∷ []) ∷ []

abbrev sold_by_place : AggKind → List Row → Outcome (List Row)
sold_by_place f points = aggregate_of scale_six (of_measures f (place ∷ [])) (groups_of points) (with_components (place ∷ sold ∷ []))

-- the partial total is out of range, the total is not
exact_total : sold_by_place Sum large ≡ Ok ((int 1 ∷ int 999999999999 ∷ []) ∷ [])
exact_total = refl

exact_mean : sold_by_place Avg large ≡ Ok ((int 1 ∷ Num (pos 333333333333000000) ∷ []) ∷ [])
exact_mean = refl

middle_of_three : sold_by_place Median large ≡ Ok ((int 1 ∷ Num (pos 999999999999000000) ∷ []) ∷ [])
middle_of_three = refl

middle_of_two : sold_by_place Median ((int 1 ∷ int 10 ∷ int 4 ∷ []) ∷ (int 1 ∷ int 20 ∷ Null ∷ []) ∷ (int 1 ∷ int 30 ∷ int 1 ∷ []) ∷ []) ≡ Ok ((int 1 ∷ Num (pos 2500000) ∷ []) ∷ [])
middle_of_two = refl

-- the place 2 alone has a total out of range
abbrev too_large : List Row
too_large = (int 2 ∷ int 10 ∷ int 999999999999 ∷ []) ∷ (int 2 ∷ int 20 ∷ int 1 ∷ []) ∷ (int 1 ∷ int 10 ∷ int 3 ∷ []) ∷ []

out_of_range : sold_by_place Sum too_large ≡ Err Range
out_of_range = refl

abbrev sums_where : CompExp → Outcome (List Row)
sums_where e = aggregate_of scale_six (with_having e (of_measures Sum (place ∷ []))) (groups_of too_large) (with_components (place ∷ sold ∷ []))

-- `.. having place = 1`: the results are evaluated only for the groups that are kept
dropped_before : sums_where (of_two op.Equal k.Bool of_place (number 1)) ≡ Ok ((int 1 ∷ int 3 ∷ []) ∷ [])
dropped_before = refl

-- `.. having place / (place - 1) > 0`: division by zero comes first, also where it is of another group than the total out of range
abbrev worst : CompExp
worst = of_two op.Greater k.Bool (of_two op.Divide k.Num of_place (of_two op.Subtract k.Int of_place (number 1))) (number 0)

division_first : sums_where worst ≡ Err DivZero
division_first = refl

-- a mean of one and two, and of two and three, where numbers are whole
abbrev half : Rounding → ℕ → ℕ → Outcome (List Row)
half rounding m n =
    aggregate_of (record { scale = 0; rounding = rounding }) (of_measures Avg []) (groups_of ((int 1 ∷ int 10 ∷ int m ∷ []) ∷ (int 1 ∷ int 20 ∷ int n ∷ []) ∷ [])) (with_components (sold ∷ []))

half_up : half HalfUp 2 3 ≡ Ok ((Num (pos 3) ∷ []) ∷ [])
half_up = refl

half_even : half HalfEven 2 3 ≡ Ok ((Num (pos 2) ∷ []) ∷ [])
half_even = refl

half_to_even : half HalfEven 1 2 ≡ Ok ((Num (pos 2) ∷ []) ∷ [])
half_to_even = refl

half_down : half Down 2 3 ≡ Ok ((Num (pos 2) ∷ []) ∷ [])
half_down = refl

-- ---- an empty total is null
nothing_summed : sold_by_place Sum ((int 1 ∷ int 10 ∷ Null ∷ []) ∷ []) ≡ Ok ((int 1 ∷ Null ∷ []) ∷ [])
nothing_summed = refl
