-- Why the laws are said as they are.
use Rattle.std.proofs.Common.{◌≡◌, ℕ, ◌*◌, pos, negsuc, List, [], ◌∷◌, None, Some, Ok, Err, refl, arith}
use Rattle.std.specs.Prelude.{codes}
use Rattle.vtl_cell.specs.Groups.{group_value}
use Rattle.vtl_decimal.specs.declared.number.Fault.TheVariants.{Range}
use Rattle.vtl_cell.specs.Outcome.{Outcome}
use Rattle.vtl_cell.specs.Row.{Row}
use Rattle.vtl_decimal.specs.Settings.{Settings}
use Rattle.vtl_cell.specs.declared.cell.Cell.{Cell}
use Rattle.vtl_cell.specs.declared.cell.Cell.TheVariants.{Int, Null, Num}
use Rattle.vtl_cell.specs.declared.operator.AggKind.{AggKind}
use Rattle.vtl_cell.specs.declared.operator.AggKind.TheVariants.{Avg, Count, Median, Min, Sum}
use Rattle.vtl_cell.specs.declared.operator.ScalarOp.TheVariants as op
use Rattle.vtl_cell.specs.declared.kind.Kind.TheVariants as k
use Rattle.vtl_decimal.specs.declared.settings.Rounding.TheVariants.{HalfUp}
use Rattle.vtl_tree.specs.Clauses.{filter_of}
use Rattle.vtl_tree.specs.CompExp.{CompExp, aggregate, call, column, comp_exp, const, no_comp_exps}
use Rattle.vtl_tree.specs.DataSet.{IsDataSet}
use Rattle.vtl_tree.specs.Environment.{DataSet}
use Rattle.vtl_tree.specs.Measures.{made}
use Rattle.vtl_tree.specs.declared.specifications.AggTarget.{AggTarget}
use Rattle.vtl_tree.specs.declared.structure.Component.{Component}
use Rattle.vtl_tree.specs.declared.structure.Role.TheVariants as role
use Rattle.vtl_tree.specs.declared.structure.Structure.{Structure}
use Rattle.vtl_meaning.specs.Aggregates.{aggregate_of}
use Rattle.vtl_meaning.specs.AggregateShapes.{IsAggregated}
use Rattle.vtl_meaning.specs.Operators.{left_of}
use Rattle.vtl_meaning.specs.Points.{with_points}
use Rattle.vtl_aggregate_laws.specs.Filters.{IsFilterOf, targets_where}
use Rattle.vtl_aggregate_laws.specs.Parts.{grouped, of_column, of_groups}
use Rattle.vtl_aggregate_laws.specs.Targets.{of_all_measures, of_own_targets}
use Rattle.vtl_aggregate_laws.proofs.ByIdentifiers.{least_by_identifiers}
use Rattle.vtl_aggregate_laws.proofs.Having.{having_is_filter}
use Rattle.vtl_aggregate_laws.proofs.OwnTargets.{as_targets}

abbrev scale_six : Settings
scale_six = record { scale = 6; rounding = HalfUp }

abbrev int : ℕ → Cell
int n = Int (pos n)

-- points of an identifier and a measure, grouped by the identifier
abbrev by_groups : AggKind → List Row → Outcome (List Cell)
by_groups f d = of_groups (of_column scale_six f 1) (0 ∷ []) d

abbrev of_all : AggKind → List Row → Outcome Cell
of_all f d = of_column scale_six f 1 d

-- a group of one null alone has no sum, and counts no value
abbrev two_groups : List Row
two_groups = (int 1 ∷ int 2 ∷ []) ∷ (int 2 ∷ Null ∷ []) ∷ (int 1 ∷ int 5 ∷ []) ∷ []

sums : by_groups Sum two_groups ≡ Ok (int 7 ∷ Null ∷ [])
sums = refl

sum_of_sums : group_value scale_six Sum (int 7 ∷ Null ∷ []) ≡ of_all Sum two_groups
sum_of_sums = refl

counts : by_groups Count two_groups ≡ Ok (int 2 ∷ int 0 ∷ [])
counts = refl

-- the sum of a group may be out of range where that of all points is not
abbrev far_apart : List Row
far_apart = (int 1 ∷ int 999999999999 ∷ []) ∷ (int 1 ∷ int 1 ∷ []) ∷ (int 2 ∷ Int (negsuc 4) ∷ []) ∷ []

group_too_large : by_groups Sum far_apart ≡ Err Range
group_too_large = refl

all_in_range : of_all Sum far_apart ≡ Ok (int 999999999995)
all_in_range = refl

-- without points there is no group, so counts add up to null, and the count is zero
no_group : by_groups Count [] ≡ Ok []
no_group = refl

nothing_added : group_value scale_six Sum [] ≡ Ok Null
nothing_added = refl

nothing_counted : of_all Count [] ≡ Ok (int 0)
nothing_counted = refl

-- the mean of means is not the mean, and neither is the middle of middles the middle
abbrev uneven : List Row
uneven = (int 1 ∷ int 1 ∷ []) ∷ (int 2 ∷ int 3 ∷ []) ∷ (int 2 ∷ int 5 ∷ []) ∷ (int 2 ∷ int 7 ∷ []) ∷ []

abbrev num : ℕ → Cell
num n = Num (pos (n * 1000000))

means : by_groups Avg uneven ≡ Ok (num 1 ∷ num 5 ∷ [])
means = refl

mean_of_means : group_value scale_six Avg (num 1 ∷ num 5 ∷ []) ≡ Ok (num 3)
mean_of_means = refl

mean_of_all : of_all Avg uneven ≡ Ok (num 4)
mean_of_all = refl

middles : by_groups Median uneven ≡ Ok (num 1 ∷ num 5 ∷ [])
middles = refl

middle_of_middles : group_value scale_six Median (num 1 ∷ num 5 ∷ []) ≡ Ok (num 3)
middle_of_middles = refl

middle_of_all : of_all Median uneven ≡ Ok (num 4)
middle_of_all = refl

-- ---- a data set of two identifiers, in an order of its own, and an attribute
abbrev year : Component
year = made (codes "year") role.Identifier k.Int

abbrev place : Component
place = made (codes "place") role.Identifier k.Int

abbrev sold : Component
sold = made (codes "sold") role.Measure k.Int

abbrev note : Component
note = made (codes "note") role.Attribute k.Int

abbrev of_components : List Component → Structure
of_components xs = record { components = xs }

abbrev sales : DataSet
sales = with_points (of_components (sold ∷ year ∷ note ∷ place ∷ [])) ((int 1 ∷ int 10 ∷ int 5 ∷ Null ∷ []) ∷ (int 1 ∷ int 20 ∷ int 7 ∷ Null ∷ []) ∷ (int 2 ∷ int 10 ∷ Null ∷ int 1 ∷ []) ∷ [])

sales_are : IsDataSet sales.structure sales.points
sales_are = record { well_formed = record { some = omega arith; few = omega arith; distinct = refl }; typed = (refl, (refl, (refl, tt))); distinct = refl }

-- `sum(sales group by year)`, as `aggr` and of what is left by `except place`
by_year : IsAggregated (of_all_measures Sum (codes "year" ∷ []) None) sales.structure (of_components (year ∷ sold ∷ []))
by_year = record {
  well_formed = record { some = omega arith; few = omega arith; distinct = refl };
  grouping = refl;
  identifiers = (refl, tt);
  columns = (refl, tt);
  shape = refl;
}

as_aggr : aggregate_of scale_six (of_own_targets Sum sales.structure (codes "year" ∷ []) None) sales (of_components (year ∷ sold ∷ [])) ≡ aggregate_of scale_six (of_all_measures Sum (codes "year" ∷ []) None) sales (of_components (year ∷ sold ∷ []))
as_aggr = as_targets scale_six Sum (codes "year" ∷ []) None sales (of_components (year ∷ sold ∷ [])) by_year

sums_of_years : aggregate_of scale_six (of_all_measures Sum (codes "year" ∷ []) None) sales (of_components (year ∷ sold ∷ [])) ≡ Ok ((int 1 ∷ int 12 ∷ []) ∷ (int 2 ∷ Null ∷ []) ∷ [])
sums_of_years = refl

-- `min(sales group by year, place)`
by_all : IsAggregated (grouped Min (codes "year" ∷ codes "place" ∷ [])) sales.structure (of_components (year ∷ place ∷ sold ∷ []))
by_all = record {
  well_formed = record { some = omega arith; few = omega arith; distinct = refl };
  grouping = refl;
  identifiers = (refl, (refl, tt));
  columns = (refl, tt);
  shape = refl;
}

least_are_own : aggregate_of scale_six (grouped Min (codes "year" ∷ codes "place" ∷ [])) sales (of_components (year ∷ place ∷ sold ∷ [])) ≡ Ok (left_of sales (of_components (year ∷ place ∷ sold ∷ [])))
least_are_own = least_by_identifiers scale_six sales (of_components (year ∷ place ∷ sold ∷ [])) by_all sales_are

-- ---- `having sum(sold) > 10` beside `[filter total > 10]`, where `total` is that sum
abbrev totals : List AggTarget
totals = record { role = None; target = codes "total"; call = record { kind = Sum; component = Some (codes "sold") } } ∷ []

abbrev with_totals : Structure
with_totals = of_components (year ∷ made (codes "total") role.Measure k.Int ∷ [])

totals_are : IsAggregated (targets_where totals (codes "year" ∷ []) None) sales.structure with_totals
totals_are = record {
  well_formed = record { some = omega arith; few = omega arith; distinct = refl };
  grouping = refl;
  identifiers = (refl, tt);
  columns = (refl, tt);
  shape = refl;
}

abbrev above_ten : CompExp → CompExp
above_ten e = call op.Greater k.Bool (comp_exp e (comp_exp (const (int 10)) no_comp_exps))

abbrev sum_above_ten : CompExp
sum_above_ten = above_ten (aggregate (record { kind = Sum; component = Some (codes "sold") }) k.Int)

abbrev total_above_ten : CompExp
total_above_ten = above_ten (column 1 (codes "total") k.Int)

is_filter : IsFilterOf totals with_totals sum_above_ten total_above_ten
is_filter = (
  comp_exp (column 1 (codes "total") k.Int) (comp_exp (const (int 10)) no_comp_exps),
  refl,
  ((codes "total", record { call = refl; no_identifier = refl; other = refl }, refl), (refl, tt)),
)

kept_by_having : aggregate_of scale_six (targets_where totals (codes "year" ∷ []) (Some sum_above_ten)) sales with_totals ≡ filter_of scale_six total_above_ten ((int 1 ∷ int 12 ∷ []) ∷ (int 2 ∷ Null ∷ []) ∷ [])
kept_by_having = having_is_filter scale_six totals (codes "year" ∷ []) sum_above_ten total_above_ten sales with_totals totals_are is_filter sales_are
