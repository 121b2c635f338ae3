-- The totals of the groups, which have no fault.
use Rattle.std.proofs.Common.{◌≡◌, ◌≤◌, ◌+◌, ◌*◌, ◌∙◌, ◌∷◌, [], ℕ, pos, ◌+ℤ◌, List, Bool, None, Ok, true, filter, length, map, ap, ap₂, arith, refl}
use Rattle.std.specs.List.{fold, list_all}
use Rattle.std.proofs.lemmas.List.Sums.{count_by-le-length, length-filter}
use Rattle.vtl_decimal.specs.Range.{fit_integer}
use Rattle.vtl_cell.specs.Groups.{aggregate, group_value, is_integer, total_of, values_of, wholes_of}
use Rattle.vtl_cell.specs.Outcome.{fault_in, join, unless}
use Rattle.vtl_cell.specs.Row.{Row, column_of}
use Rattle.vtl_cell.specs.ScalarArithmetic.{integer}
use Rattle.vtl_cell.specs.declared.cell.Cell.{Cell}
use Rattle.vtl_cell.specs.declared.cell.Cell.TheVariants as c
use Rattle.vtl_cell.specs.declared.operator.AggKind.TheVariants as agg
use Rattle.vtl_tuples.proofs.Lists.{filter-map}
use Rattle.vtl_meaning.specs.Aggregates.{Condition, Made, aggregate_of, condition_fault, condition_of, each_group, group_fault, group_point, is_kept, made_of}
use Rattle.vtl_meaning.specs.Groups.{keys_by, places_named}
use Rattle.vtl_meaning.specs.Points.{with_points}
use Rattle.vtl_tree.specs.Columns.{others_of}
use Rattle.vtl_tree.specs.Structure.{columns_of}
use Rattle.vtl_tree.specs.declared.structure.Component.{Component}
use Rattle.vtl_demo.specs.Nodes.{kept_structure, product_at, summed_structure, sums}
use Rattle.vtl_demo.specs.Script.{settings}
use Rattle.vtl_demo.proofs.Numbered.{map_made}
use Rattle.vtl_demo.proofs.Points.{fits}
use Rattle.vtl_demo.proofs.Products.{kept_point, no_faults, product_small}

abbrev cell_at : ℕ → Cell
cell_at i = c.Int (pos (product_at i))

-- ---- a total of so many products
record Total (before : ℕ) (numbers : List ℕ) : Type 0 where
  sum : ℕ
  is : fold ◌+ℤ◌ (pos before) (map (λ i. pos (product_at i)) numbers) ≡ pos sum
  small : sum ≤ before + 998001 * length numbers

total : (before : ℕ) (numbers : List ℕ) → Total before numbers
total before [] = record { sum = before; is = refl; small = omega arith }
total before (i ∷ numbers) =
    let more = total (before + product_at i) numbers in
    record { sum = more.sum; is = more.is; small = omega (arith, more.small, product_small i) }

values_stay : (numbers : List ℕ) → values_of (map cell_at numbers) ≡ map cell_at numbers
values_stay [] = refl
values_stay (i ∷ numbers) = ap (λ cells. cell_at i ∷ cells) (values_stay numbers)

all_integers : (numbers : List ℕ) → list_all is_integer (map cell_at numbers) ≡ true
all_integers [] = refl
all_integers (i ∷ numbers) = all_integers numbers

wholes_are : (numbers : List ℕ) → wholes_of (map cell_at numbers) ≡ map (λ i. pos (product_at i)) numbers
wholes_are numbers = map_made _ cell_at (λ i. pos (product_at i)) (λ i. refl) numbers

total_is : (numbers : List ℕ) → length numbers ≤ 1000000 → total_of settings (map cell_at numbers) ≡ Ok (c.Int (pos (total 0 numbers).sum))
total_is numbers few =
    let all = total 0 numbers in
    let sum_is : fold ◌+ℤ◌ (pos 0) (wholes_of (map cell_at numbers)) ≡ pos all.sum = ap (fold ◌+ℤ◌ (pos 0)) (wholes_are numbers) ∙ all.is in
    let fit : fit_integer 6 (fold ◌+ℤ◌ (pos 0) (wholes_of (map cell_at numbers))) ≡ Ok (pos all.sum) = ap (fit_integer 6) sum_is ∙ fits all.sum (omega (arith, all.small, few)) in
    rw (all_integers numbers) (ap integer fit)

-- the value of a group has no fault
calm : (numbers : List ℕ) → length numbers ≤ 1000000 → fault_in (group_value settings agg.Sum (map cell_at numbers)) ≡ None
calm numbers few = ap (λ cells. fault_in (aggregate settings agg.Sum cells)) (values_stay numbers) ∙ by numbers few
  where
    by : (numbers : List ℕ) → length numbers ≤ 1000000 → fault_in (aggregate settings agg.Sum (map cell_at numbers)) ≡ None
    by [] few = refl
    by (i ∷ numbers) few = ap fault_in (total_is (i ∷ numbers) few)

-- ---- groups
group_calm : (p : Row → Bool) (numbers : List ℕ) → length numbers ≤ 1000000 → fault_in (group_value settings agg.Sum (map (column_of 2) (filter p (map kept_point numbers)))) ≡ None
group_calm p numbers few =
    let of = filter (λ i. p (kept_point i)) numbers in
    let cells : map (column_of 2) (filter p (map kept_point numbers)) ≡ map cell_at of =
    ap (map (column_of 2)) (filter-map p kept_point numbers) ∙ map_made (column_of 2) kept_point cell_at (λ i. refl) of in
    ap (λ cells. fault_in (group_value settings agg.Sum cells)) cells ∙ calm of (omega (arith, few, length-filter (λ i. p (kept_point i)) numbers, count_by-le-length (λ i. p (kept_point i)) numbers))

-- groups of which none has a fault
groups_calm : (at : Condition) (made : Made) (ys : List Component) (keys : List Row) → ((key : Row) → group_fault made ys key ≡ None)
    → each_group at None made ys keys ≡ Ok (map (group_point made ys) (filter (is_kept at None) keys))
groups_calm at made ys keys none =
    ap (λ f. unless f (map (group_point made ys) (filter (is_kept at None) keys)))
    (ap₂ join (no_faults (condition_fault at None) (λ key. refl) keys) (no_faults (group_fault made ys) none (filter (is_kept at None) keys)))

pub record Sums (numbers : List ℕ) : Type 0 where
  pub points : List Row
  pub is : aggregate_of settings sums (with_points kept_structure (map kept_point numbers)) summed_structure ≡ Ok points

pub summed : (numbers : List ℕ) → length numbers ≤ 1000000 → Sums numbers
summed numbers few =
    let xs = columns_of kept_structure in
    let rows = map kept_point numbers in
    let at = condition_of settings sums xs rows in
    let made = made_of settings sums xs rows in
    let keys = keys_by (places_named sums.grouping xs) rows in
    record {
      points = map (group_point made (others_of summed_structure)) (filter (is_kept at None) keys);
      is = groups_calm at made (others_of summed_structure) keys (λ key. ap (λ f. join f None) (group_calm _ numbers few));
    }
