-- The values of groups: what an aggregate gives for a list of values.
use Rattle.std.specs.Prelude.{ℕ, ◌-◌, ◌/◌, ◌%◌, ◌^◌, ◌==◌, Bool, true, false, not, ℤ, pos, ◌+ℤ◌, ◌*ℤ◌, List, [], ◌∷◌, length, map, filter, slice_index_or, Option, Some, None, Ok, if◌then◌else◌}
use Rattle.std.specs.Int.RustNames.{int_le}
use Rattle.std.specs.List.{list_all}
use Rattle.vtl_decimal.specs.Operators.{quotient}
use Rattle.vtl_decimal.specs.Range.{fit_number, fit_integer}
use Rattle.vtl_decimal.specs.Rounding.{rounded_quotient}
use Rattle.vtl_decimal.specs.Settings.{Settings}
use Rattle.vtl_decimal.specs.Tally.{tally_of, mean_of}
use Rattle.vtl_lists.specs.Sorting.{le_by, sorted_by}
use Rattle.vtl_cell.specs.declared.cell.Cell.{Cell}
use Rattle.vtl_cell.specs.declared.cell.Cell.TheVariants as c
use Rattle.vtl_cell.specs.declared.operator.AggKind.{AggKind}
use Rattle.vtl_cell.specs.declared.operator.AggKind.TheVariants as agg
use Rattle.vtl_cell.specs.Kinds.{is_null}
use Rattle.vtl_cell.specs.Order.{cell_cmp}
use Rattle.vtl_cell.specs.Outcome.{Outcome, after}
use Rattle.vtl_cell.specs.Row.{column_of}
use Rattle.vtl_cell.specs.ScalarArithmetic.{integer, number}

-- the values of a list, without its nulls
abbrev pub values_of : List Cell → List Cell
values_of cells = filter (λ x. not (is_null x)) cells

-- ---- totals
abbrev pub is_integer : Cell → Bool
is_integer (c.Int n) = true
is_integer c.Null = false
is_integer (c.Bool b) = false
is_integer (c.Num k) = false
is_integer (c.Text t) = false
is_integer (c.Day d) = false
is_integer (c.Period q) = false

-- an integer; other values count as zero
abbrev pub whole_of : Cell → ℤ
whole_of (c.Int n) = n
whole_of _ = pos 0

-- a number in units of the scale s, where an integer stands for the equal number; other values count as zero
abbrev pub units_of : ℕ → Cell → ℤ
units_of s (c.Num k) = k
units_of s (c.Int n) = n *ℤ pos (10 ^ s)
units_of s _ = pos 0

abbrev pub wholes_of : List Cell → List ℤ
wholes_of xs = map whole_of xs

abbrev pub numbers_of : ℕ → List Cell → List ℤ
numbers_of s xs = map (units_of s) xs

-- the exact total: an integer of integers, and otherwise a number
abbrev pub total_of : Settings → List Cell → Outcome Cell
total_of p xs =
    if list_all is_integer xs then integer (fit_integer p.scale (tally_of (wholes_of xs)).total)
    else number (fit_number (tally_of (numbers_of p.scale xs)).total)

-- ---- means and middles
abbrev pub number_or_null : Option ℤ → Outcome Cell
number_or_null None = Ok c.Null
number_or_null (Some k) = number (fit_number k)

-- the exact total divided by the count, rounded once
abbrev pub mean_value : Settings → List Cell → Outcome Cell
mean_value p xs = number_or_null (mean_of p.rounding (tally_of (numbers_of p.scale xs)))

-- the number at a place of a list
abbrev pub at : List ℤ → ℕ → ℤ
at ks i = slice_index_or ks i (pos 0)

-- of numbers in order the middle one, or half the sum of the two middle ones, rounded once
abbrev pub middle_of : Settings → List ℤ → ℤ
middle_of p ks =
    let n = length ks in
    if n % 2 == 1 then at ks (n / 2)
    else rounded_quotient p.rounding (at ks (n / 2 - 1) +ℤ at ks (n / 2)) (pos 2)

abbrev pub median_of : Settings → List Cell → Outcome Cell
median_of p xs = number (fit_number (middle_of p (sorted_by int_le (numbers_of p.scale xs))))

-- ---- first and last in order
abbrev pub least : List Cell → Cell
least xs = column_of 0 (sorted_by (le_by cell_cmp) xs)

abbrev pub greatest : List Cell → Cell
greatest xs = column_of 0 (sorted_by (λ x y. le_by cell_cmp y x) xs)

-- ---- aggregates

-- of no value: the count is 0, and every other aggregate is null
abbrev pub of_nothing : AggKind → Cell
of_nothing agg.Count = c.Int (pos 0)
of_nothing other = c.Null

-- of some values
abbrev pub of_values : Settings → AggKind → List Cell → Outcome Cell
of_values p agg.Sum xs = total_of p xs
of_values p agg.Avg xs = mean_value p xs
of_values p agg.Count xs = integer (fit_integer p.scale (pos (length xs)))
of_values p agg.Min xs = Ok (least xs)
of_values p agg.Max xs = Ok (greatest xs)
of_values p agg.Median xs = median_of p xs

abbrev pub aggregate : Settings → AggKind → List Cell → Outcome Cell
aggregate p kind [] = Ok (of_nothing kind)
aggregate p kind (x ∷ xs) = of_values p kind (x ∷ xs)

-- nulls are passed over
abbrev pub group_value : Settings → AggKind → List Cell → Outcome Cell
group_value p kind cells = aggregate p kind (values_of cells)

-- how many points there are, nulls or not
abbrev pub count_of_points : {A : Type 0} → Settings → List A → Outcome Cell
count_of_points p points = integer (fit_integer p.scale (pos (length points)))

-- a value divided by the total of its partition, rounded once; null for null
abbrev pub ratio_of : Settings → Cell → List Cell → Outcome Cell
ratio_of p x cells =
    if is_null x then Ok c.Null
    else after (fit_number (tally_of (numbers_of p.scale (values_of cells))).total) (λ total.
    number (quotient p.rounding p.scale (units_of p.scale x) total))
