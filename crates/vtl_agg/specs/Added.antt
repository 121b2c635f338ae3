-- What is known of the cells that were added to an accumulator.
use Rattle.std.specs.Prelude.{◌≡◌, ◌+◌, ◌<◌, ◌^◌, ◌&&◌, ◌||◌, ◌==◌, ℕ, Bool, true, false, cond, ℤ, pos, neg_ℤ, ◌+ℤ◌, ◌*ℤ◌, List, [], ◌∷◌, ◌++◌, fold, length, map, Ok}
use Rattle.std.specs.Int.RustNames.{int_le}
use Rattle.std.specs.List.{list_all}
use Rattle.std.specs.Ordering.{is_lt}
use Rattle.vtl_decimal.specs.Range.{fit_number, fit_integer}
use Rattle.vtl_decimal.specs.Rounding.{rounded_quotient}
use Rattle.vtl_decimal.specs.Settings.{Settings}
use Rattle.vtl_cell.specs.Groups.{values_of, is_integer, middle_of, numbers_of, units_of, whole_of, least, greatest}
use Rattle.vtl_cell.specs.Held.{IsHeld}
use Rattle.vtl_cell.specs.Kinds.{is_null}
use Rattle.vtl_cell.specs.Order.{cell_cmp}
use Rattle.vtl_cell.specs.Outcome.{Outcome}
use Rattle.vtl_cell.specs.Profile.{IsOfProfile}
use Rattle.vtl_cell.specs.ScalarArithmetic.{integer, number}
use Rattle.vtl_lists.specs.Sorting.{sorted_by}
use Rattle.vtl_cell.specs.declared.cell.Cell.{Cell}
use Rattle.vtl_cell.specs.declared.cell.Cell.TheVariants as c
use Rattle.vtl_cell.specs.declared.operator.AggKind.{AggKind}
use Rattle.vtl_cell.specs.declared.operator.AggKind.TheVariants as agg

-- a number in its units; other values count as zero
abbrev pub rest_of : Cell → ℤ
rest_of (c.Num k) = k
rest_of other = pos 0

-- of some values: how many they are, whether all are integers, the exact total of the integers, and that of the numbers in units
pub record Totals : Type 0 where
  pub count : ℕ
  pub is_whole : Bool
  pub whole : ℤ
  pub rest : ℤ

abbrev pub total_by : (Cell → ℤ) → List Cell → ℤ
total_by f xs = fold ◌+ℤ◌ (pos 0) (map f xs)

abbrev pub totals_of : List Cell → Totals
totals_of xs = record { count = length xs; is_whole = list_all is_integer xs; whole = total_by whole_of xs; rest = total_by rest_of xs }

-- what an aggregate needs of some values: how many they are, their totals, the first of them in order (null where there is none), or all of them in units
pub data Known : Type 0 where
  counted : ℕ → Known
  totalled : Totals → Known
  first : Cell → Known
  listed : List ℤ → Known

abbrev pub known_of : Settings → AggKind → List Cell → Known
known_of p agg.Sum xs = totalled (totals_of xs)
known_of p agg.Avg xs = totalled (totals_of xs)
known_of p agg.Count xs = counted (length xs)
known_of p agg.Min xs = first (least xs)
known_of p agg.Max xs = first (greatest xs)
known_of p agg.Median xs = listed (numbers_of p.scale xs)

-- ---- what contracts see of an accumulator
pub record Added : Type 0 where
  pub settings : Settings
  pub kind : AggKind
  pub known : Known

-- these are the cells that were added, in their order
pub record IsAdded (a : Added) (cells : List Cell) : Type 0 where
  pub knows : a.known ≡ known_of a.settings a.kind (values_of cells)

-- fewer than 2 ^ 63 cells were added
abbrev pub HasRoom : Added → Type 0
HasRoom a = (cells : List Cell) × IsAdded a cells × (length cells < 2 ^ 63)

-- the least and the greatest keep a cell, and the median keeps all values
abbrev pub takes_memory : AggKind → Bool
takes_memory agg.Min = true
takes_memory agg.Max = true
takes_memory agg.Median = true
takes_memory other = false

-- a total and a count may be out of range, whatever the values are
abbrev pub may_be_out_of_range : AggKind → Bool
may_be_out_of_range agg.Sum = true
may_be_out_of_range agg.Count = true
may_be_out_of_range other = false

-- a cell that a program holds, of the profile if it is an integer
abbrev pub IsProper : Settings → Cell → Type 0
IsProper p x = IsHeld x × IsOfProfile p x

-- ---- one value more

-- whether a value comes before the first so far
abbrev pub is_before : AggKind → Cell → Cell → Bool
is_before agg.Max x y = is_null y || is_lt (cell_cmp y x)
is_before other x y = is_null y || is_lt (cell_cmp x y)

abbrev pub totals_with : Totals → Cell → Totals
totals_with t x = record { count = t.count + 1; is_whole = t.is_whole && is_integer x; whole = t.whole +ℤ whole_of x; rest = t.rest +ℤ rest_of x }

abbrev pub known_with : Settings → AggKind → Known → Cell → Known
known_with p kind (counted n) x = counted (n + 1)
known_with p kind (totalled t) x = totalled (totals_with t x)
known_with p kind (first y) x = first (cond (is_before kind x y) x y)
known_with p kind (listed ks) x = listed (ks ++ units_of p.scale x ∷ [])

-- ---- from what is known to values

-- the number of an amount and a sign
abbrev pub with_sign : Bool → ℕ → ℤ
with_sign true n = neg_ℤ (pos n)
with_sign false n = pos n

-- the total in units, an integer standing for the equal number
abbrev pub units_in : Settings → Totals → ℤ
units_in p t = (t.whole *ℤ pos (10 ^ p.scale)) +ℤ t.rest

-- a total of integers is an integer
abbrev pub sum_value : Settings → Totals → Outcome Cell
sum_value p t = cond t.is_whole (integer (fit_integer p.scale t.whole)) (number (fit_number (units_in p t)))

abbrev pub mean_units : Settings → Totals → ℤ
mean_units p t = rounded_quotient p.rounding (units_in p t) (pos t.count)

abbrev pub total_value : Settings → AggKind → Totals → Outcome Cell
total_value p agg.Avg t = cond (t.count == 0) (Ok c.Null) (number (fit_number (mean_units p t)))
total_value p other t = cond (t.count == 0) (Ok c.Null) (sum_value p t)

abbrev pub median_value : Settings → List ℤ → Outcome Cell
median_value p [] = Ok c.Null
median_value p (k ∷ ks) = number (fit_number (middle_of p (sorted_by int_le (k ∷ ks))))
