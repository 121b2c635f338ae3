-- The exact totals of values, as cells come and go.
use Rattle.std.specs.Prelude.{◌+◌, ◌-◌, ◌<◌, ◌≤◌, ◌^◌, ◌==◌, ◌+ℤ◌, ◌-ℤ◌, pos, unsigned_abs, List, length, count_by}
use Rattle.vtl_decimal.specs.Range.{fit_integer}
use Rattle.vtl_decimal.specs.Settings.{Settings}
use Rattle.vtl_agg.specs.Added.{rest_of, total_by, total_value}
use Rattle.vtl_agg.specs.Added as agg
use Rattle.vtl_cell.specs.Groups.{is_integer, whole_of}
use Rattle.vtl_cell.specs.Outcome.{Outcome}
use Rattle.vtl_cell.specs.ScalarArithmetic.{integer}
use Rattle.vtl_cell.specs.declared.cell.Cell.{Cell}
use Rattle.vtl_cell.specs.declared.cell.Cell.TheVariants as c
use Rattle.vtl_cell.specs.declared.operator.AggKind.{AggKind}
use Rattle.vtl_cell.specs.declared.operator.AggKind.TheVariants as kinds
use Rattle.vtl_frames.specs.declared.totals.Totals.{Totals}

abbrev pub totals_of : List Cell → Totals
totals_of xs = record { count = length xs; integers = count_by is_integer xs; whole = total_by whole_of xs; rest = total_by rest_of xs }

-- the same for an accumulator, which knows whether all values are integers
abbrev pub sums_in : Totals → agg.Totals
sums_in t = record { count = t.count; is_whole = t.integers == t.count; whole = t.whole; rest = t.rest }

-- with one cell more, where null is no value
abbrev pub joined : Totals → Cell → Totals
joined t c.Null = t
joined t (c.Int n) = record { count = t.count + 1; integers = t.integers + 1; whole = t.whole +ℤ n; rest = t.rest }
joined t (c.Num k) = record { count = t.count + 1; integers = t.integers; whole = t.whole; rest = t.rest +ℤ k }
joined t other = record { count = t.count + 1; integers = t.integers; whole = t.whole; rest = t.rest }

-- without a cell that came
abbrev pub left : Totals → Cell → Totals
left t c.Null = t
left t (c.Int n) = record { count = t.count - 1; integers = t.integers - 1; whole = t.whole -ℤ n; rest = t.rest }
left t (c.Num k) = record { count = t.count - 1; integers = t.integers; whole = t.whole; rest = t.rest -ℤ k }
left t other = record { count = t.count - 1; integers = t.integers; whole = t.whole; rest = t.rest }

-- it has counted a value, where the cell is one
abbrev pub HasCounted : Totals → Cell → Type 0
HasCounted t c.Null = Unit {0}
HasCounted t (c.Int n) = (1 ≤ t.count) × (1 ≤ t.integers)
HasCounted t other = 1 ≤ t.count

-- one value more or less fits
pub record IsRoomy (t : Totals) : Type 0 where
  pub count : t.count < 2 ^ 62
  pub integers : t.integers ≤ t.count
  pub whole : unsigned_abs t.whole ≤ 2 ^ 125
  pub rest : unsigned_abs t.rest ≤ 2 ^ 125

-- what a cell adds to the totals is in range of 64 bits
pub record IsSmall (x : Cell) : Type 0 where
  pub whole : unsigned_abs (whole_of x) ≤ 2 ^ 63
  pub rest : unsigned_abs (rest_of x) ≤ 2 ^ 63

-- the total, the mean or the count
abbrev pub value_of : Settings → AggKind → Totals → Outcome Cell
value_of p kinds.Count t = integer (fit_integer p.scale (pos t.count))
value_of p kind t = total_value p kind (sums_in t)
