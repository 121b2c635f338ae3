-- The order of cells: null, then by kind, then by value. Equality is a tie.
use Rattle.std.specs.declared.cmp.Ordering.{Ordering}
use Rattle.std.specs.declared.cmp.Ordering.TheVariants.{Equal}
use Rattle.std.specs.Ordering.{nat_cmp, int_cmp, bool_cmp, is_eq}
use Rattle.std.specs.Cmp.Lexicographic.{slice_cmp}
use Rattle.std.specs.Prelude.{ℕ, Bool}
use Rattle.vtl_time.specs.Days.{day_cmp}
use Rattle.vtl_time.specs.Periods.{period_cmp}
use Rattle.vtl_cell.specs.declared.cell.Cell.{Cell}
use Rattle.vtl_cell.specs.declared.cell.Cell.TheVariants as c

-- null before all values, and the kinds in this order
abbrev pub kind_rank : Cell → ℕ
kind_rank c.Null = 0
kind_rank (c.Bool x) = 1
kind_rank (c.Int x) = 2
kind_rank (c.Num x) = 3
kind_rank (c.Text x) = 4
kind_rank (c.Day x) = 5
kind_rank (c.Period x) = 6

-- by value within a kind: false before true, numbers by size, texts by their characters, days by time, periods by frequency, year and part
abbrev pub cell_cmp : Cell → Cell → Ordering
cell_cmp c.Null c.Null = Equal
cell_cmp (c.Bool x) (c.Bool y) = bool_cmp x y
cell_cmp (c.Int x) (c.Int y) = int_cmp x y
cell_cmp (c.Num x) (c.Num y) = int_cmp x y
cell_cmp (c.Text x) (c.Text y) = slice_cmp nat_cmp x y
cell_cmp (c.Day x) (c.Day y) = day_cmp x y
cell_cmp (c.Period x) (c.Period y) = period_cmp x y
cell_cmp a b = nat_cmp (kind_rank a) (kind_rank b)

abbrev pub same_cell : Cell → Cell → Bool
same_cell a b = is_eq (cell_cmp a b)
