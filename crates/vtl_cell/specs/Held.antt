-- Which cells there are in a program: those whose parts are in the range of their types.
use Rattle.std.specs.Prelude.{◌^◌, ◌<◌, IsTrue, unsigned_abs}
use Rattle.std.specs.Int.{w64}
use Rattle.std.specs.Int.RustNames.{FitsSigned}
use Rattle.std.specs.Str.{all_scalars}
use Rattle.vtl_time.specs.Days.{is_calendar_day}
use Rattle.vtl_time.specs.Periods.{is_year_part}
use Rattle.vtl_cell.specs.declared.cell.Cell.{Cell}
use Rattle.vtl_cell.specs.declared.cell.Cell.TheVariants as c

abbrev pub IsHeld : Cell → Type 0
IsHeld c.Null = Unit {0}
IsHeld (c.Bool b) = Unit {0}
IsHeld (c.Int n) = FitsSigned w64 n
IsHeld (c.Num k) = unsigned_abs k < 10 ^ 18
IsHeld (c.Text t) = IsTrue (all_scalars t)
IsHeld (c.Day d) = IsTrue (is_calendar_day d.year d.month d.day)
IsHeld (c.Period q) = IsTrue (is_year_part q.frequency q.year q.part)
