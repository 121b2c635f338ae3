-- Spans of periods: that they stay within the years 0 to 9999, and which numbers they cover.
use Rattle.std.proofs.Common.{◌<◌, ◌*◌, ℕ, None, Some, Option, arith}
use Rattle.std.specs.Prelude.{IfSome}
use Rattle.vtl_time.specs.Periods.{parts_in_year}
use Rattle.vtl_time.specs.declared.periods.Frequency.{Frequency}
use Rattle.vtl_time.specs.declared.periods.Frequency.TheVariants.{Annual, Semester, Quarter, Month}
use Rattle.vtl_series.specs.declared.spans.Span.{Span}
use Rattle.vtl_series.specs.declared.spans.Spans.{Spans}
use Rattle.vtl_series.specs.Kept.{AreWithin, IsWithin, and_index, and_number}

-- one number more
number_within : (f : Frequency) (s : Option Span) (i : ℕ) → IfSome s (IsWithin f) → i < 10000 * parts_in_year f → IsWithin f (and_number s i)
number_within f None i h b = (omega arith, b)
number_within f (Some s) i h b = (omega (arith, h.0), omega (arith, h.1, b))

pub and_within : (s : Spans) → AreWithin s → (g : Frequency) (i : ℕ) → i < 10000 * parts_in_year g → AreWithin (and_index s g i)
and_within s h Annual i b Annual = number_within Annual s.annual i (h Annual) b
and_within s h Annual i b Semester = h Semester
and_within s h Annual i b Quarter = h Quarter
and_within s h Annual i b Month = h Month
and_within s h Semester i b Annual = h Annual
and_within s h Semester i b Semester = number_within Semester s.semester i (h Semester) b
and_within s h Semester i b Quarter = h Quarter
and_within s h Semester i b Month = h Month
and_within s h Quarter i b Annual = h Annual
and_within s h Quarter i b Semester = h Semester
and_within s h Quarter i b Quarter = number_within Quarter s.quarter i (h Quarter) b
and_within s h Quarter i b Month = h Month
and_within s h Month i b Annual = h Annual
and_within s h Month i b Semester = h Semester
and_within s h Month i b Quarter = h Quarter
and_within s h Month i b Month = number_within Month s.month i (h Month) b
