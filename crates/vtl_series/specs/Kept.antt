-- What a walk over rows keeps: for each frequency the numbers of the first and of the last period, where there is one.
use Rattle.std.specs.Prelude.{◌≡◌, ◌≤◌, ◌<◌, ◌*◌, ◌+◌, ◌-◌, ◌&&◌, ◌++◌, ℕ, Bool, true, false, List, [], ◌∷◌, min, max, nat_le, map, Option, None, Some, IfSome}
use Rattle.std.specs.List.{fold, range_with_len}
use Rattle.vtl_cell.specs.Row.{Row, column_of}
use Rattle.vtl_time.specs.Periods.{YearPart, index_of, parts_in_year}
use Rattle.vtl_time.specs.declared.periods.Frequency.{Frequency}
use Rattle.vtl_time.specs.declared.periods.Frequency.TheVariants.{Annual, Semester, Quarter, Month}
use Rattle.vtl_series.specs.declared.extent.Extent.{Extent}
use Rattle.vtl_series.specs.declared.extent.Extent.TheVariants as extent
use Rattle.vtl_series.specs.declared.spans.Span.{Span}
use Rattle.vtl_series.specs.declared.spans.Spans.{Spans}
use Rattle.vtl_cell.specs.declared.cell.Cell.TheVariants as c
use Rattle.vtl_rows.specs.Tables.{fits}
use Rattle.vtl_rows.specs.declared.column.Column.{Column}
use Rattle.vtl_series.specs.Series.{dated, period_in}

-- a span and one number more
abbrev pub and_number : Option Span → ℕ → Span
and_number None i = record { first = i; last = i }
and_number (Some s) i = record { first = min s.first i; last = max s.last i }

abbrev pub no_spans : Spans
no_spans = record { annual = None; semester = None; quarter = None; month = None }

abbrev pub span_at : Spans → Frequency → Option Span
span_at s Annual = s.annual
span_at s Semester = s.semester
span_at s Quarter = s.quarter
span_at s Month = s.month

-- the spans and one period more, by its frequency and its number
abbrev pub and_index : Spans → Frequency → ℕ → Spans
and_index s Annual i = record { annual = Some (and_number s.annual i); semester = s.semester; quarter = s.quarter; month = s.month }
and_index s Semester i = record { annual = s.annual; semester = Some (and_number s.semester i); quarter = s.quarter; month = s.month }
and_index s Quarter i = record { annual = s.annual; semester = s.semester; quarter = Some (and_number s.quarter i); month = s.month }
and_index s Month i = record { annual = s.annual; semester = s.semester; quarter = s.quarter; month = Some (and_number s.month i) }

abbrev pub and_period : Spans → Option YearPart → Spans
and_period s None = s
and_period s (Some q) = and_index s q.frequency (index_of q)

abbrev pub spans_of : ℕ → List Row → Spans
spans_of on rows = fold (λ s r. and_period s (period_in (column_of on r))) no_spans rows

-- whether a number lies between the first and the last
abbrev pub covers : Option Span → ℕ → Bool
covers None i = false
covers (Some s) i = nat_le s.first i && nat_le i s.last

-- the numbers from the first to the last
abbrev pub numbers_of_span : Option Span → List ℕ
numbers_of_span None = []
numbers_of_span (Some s) = range_with_len s.first (s.last + 1 - s.first)

-- the span of a series of a frequency: its own, or that of all rows where it has one
abbrev pub chosen : Extent → Option Span → Option Span → Option Span
chosen extent.Single own all = own
chosen extent.All None all = None
chosen extent.All (Some s) all = all

-- its periods lie in the years 0 to 9999
abbrev pub IsWithin : Frequency → Span → Type 0
IsWithin f s = (s.first ≤ s.last) × (s.last < 10000 * parts_in_year f)

abbrev pub AreWithin : Spans → Type 0
AreWithin s = (f : Frequency) → IfSome (span_at s f) (IsWithin f)

-- the rows of a tuple that have a frequency, from its spans and those of all rows
abbrev pub dated_in : Extent → Row → Spans → Spans → Frequency → List Row
dated_in extent key own all f = map (dated f key) (numbers_of_span (chosen extent (span_at own f) (span_at all f)))

-- a tuple with any period behind it fits the columns
abbrev pub FitsDated : List Column → Row → Type 0
FitsDated columns key = (q : YearPart) → fits columns (key ++ c.Period q ∷ []) ≡ true
