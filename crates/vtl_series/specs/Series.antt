-- The rows of the series of a table: for each series, a row for each period from its first to its last.
use Rattle.std.specs.Prelude.{ℕ, ◌*◌, ◌&&◌, Bool, true, false, List, [], ◌∷◌, ◌++◌, map, filter, nat_eq, nat_le, Option, None, Some, if◌then◌else◌}
use Rattle.std.specs.List.{flat_map, list_any, range_with_len}
use Rattle.std.specs.Option.{option_map_or}
use Rattle.vtl_cell.specs.Row.{Row, column_of, same_row}
use Rattle.vtl_cell.specs.declared.cell.Cell.{Cell}
use Rattle.vtl_cell.specs.declared.cell.Cell.TheVariants as c
use Rattle.vtl_index.specs.Groups.{each_once}
use Rattle.vtl_rows.specs.Tables.{cells_at}
use Rattle.vtl_time.specs.Periods.{YearPart, frequency_rank, index_of, parts_in_year, period_at}
use Rattle.vtl_time.specs.declared.periods.Frequency.{Frequency}
use Rattle.vtl_time.specs.declared.periods.Frequency.TheVariants.{Annual, Semester, Quarter, Month}
use Rattle.vtl_series.specs.declared.extent.Extent.{Extent}
use Rattle.vtl_series.specs.declared.extent.Extent.TheVariants as extent

-- in their order
abbrev pub frequencies : List Frequency
frequencies = Annual ∷ Semester ∷ Quarter ∷ Month ∷ []

abbrev pub has_frequency : Frequency → YearPart → Bool
has_frequency f q = nat_eq (frequency_rank q.frequency) (frequency_rank f)

-- the period in a cell, if there is one
abbrev pub period_in : Cell → Option YearPart
period_in (c.Period q) = Some q
period_in c.Null = None
period_in (c.Bool x) = None
period_in (c.Int x) = None
period_in (c.Num x) = None
period_in (c.Text x) = None
period_in (c.Day x) = None

-- the number of a period from the year 0 on, where it is of this frequency
abbrev pub number_of : Frequency → Option YearPart → Option ℕ
number_of f None = None
number_of f (Some q) = if has_frequency f q then Some (index_of q) else None

abbrev pub number_at : ℕ → Frequency → Row → Option ℕ
number_at on f r = number_of f (period_in (column_of on r))

-- whether some row has a period of this frequency, and its number passes the test
abbrev pub some_number : (ℕ → Bool) → Frequency → ℕ → List Row → Bool
some_number test f on rows = list_any (λ r. option_map_or test (number_at on f r) false) rows

-- whether a period belongs to a series: the series has a row of this frequency, and of the rows that are seen one is not later and one
-- not earlier
abbrev pub is_spanned : Frequency → ℕ → List Row → List Row → ℕ → Bool
is_spanned f on own seen i =
    some_number (λ j. true) f on own && (some_number (λ j. nat_le j i) f on seen && some_number (λ j. nat_le i j) f on seen)

-- the periods of a frequency that belong to a series, rising; they lie in the years 0 to 9999
abbrev pub numbers_of : Frequency → ℕ → List Row → List Row → List ℕ
numbers_of f on own seen = filter (is_spanned f on own seen) (range_with_len 0 (10000 * parts_in_year f))

-- the tuples of the other columns, each once, in the order in which they first come
abbrev pub keys_by : List ℕ → List Row → List Row
keys_by by rows = each_once same_row (map (cells_at by) rows)

-- the rows of a tuple
abbrev pub rows_by : List ℕ → List Row → Row → List Row
rows_by by rows key = filter (λ r. same_row (cells_at by r) key) rows

-- the rows among which the first and the last period are sought
abbrev pub seen_by : Extent → List Row → List Row → List Row
seen_by extent.Single rows own = own
seen_by extent.All rows own = rows

-- a row of a series: the cells of its tuple, and behind them a period
abbrev pub dated : Frequency → Row → ℕ → Row
dated f key i = key ++ c.Period (period_at f i) ∷ []

-- the rows of the series of a tuple that have this frequency
abbrev pub series_at : Extent → ℕ → List Row → List Row → Row → Frequency → List Row
series_at extent on rows own key f = map (dated f key) (numbers_of f on own (seen_by extent rows own))

-- the rows of the series of a tuple
abbrev pub tuple_rows : Extent → ℕ → List ℕ → List Row → Row → List Row
tuple_rows extent on by rows key = flat_map (series_at extent on rows (rows_by by rows key) key) frequencies

-- Two rows are in one series where they agree in the other columns, null being equal to null, and their periods have one frequency; a
-- row without a period is in none. For each series there is a row for each period from its first to its last, or from the first to the
-- last of all rows of its frequency.
abbrev pub series_rows : Extent → ℕ → List ℕ → List Row → List Row
series_rows extent on by rows = flat_map (tuple_rows extent on by rows) (keys_by by rows)
