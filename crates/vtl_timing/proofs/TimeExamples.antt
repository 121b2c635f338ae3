-- What the time operators give for single data sets.
use Rattle.std.proofs.Common.{◌≡◌, ℕ, pos, negsuc, List, [], ◌∷◌, Ok, Err, map, refl, ap, arith}
use Rattle.std.specs.Prelude.{codes}
use Rattle.std.specs.List.{AllByRecursion}
use Rattle.vtl_decimal.specs.declared.number.Fault.TheVariants.{Range}
use Rattle.vtl_decimal.specs.declared.settings.Rounding.TheVariants.{HalfUp}
use Rattle.vtl_decimal.specs.Settings.{Settings}
use Rattle.vtl_cell.specs.Row.{Row}
use Rattle.vtl_cell.specs.declared.cell.Cell.{Cell}
use Rattle.vtl_cell.specs.declared.cell.Cell.TheVariants.{Int, Null, Period, Text}
use Rattle.vtl_cell.specs.declared.kind.Kind.TheVariants as k
use Rattle.vtl_time.specs.Periods.{is_year_part, shift_of}
use Rattle.vtl_time.proofs.PeriodLemmas.{part_holds}
use Rattle.vtl_series.specs.declared.extent.Extent.TheVariants as extent
use Rattle.vtl_timing.proofs.SpanSeries.{HasPart, series_by_spans}
use Rattle.vtl_tree.specs.Columns.{identifiers_of}
use Rattle.vtl_time.specs.declared.periods.Frequency.TheVariants.{Annual, Quarter, Month}
use Rattle.vtl_tree.specs.Environment.{DataSet}
use Rattle.vtl_tree.specs.Measures.{made}
use Rattle.vtl_tree.specs.declared.structure.Component.{Component}
use Rattle.vtl_tree.specs.declared.structure.Role.TheVariants as role
use Rattle.vtl_tree.specs.declared.structure.Structure.{Structure}
use Rattle.vtl_meaning.specs.Joined.{tuple_at, tuple_point}
use Rattle.vtl_timing.specs.Times.{fill_of, in_order, flow_of, stock_of, timeshift_of}

abbrev p : Settings
p = record { scale = 6; rounding = HalfUp }

abbrev place : Component
place = made (codes "place") role.Identifier k.Text

abbrev month : Component
month = made (codes "month") role.Identifier k.Period

abbrev sold : Component
sold = made (codes "sold") role.Measure k.Int

abbrev s : Structure
s = record { components = place ∷ month ∷ sold ∷ [] }

abbrev quarter : (y q : ℕ) → Cell
quarter y q = Period (record { frequency = Quarter; year = y; part = q })

abbrev in_month : (y m : ℕ) → Cell
in_month y m = Period (record { frequency = Month; year = y; part = m })

abbrev year : ℕ → Cell
year y = Period (record { frequency = Annual; year = y; part = 1 })

abbrev at : Cell → Cell → Row
at t v = Text (codes "a") ∷ t ∷ v ∷ []

abbrev of : List Row → DataSet
of points = record { structure = s; points = points }

abbrev int : ℕ → Cell
int n = Int (pos n)

-- ---- a shift stays in its frequency, and leaves no year
a_period_before : timeshift_of (negsuc 0) (of (at (quarter 2020 1) (int 1) ∷ at (in_month 2020 12) (int 2) ∷ []))
    ≡ Ok (at (quarter 2019 4) (int 1) ∷ at (in_month 2020 11) (int 2) ∷ [])
unfolding is_year_part shift_of
a_period_before = refl

no_year_behind : timeshift_of (pos 1) (of (at (year 9999) (int 1) ∷ [])) ≡ Err Range
unfolding is_year_part shift_of
no_year_behind = refl

-- ---- flows and stocks; the points stand in no order
abbrev quarters : DataSet
quarters = of (at (quarter 2020 3) (int 3) ∷ at (quarter 2020 1) (int 2) ∷ at (quarter 2020 2) Null ∷ [])

totals : stock_of p quarters s ≡ Ok (at (quarter 2020 3) (int 5) ∷ at (quarter 2020 1) (int 2) ∷ at (quarter 2020 2) Null ∷ [])
totals = refl

differences : flow_of p quarters s ≡ Ok (at (quarter 2020 3) Null ∷ at (quarter 2020 1) (int 2) ∷ at (quarter 2020 2) Null ∷ [])
differences = refl

-- years and months beside them are other series
abbrev mixed : DataSet
mixed = of (at (quarter 2020 2) (int 3) ∷ at (year 2020) (int 10) ∷ at (quarter 2020 1) (int 2) ∷ at (in_month 2020 1) (int 7) ∷ [])

totals_apart : stock_of p mixed s ≡ Ok (at (quarter 2020 2) (int 5) ∷ at (year 2020) (int 10) ∷ at (quarter 2020 1) (int 2) ∷ at (in_month 2020 1) (int 7) ∷ [])
totals_apart = refl

differences_apart : flow_of p mixed s ≡ Ok (at (quarter 2020 2) (int 1) ∷ at (year 2020) (int 10) ∷ at (quarter 2020 1) (int 2) ∷ at (in_month 2020 1) (int 7) ∷ [])
differences_apart = refl

-- ---- filled series: a point for each period that is missing
abbrev gaps : List Row
gaps = at (quarter 2020 1) (int 1) ∷ at (quarter 2020 3) (int 3) ∷ (Text (codes "b") ∷ quarter 2020 4 ∷ int 4 ∷ []) ∷ []

abbrev elsewhere : Cell → Cell → Row
elsewhere t v = Text (codes "b") ∷ t ∷ v ∷ []

are_parts : AllByRecursion (HasPart 1) gaps
are_parts = (part_holds Quarter 2020 1 (omega arith) (omega arith) (omega arith), (part_holds Quarter 2020 3 (omega arith) (omega arith) (omega arith), (part_holds Quarter 2020 4 (omega arith) (omega arith) (omega arith), tt)))

-- the points of filled series, from these series
abbrev filled_from : List Row → List Row
filled_from series = map (λ key. tuple_point (tuple_at (identifiers_of s) (of gaps ∷ []) key)) (map (in_order s) series)

filled_alone : fill_of extent.Single (of gaps) ≡ at (quarter 2020 1) (int 1) ∷ at (quarter 2020 2) Null ∷ at (quarter 2020 3) (int 3) ∷ elsewhere (quarter 2020 4) (int 4) ∷ []
filled_alone = ap filled_from (series_by_spans extent.Single 1 (0 ∷ []) gaps are_parts)

filled_together : fill_of extent.All (of gaps)
    ≡ at (quarter 2020 1) (int 1) ∷ at (quarter 2020 2) Null ∷ at (quarter 2020 3) (int 3) ∷ at (quarter 2020 4) Null
    ∷ elsewhere (quarter 2020 1) Null ∷ elsewhere (quarter 2020 2) Null ∷ elsewhere (quarter 2020 3) Null ∷ elsewhere (quarter 2020 4) (int 4) ∷ []
filled_together = ap filled_from (series_by_spans extent.All 1 (0 ∷ []) gaps are_parts)
