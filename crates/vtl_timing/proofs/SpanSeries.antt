-- Series by the spans of their rows, which needs no list of all periods.
use Rattle.std.proofs.Common.{◌≡◌, ℕ, List, [], ◌∷◌, None, Some, Option, map, ap, sym}
use Rattle.std.specs.Prelude.{IfSome}
use Rattle.std.specs.List.{AllByRecursion, flat_map, fold}
use Rattle.vtl_lists.proofs.Sorts.{AllByRecursion-filter}
use Rattle.vtl_cell.specs.Row.{Row, column_of, same_row}
use Rattle.vtl_rows.specs.Tables.{cells_at}
use Rattle.vtl_time.specs.Periods.{YearPart, index_of}
use Rattle.vtl_time.proofs.PeriodLemmas.{IsPart, index_below}
use Rattle.vtl_time.specs.declared.periods.Frequency.{Frequency}
use Rattle.vtl_time.specs.declared.periods.Frequency.TheVariants.{Annual, Semester, Quarter, Month}
use Rattle.vtl_series.specs.declared.extent.Extent.{Extent}
use Rattle.vtl_series.specs.declared.extent.Extent.TheVariants as extent
use Rattle.vtl_series.specs.Kept.{AreWithin, IsWithin, and_period, chosen, dated_in, no_spans, span_at, spans_of}
use Rattle.vtl_series.specs.Series.{dated, frequencies, keys_by, period_in, rows_by, series_at, series_rows}
use Rattle.vtl_series.proofs.NumberLemmas.{numbers_are}
use Rattle.vtl_series.proofs.SpanLemmas.{and_within}

-- ---- the spans of rows whose periods lie in the years 0 to 9999
abbrev pub HasPart : ℕ → Row → Type 0
HasPart on r = IfSome (period_in (column_of on r)) IsPart

period_more : (s : _) (q : Option YearPart) → AreWithin s → IfSome q IsPart → AreWithin (and_period s q)
period_more s None h i = h
period_more s (Some q) h i = and_within s h q.frequency (index_of q) (index_below q i)

rows_more : (on : ℕ) (s : _) (rows : List Row) → AreWithin s → AllByRecursion (HasPart on) rows → AreWithin (fold (λ s r. and_period s (period_in (column_of on r))) s rows)
rows_more on s [] h all = h
rows_more on s (r ∷ rows) h all = rows_more on (and_period s (period_in (column_of on r))) rows (period_more s (period_in (column_of on r)) h all.0) all.1

none_within : AreWithin no_spans
none_within Annual = tt
none_within Semester = tt
none_within Quarter = tt
none_within Month = tt

pub spans_within : (on : ℕ) (rows : List Row) → AllByRecursion (HasPart on) rows → AreWithin (spans_of on rows)
spans_within on rows all = rows_more on no_spans rows none_within all

-- ---- series
chosen_within : (e : Extent) (f : Frequency) (own all : Option _) → IfSome own (IsWithin f) → IfSome all (IsWithin f) → IfSome (chosen e own all) (IsWithin f)
chosen_within extent.Single f own all h k = h
chosen_within extent.All f None all h k = tt
chosen_within extent.All f (Some s) all h k = k

abbrev pub by_spans : Extent → ℕ → List ℕ → List Row → List Row
by_spans e on by rows = flat_map (λ key. flat_map (dated_in e key (spans_of on (rows_by by rows key)) (spans_of on rows)) frequencies) (keys_by by rows)

pub series_by_spans : (e : Extent) (on : ℕ) (by : List ℕ) (rows : List Row) → AllByRecursion (HasPart on) rows → series_rows e on by rows ≡ by_spans e on by rows
series_by_spans e on by rows all = sym (ap (λ F. flat_map F (keys_by by rows)) (λ n key. whole key n))
  where
    same : (key : Row) (f : Frequency) → dated_in e key (spans_of on (rows_by by rows key)) (spans_of on rows) f ≡ series_at e on rows (rows_by by rows key) key f
    same key f =
        let own = spans_within on (rows_by by rows key) (AllByRecursion-filter (HasPart on) (λ r. same_row (cells_at by r) key) rows all) in
        let seen = spans_within on rows all in
        ap (map (dated f key)) (sym (numbers_are e on f rows (rows_by by rows key) (chosen_within e f (span_at (spans_of on (rows_by by rows key)) f) (span_at (spans_of on rows) f) (own f) (seen f))))

    whole : (key : Row) → flat_map (dated_in e key (spans_of on (rows_by by rows key)) (spans_of on rows)) frequencies ≡ flat_map (series_at e on rows (rows_by by rows key) key) frequencies
    whole key = ap (λ F. flat_map F frequencies) (λ m f. same key f m)
