-- The rows of a group's series, from the spans of its rows and those of all rows.
use Rattle.std.proofs.Common.{◌≡◌, ◌<◌, ◌+◌, ◌++◌, ℕ, List, [], take, None, Some, Option, map, length, get_or, ap, sym, ◌∙◌, subst}
use Rattle.std.specs.Prelude.{IfSome}
use Rattle.std.specs.List.{flat_map}
use Rattle.std.proofs.lemmas.List.{flat_map_more, take_more}
use Rattle.vtl_cell.specs.Row.{Row}
use Rattle.vtl_index.specs.Groups.{firsts, rows_led}
use Rattle.vtl_index.specs.Leads.{leads_of}
use Rattle.vtl_rows.specs.Places.{row_at}
use Rattle.vtl_rows.specs.Tables.{cells_at}
use Rattle.vtl_time.specs.declared.periods.Frequency.{Frequency}
use Rattle.vtl_series.specs.declared.extent.Extent.{Extent}
use Rattle.vtl_series.specs.declared.extent.Extent.TheVariants as extent
use Rattle.vtl_series.specs.declared.spans.Span.{Span}
use Rattle.vtl_series.specs.declared.spans.Spans.{Spans}
use Rattle.vtl_series.specs.Kept.{AreWithin, IsWithin, chosen, dated_in, span_at, spans_of}
use Rattle.vtl_series.specs.Series.{dated, frequencies, keys_by, rows_by, series_at, tuple_rows}
use Rattle.vtl_series.proofs.GroupLemmas.{IsGroup, group_key, led_rows}
use Rattle.vtl_series.proofs.NumberLemmas.{numbers_are}

chosen_within : (e : Extent) (f : Frequency) (own all : Option Span) → IfSome own (IsWithin f) → IfSome all (IsWithin f) → IfSome (chosen e own all) (IsWithin f)
chosen_within extent.Single f own all h k = h
chosen_within extent.All f None all h k = tt
chosen_within extent.All f (Some s) all h k = k

-- by the rows themselves
series_are : (e : Extent) (on : ℕ) (rows own : List Row) (key : Row) → AreWithin (spans_of on own) → AreWithin (spans_of on rows)
    → flat_map (dated_in e key (spans_of on own) (spans_of on rows)) frequencies ≡ flat_map (series_at e on rows own key) frequencies
series_are e on rows own key h k = ap (λ F. flat_map F frequencies) (λ n f. same f n)
  where
    same : (f : Frequency) → dated_in e key (spans_of on own) (spans_of on rows) f ≡ series_at e on rows own key f
    same f = ap (map (dated f key)) (sym (numbers_are e on f rows own (chosen_within e f (span_at (spans_of on own) f) (span_at (spans_of on rows) f) (h f) (k f))))

-- by the groups of a table
pub group_series : (e : Extent) (on : ℕ) (by : List ℕ) (rows : List Row) (g : ℕ) → (h : g < length (firsts (leads_of (cells_at by) rows))) → (own all : Spans)
    → own ≡ spans_of on (map (row_at rows) (rows_led (leads_of (cells_at by) rows) (get_or (firsts (leads_of (cells_at by) rows)) g 0))) → all ≡ spans_of on rows → AreWithin own → AreWithin all
    → flat_map (dated_in e (get_or (keys_by by rows) g []) own all) frequencies
    ≡ flat_map (series_at e on rows (rows_by by rows (get_or (keys_by by rows) g [])) (get_or (keys_by by rows) g [])) frequencies
group_series e on by rows g h own all mine every own_within all_within =
    let key = get_or (keys_by by rows) g [] in
    let is : own ≡ spans_of on (rows_by by rows key) = mine ∙ ap (spans_of on) (led_rows by rows g h) in
    ap (λ s. flat_map (dated_in e key s all) frequencies) is
    ∙ ap (λ s. flat_map (dated_in e key (spans_of on (rows_by by rows key)) s) frequencies) every
    ∙ series_are e on rows (rows_by by rows key) key (subst AreWithin is own_within) (subst AreWithin every all_within)

-- by the places of a group
pub one_group : (e : Extent) (on : ℕ) (by : List ℕ) (rows : List Row) (g : ℕ) (places : List ℕ) → IsGroup by rows g places → (key : Row) (own all : Spans) → key ≡ cells_at by (row_at rows (get_or places 0 0))
    → own ≡ spans_of on (map (row_at rows) places) → all ≡ spans_of on rows → AreWithin own → AreWithin all → flat_map (dated_in e key own all) frequencies ≡ tuple_rows e on by rows (row_at (keys_by by rows) g)
one_group e on by rows g places is key own all keyed mine every own_within all_within =
    ap (λ r. flat_map (dated_in e r own all) frequencies) (keyed ∙ group_key by rows g places is)
    ∙ group_series e on by rows g is.within own all (mine ∙ ap (λ l. spans_of on (map (row_at rows) l)) is.led) every own_within all_within

-- the rows of one tuple more
pub one_more : (F : Row → List Row) (keys : List Row) (i : ℕ) (old new : List Row) → i < length keys → old ≡ flat_map F (take i keys) → new ≡ old ++ F (row_at keys i) → new ≡ flat_map F (take (i + 1) keys)
one_more F keys i old new h before one =
    one ∙ ap (λ l. l ++ F (row_at keys i)) before ∙ flat_map_more F [] (take i keys) (row_at keys i) ∙ ap (flat_map F) (sym (take_more keys i [] h))
