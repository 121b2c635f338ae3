-- What EXISTS has its rows of: a table, or a SERIES over it, with the places of its columns.
use Rattle.std.specs.Prelude.{◌≡◌, List, map, Option, Some, None}
use Rattle.vtl_cell.specs.Row.{Row}
use Rattle.vtl_series.specs.Series.{series_rows}
use Rattle.sql_tree.specs.Trees.{Text}
use Rattle.sql_tree.specs.declared.parts.Series.{Series}
use Rattle.sql_tree.specs.declared.parts.Source.{Source}
use Rattle.sql_check_parts.specs.Scopes.{Columns, Tables}
use Rattle.sql_meaning.specs.Tables.{columns_named, extent_of, place_among}
use Rattle.sql_eval.specs.declared.origin.Origin.{Origin}
use Rattle.sql_eval.specs.declared.origin.SeriesPlaces.{SeriesPlaces}

-- the rows of a table, or those that a SERIES over it gives
abbrev pub rows_by : Option SeriesPlaces → List Row → List Row
rows_by None rows = rows
rows_by (Some s) rows = series_rows s.extent s.on s.by.items rows

-- the rows that it has where tables have these
abbrev pub rows_at : (Text → List Row) → Origin → List Row
rows_at rows o = rows_by o.series (rows o.table)

-- ---- of a source

-- the places are those of the columns that a SERIES names, among the columns of its table
pub record IsSeriesOf (columns : Columns) (s : Series) (x : SeriesPlaces) : Type 0 where
  pub extent : x.extent ≡ extent_of s.span
  pub on : x.on ≡ place_among columns s.on
  pub by : x.by.items ≡ map (place_among columns) s.by

abbrev pub IsMaybeSeriesOf : Columns → Option Series → Option SeriesPlaces → Type 0
IsMaybeSeriesOf columns None None = Unit {0}
IsMaybeSeriesOf columns None (Some x) = ⊥
IsMaybeSeriesOf columns (Some s) None = ⊥
IsMaybeSeriesOf columns (Some s) (Some x) = IsSeriesOf columns s x

pub record IsOriginOf (tables : Tables) (s : Source) (o : Origin) : Type 0 where
  pub table : o.table ≡ s.table
  pub series : IsMaybeSeriesOf (columns_named tables s.table) s.series o.series

-- ---- the same

-- The lists of places have the same items, wherever they lie in memory.
pub record IsSamePlaces (x y : SeriesPlaces) : Type 0 where
  pub extent : x.extent ≡ y.extent
  pub on : x.on ≡ y.on
  pub by : x.by.items ≡ y.by.items

abbrev pub AreSameSeries : Option SeriesPlaces → Option SeriesPlaces → Type 0
AreSameSeries None None = Unit {0}
AreSameSeries None (Some y) = ⊥
AreSameSeries (Some x) None = ⊥
AreSameSeries (Some x) (Some y) = IsSamePlaces x y

pub record AreSame (o q : Origin) : Type 0 where
  pub table : o.table ≡ q.table
  pub series : AreSameSeries o.series q.series
