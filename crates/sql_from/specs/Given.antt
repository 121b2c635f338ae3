-- The tables of SERIES over those that the program holds.
use Rattle.std.specs.Prelude.{◌≡◌, ◌∷◌, ◌++◌, [], map}
use Rattle.vtl_rows.specs.Named.{NamedTables}
use Rattle.vtl_rows.specs.Tables.{Listed, column_at}
use Rattle.vtl_series.specs.Series.{series_rows}
use Rattle.sql_eval.specs.Origins.{rows_at}
use Rattle.sql_eval.specs.declared.origin.SeriesPlaces.{SeriesPlaces}
use Rattle.sql_from.specs.Held.{rows_held}
use Rattle.sql_from.specs.declared.given.MadeSeries.{MadeSeries}

-- the table of a SERIES over a table, by the places of its columns
abbrev pub filled : SeriesPlaces → Listed → Listed
filled s t = record { columns = map (column_at t.columns) (s.by.items ++ s.on ∷ []); rows = series_rows s.extent s.on s.by.items t.rows }

-- the table of a SERIES has the rows of what it is made of
abbrev pub IsMade : NamedTables → MadeSeries → Type 0
IsMade held m = m.table.rows ≡ rows_at (rows_held held) m.origin
