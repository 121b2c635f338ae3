-- The rows of the SERIES that EXISTS asks.
use Rattle.std.proofs.Common.{◌≡◌, ◌∙◌, Some, sym, ap}
use Rattle.vtl_rows.specs.Named.{NamedTables, table_of}
use Rattle.vtl_rows.specs.Tables.{Listed}
use Rattle.vtl_series.specs.Series.{series_rows}
use Rattle.sql_meaning.specs.Tables.{rows_of}
use Rattle.sql_eval.specs.Origins.{IsSamePlaces, rows_at, rows_by}
use Rattle.sql_eval.specs.declared.origin.Origin.{Origin}
use Rattle.sql_eval.specs.declared.origin.SeriesPlaces.{SeriesPlaces}
use Rattle.sql_from.specs.Given.{filled}
use Rattle.sql_from.specs.Held.{rows_held}

-- over a table that is there it has those of that table
pub rows_over : (held : NamedTables) (o : Origin) (own : Listed) → table_of o.table held ≡ Some own → rows_at (rows_held held) o ≡ rows_by o.series own.rows
rows_over held o own there = ap (λ table. rows_by o.series (rows_of table)) there

-- what is made by the places of an origin has its rows
pub rows_made : (held : NamedTables) (own t : Listed) (x y : SeriesPlaces) (o : Origin) → table_of o.table held ≡ Some own → o.series ≡ Some y → IsSamePlaces x y → t ≡ filled x own → t.rows ≡ rows_at (rows_held held) o
rows_made held own t x y o there is same e =
    ap (λ (u : Listed). u.rows) e
    ∙ (λ i. series_rows (same.extent i) (same.on i) (same.by i) own.rows)
    ∙ sym (rows_over held o own there ∙ ap (λ s. rows_by s own.rows) is)
