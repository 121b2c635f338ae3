-- The tables of an engine whose rows fall.
use Rattle.std.specs.Prelude.{[], ◌∷◌, map, true}
use Rattle.vtl_rows.specs.Keys.{ordered}
use Rattle.vtl_rows.specs.Named.{NamedTables}
use Rattle.vtl_rows.specs.Tables.{Listed}

-- the rows by the first column, the greatest first
abbrev pub falling : Listed → Listed
falling t = record { columns = t.columns; rows = ordered (record { column = 0; falling = true } ∷ []) t.rows }

abbrev pub all_falling : NamedTables → NamedTables
all_falling tables = map (λ t. (t.0, falling t.1)) tables
