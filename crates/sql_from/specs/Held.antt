-- The tables that the program holds, as typing and the meaning know them.
use Rattle.std.specs.Prelude.{List, map}
use Rattle.vtl_cell.specs.Row.{Row}
use Rattle.vtl_decimal.specs.Settings.{Settings}
use Rattle.vtl_rows.specs.Named.{NamedTables, table_of}
use Rattle.vtl_rows.specs.Tables.{Listed}
use Rattle.sql_tree.specs.Trees.{Text}
use Rattle.sql_check_parts.specs.Scopes.{Columns, Tables}
use Rattle.sql_meaning.specs.Profiles.{AreOfProfile, TablesOfProfile}
use Rattle.sql_meaning.specs.Tables.{Base, base_over, column_entry, rows_of}

abbrev pub columns_held : Listed → Columns
columns_held t = map column_entry t.columns

-- each table by its name, with the names and the kinds of its columns, in order
abbrev pub tables_held : NamedTables → Tables
tables_held held = map (λ t. (t.0, columns_held t.1)) held

-- the rows of the table of a name; none where there is no such table
abbrev pub rows_held : NamedTables → Text → List Row
rows_held held name = rows_of (table_of name held)

-- what a query rests on over the tables that the program holds
abbrev pub base_held : Settings → NamedTables → Base
base_held p held = base_over p (tables_held held) held

-- the rows of a table are of the profile wherever those of all tables are that the program holds
abbrev pub IsHeld : NamedTables → Listed → Type 0
IsHeld held t = (p : Settings) → TablesOfProfile (base_held p held) → AreOfProfile p t.rows
