-- The sources of a select over tables that the program holds.
use Rattle.std.specs.Prelude.{◌≡◌, ℕ, ◌+◌, List, [], ◌∷◌, map, length, Option, None, Some, All}
use Rattle.std.specs.List.{AllByRecursion}
use Rattle.vtl_cell.specs.declared.cell.Cell.{Cell}
use Rattle.vtl_cell.specs.declared.cell.Cell.TheVariants.{Null}
use Rattle.vtl_rows.specs.Named.{NamedTables, table_of}
use Rattle.vtl_rows.specs.Tables.{Listed, column_at}
use Rattle.vtl_rows.specs.declared.gather.Pick.{Pick}
use Rattle.sql_tree.specs.Trees.{Text}
use Rattle.sql_tree.specs.declared.parts.Series.{Series}
use Rattle.sql_tree.specs.declared.parts.Source.{Source}
use Rattle.sql_check_parts.specs.Scopes.{Named, Scope, series_names}
use Rattle.sql_meaning.specs.Tables.{place_among, series_over}
use Rattle.sql_from.specs.Held.{IsHeld, columns_held, tables_held}
use Rattle.sql_from.specs.Rows.{picks_from}
use Rattle.sql_from.specs.declared.sources.SourceTable.{SourceTable}

-- All tables that the program holds, and the sources, each an alias with its table.
pub record Sourced : Type 0 where
  pub held : NamedTables
  pub sources : NamedTables

-- the tables of the sources, from the left
abbrev pub parts_of : NamedTables → List Listed
parts_of sources = map (λ s. s.1) sources

-- the columns of the sources by alias
abbrev pub scope_held : NamedTables → Scope
scope_held = tables_held

-- the table of a name, or one of nothing where there is no such table
abbrev pub or_nothing : Option Listed → Listed
or_nothing None = record { columns = []; rows = [] }
or_nothing (Some t) = t

abbrev pub table_named : NamedTables → Text → Listed
table_named held name = or_nothing (table_of name held)

-- the table of a SERIES over a table: a column for each of its names
abbrev pub series_table : Series → Listed → Listed
series_table s t = record { columns = map (λ name. column_at t.columns (place_among (columns_held t) name)) (series_names s); rows = series_over s (columns_held t) t.rows }

abbrev pub given_table : Option Series → Listed → Listed
given_table None t = t
given_table (Some s) t = series_table s t

-- the table of a source: one that is held, or that of a SERIES over it
abbrev pub table_given : NamedTables → Source → Listed
table_given held s = given_table s.series (table_named held s.table)

-- ---- places

abbrev pub source_of : Text × SourceTable → Text × Listed
source_of s = (s.0, s.1.table.now)

-- the columns of each source stand behind those of the sources before it
abbrev pub AreSited : ℕ → Named SourceTable → Type 0
AreSited n [] = Unit {0}
AreSited n (s ∷ ss) = (s.1.first ≡ n) × AreSited (n + length s.1.table.now.columns) ss

-- each row has a cell for each column
abbrev pub IsWide : Listed → Type 0
IsWide t = All (λ r. length r ≡ length t.columns) t.rows

-- what the sources know of themselves
pub record AreSources (held : NamedTables) (sources : Named SourceTable) (picks : List Pick) (absent : Cell) : Type 0 where
  pub sited : AreSited 0 sources
  pub picked : picks ≡ picks_from 0 (parts_of (map source_of sources))
  pub wide : AllByRecursion IsWide (parts_of (map source_of sources))
  pub among : AllByRecursion (IsHeld held) (parts_of (map source_of sources))
  pub null : absent ≡ Null
