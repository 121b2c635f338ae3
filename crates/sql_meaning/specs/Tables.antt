-- Tables: columns, each with a name and a kind, and a list of rows. What a query rests on.
use Rattle.std.specs.Prelude.{◌≡◌, ℕ, true, List, [], map, Option, Some, None}
use Rattle.std.specs.List.{AllByRecursion, position_or_len}
use Rattle.vtl_cell.specs.Row.{Row}
use Rattle.vtl_decimal.specs.Settings.{Settings}
use Rattle.vtl_cell.specs.declared.kind.Kind.{Kind}
use Rattle.vtl_rows.specs.Named.{NamedTables, table_of}
use Rattle.vtl_rows.specs.Tables.{Listed, column_kinds, fits_kinds}
use Rattle.vtl_rows.specs.declared.column.Column.{Column}
use Rattle.sql_tree.specs.Trees.{Text}
use Rattle.sql_tree.specs.declared.parts.Series.{Series}
use Rattle.sql_tree.specs.declared.parts.Source.{Source}
use Rattle.sql_tree.specs.declared.word_groups.Span.{Span}
use Rattle.sql_tree.specs.declared.word_groups.Span.TheVariants as span
use Rattle.sql_check_parts.specs.Scopes.{Columns, Tables, columns_from, columns_of, or_nothing}
use Rattle.vtl_series.specs.Series.{series_rows}
use Rattle.vtl_series.specs.declared.extent.Extent.{Extent}
use Rattle.vtl_series.specs.declared.extent.Extent.TheVariants as extent
use Rattle.vtl_text.specs.Texts.{same_text}

-- what a query rests on: the settings, the tables before its statement with their columns, as it is typed over them, and the rows of each
pub record Base : Type 0 where
  pub settings : Settings
  pub tables : Tables
  pub rows : Text → List Row

-- the columns of a table; of a name that is none there are none, and no typed query names it
abbrev pub columns_named : Tables → Text → Columns
columns_named tables name = or_nothing (columns_of tables name)

-- ---- sources

abbrev pub extent_of : Span → Extent
extent_of span.Single = extent.Single
extent_of span.All = extent.All

-- the place of a column in the rows of a table; of a name that is none it is past the last cell, and no typed query names it
abbrev pub place_among : Columns → Text → ℕ
place_among columns name = position_or_len (λ x. same_text name x.0) columns

-- the rows of a SERIES over a table of these columns and rows
abbrev pub series_over : Series → Columns → List Row → List Row
series_over s columns rows = series_rows (extent_of s.span) (place_among columns s.on) (map (place_among columns) s.by) rows

-- the rows that a source has where its table has these columns and rows
abbrev pub given_rows : Option Series → Columns → List Row → List Row
given_rows None columns rows = rows
given_rows (Some s) columns rows = series_over s columns rows

-- A source is a table with its rows, or a SERIES.
abbrev pub rows_from : Base → Source → List Row
rows_from b s = given_rows s.series (columns_named b.tables s.table) (b.rows s.table)

-- the columns of a source; where its table is not there it has none, and no typed query names it
abbrev pub columns_given : Tables → Source → Columns
columns_given tables s = or_nothing (columns_from tables s)

-- ---- rows that fit

abbrev pub kinds_of : Columns → List Kind
kinds_of columns = map (λ x. x.1) columns

-- each row has a cell for each kind, null or of it
abbrev pub RowsFit : List Kind → List Row → Type 0
RowsFit kinds rows = AllByRecursion (λ r. fits_kinds kinds r ≡ true) rows

-- the rows of each table fit its columns
abbrev pub TablesFit : Base → Type 0
TablesFit b = (name : Text) (columns : Columns) → columns_of b.tables name ≡ Some columns → RowsFit (kinds_of columns) (b.rows name)

-- ---- tables of the program

-- a column of the program's table, as typing names it
abbrev pub column_entry : Column → Text × Kind
column_entry x = (x.name, x.kind)

-- a table has, in order, columns of these names and kinds
abbrev pub HasTable : Columns → Option Listed → Type 0
HasTable columns None = ⊥
HasTable columns (Some t) = map column_entry t.columns ≡ columns

-- The tables that the program holds are those over which a query is typed: each is there, and its columns have, in order, these names
-- and kinds.
abbrev pub HasColumns : Tables → NamedTables → Type 0
HasColumns given held = (name : Text) (columns : Columns) → columns_of given name ≡ Some columns → HasTable columns (table_of name held)

-- the rows of each fit its own columns
abbrev pub AreHeldFit : NamedTables → Type 0
AreHeldFit held = (name : Text) (t : Listed) → table_of name held ≡ Some t → RowsFit (column_kinds t.columns) t.rows

abbrev pub rows_of : Option Listed → List Row
rows_of None = []
rows_of (Some t) = t.rows

-- what a query rests on over tables that the program holds
abbrev pub base_over : Settings → Tables → NamedTables → Base
base_over p given held = record { settings = p; tables = given; rows = λ name. rows_of (table_of name held) }
