-- The tables that statements export.
use Rattle.std.specs.Prelude.{◌≡◌, false, List, [], ◌∷◌, ◌++◌, map, IsSome, unwrap_or}
use Rattle.vtl_cell.specs.Sorted.{in_order}
use Rattle.vtl_rows.specs.Named.{NamedTables, table_of}
use Rattle.vtl_rows.specs.Tables.{Listed}
use Rattle.vtl_rows.specs.declared.column.Column.{Column}
use Rattle.sql_tree.specs.Trees as tree
use Rattle.sql_tree.specs.Trees.{StatementTree, Text}
use Rattle.sql_tree.specs.declared.statements.SqlExport.{SqlExport}
use Rattle.sql_check_parts.specs.Scopes.{Tables, columns_of, is_among}
use Rattle.sql_check_laws.specs.Statements.{IsOrder}
use Rattle.sql_meaning.specs.Scripts.{Export, sort_key}
use Rattle.sql_meaning.specs.Tables.{column_entry}
use Rattle.sql_engine.specs.declared.orders.RowOrder.{RowOrder}
use Rattle.sql_engine.specs.declared.orders.RowOrder.TheVariants as by
use Rattle.vtl_cell.specs.declared.kind.Kind.{Kind}

abbrev pub exports_in : List StatementTree → List SqlExport
exports_in [] = []
exports_in (tree.export s ∷ ss) = s ∷ exports_in ss
exports_in (other ∷ ss) = exports_in ss

-- the column of a name and a kind
abbrev pub entry_column : Text × Kind → Column
entry_column x = record { name = x.0; kind = x.1 }

-- the program's table of an export
abbrev pub shown : Export → Text × Listed
shown e = (e.name, record { columns = map entry_column e.columns; rows = e.rows })

-- a table in the order of an export: by the listed columns, and then by all
abbrev pub ordered_by : List Text → Listed → Listed
ordered_by order t = record { columns = t.columns; rows = in_order (map (sort_key (map column_entry t.columns)) order) [] t.rows }

-- the same, or with its rows as they were made
abbrev pub placed_by : RowOrder → List Text → Listed → Listed
placed_by by.Sorted order t = ordered_by order t
placed_by by.AsMade order t = t

abbrev pub no_listed : Listed
no_listed = record { columns = []; rows = [] }

-- what an export gives of the tables that are held
abbrev pub exported_of : RowOrder → NamedTables → SqlExport → Text × Listed
exported_of how held s = (s.name, placed_by how s.order (unwrap_or (table_of s.name held) no_listed))

-- each export names a table, no table is exported twice, and each is ordered by columns of it
abbrev pub AreExported : Tables → List Text → List SqlExport → Type 0
AreExported tables exported [] = Unit {0}
AreExported tables exported (s ∷ ss) =
    IsSome (columns_of tables s.name) × (is_among s.name exported ≡ false) × IsOrder (columns_of tables s.name) s.order × AreExported tables (exported ++ s.name ∷ []) ss
