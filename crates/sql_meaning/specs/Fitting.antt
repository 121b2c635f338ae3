-- Tables and exports of a script whose rows fit their columns.
use Rattle.std.specs.Prelude.{◌≡◌, List}
use Rattle.std.specs.List.{AllByRecursion}
use Rattle.sql_tree.specs.Trees as tree
use Rattle.sql_tree.specs.Trees.{StatementTree}
use Rattle.sql_check_parts.specs.Scopes.{Tables}
use Rattle.sql_check_parts.specs.Statements.{input_columns}
use Rattle.sql_meaning.specs.Scripts.{Data, Export, Inputs, Made, rows_read, tables_in}
use Rattle.sql_meaning.specs.Tables.{RowsFit, kinds_of}

-- the rows of each table fit its columns
abbrev pub HeldFit : Data → Type 0
HeldFit held = AllByRecursion (λ t. RowsFit (kinds_of t.1.columns) t.1.rows) held

abbrev pub IsExportFit : Export → Type 0
IsExportFit e = RowsFit (kinds_of e.columns) e.rows

-- the rows that were read for an INPUT fit its columns
abbrev pub HasInput : Inputs → StatementTree → Type 0
HasInput inputs (tree.input s) = RowsFit (kinds_of (input_columns s)) (rows_read inputs s.name)
HasInput inputs other = Unit {0}

abbrev pub InputsFit : Inputs → List StatementTree → Type 0
InputsFit inputs ss = AllByRecursion (HasInput inputs) ss

-- what statements have made fits: the tables, which are those that typing gives, and the exports
pub record IsFit (tables : Tables) (m : Made) : Type 0 where
  pub named : tables_in m.tables ≡ tables
  pub held : HeldFit m.tables
  pub exports : AllByRecursion IsExportFit m.exports
