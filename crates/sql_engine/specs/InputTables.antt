-- The tables from which a run begins.
use Rattle.std.specs.Prelude.{List, map}
use Rattle.std.specs.List.{AllByRecursion}
use Rattle.vtl_decimal.specs.Settings.{Settings}
use Rattle.vtl_rows.specs.Named.{NamedTables, table_of}
use Rattle.sql_tree.specs.Trees as tree
use Rattle.sql_tree.specs.Trees.{StatementTree}
use Rattle.sql_tree.specs.declared.statements.SqlInput.{SqlInput}
use Rattle.sql_check_parts.specs.Statements.{input_columns}
use Rattle.sql_meaning.specs.Profiles.{AreOfProfile}
use Rattle.sql_meaning.specs.Scripts.{Inputs}
use Rattle.sql_meaning.specs.Tables.{HasTable, RowsFit, kinds_of, rows_of}

-- the rows of each
abbrev pub rows_given : NamedTables → Inputs
rows_given tables = map (λ t. (t.0, t.1.rows)) tables

-- there is a table of the columns of an INPUT, and its rows fit them
pub record IsInputTable (tables : NamedTables) (s : SqlInput) : Type 0 where
  pub columns : HasTable (input_columns s) (table_of s.name tables)
  pub fit : RowsFit (kinds_of (input_columns s)) (rows_of (table_of s.name tables))

abbrev pub HasInputTable : NamedTables → StatementTree → Type 0
HasInputTable tables (tree.input s) = IsInputTable tables s
HasInputTable tables other = Unit {0}

abbrev pub HaveInputTables : NamedTables → List StatementTree → Type 0
HaveInputTables tables ss = AllByRecursion (HasInputTable tables) ss

-- its integers are of the profile
abbrev pub IsInputInRange : Settings → NamedTables → StatementTree → Type 0
IsInputInRange p tables (tree.input s) = AreOfProfile p (rows_of (table_of s.name tables))
IsInputInRange p tables other = Unit {0}

abbrev pub AreInputsInRange : Settings → NamedTables → List StatementTree → Type 0
AreInputsInRange p tables ss = AllByRecursion (IsInputInRange p tables) ss
