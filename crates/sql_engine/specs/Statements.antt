-- What carrying out one statement over the tables that are held gives.
use Rattle.std.specs.Prelude.{◌≡◌, List, [], ◌∷◌, ◌++◌, map, None, Result, Ok, Err}
use Rattle.vtl_cell.specs.Outcome.{Outcome}
use Rattle.vtl_cell.specs.Outcomes.{Same}
use Rattle.vtl_cell.specs.Row.{Row}
use Rattle.vtl_decimal.specs.Settings.{Settings}
use Rattle.vtl_rows.specs.Named.{NamedTables, table_of}
use Rattle.vtl_rows.specs.Tables.{Listed}
use Rattle.sql_tree.specs.Formed.{IsQuery}
use Rattle.sql_tree.specs.Grammar.{most_levels}
use Rattle.sql_tree.specs.Trees as tree
use Rattle.sql_tree.specs.Trees.{QueryTree, StatementTree, Text}
use Rattle.sql_check_parts.specs.Queries.{query_columns}
use Rattle.sql_check_parts.specs.Scopes.{Columns}
use Rattle.sql_check_parts.specs.Statements.{input_columns}
use Rattle.sql_check_laws.specs.Selects.{IsQueryTyped}
use Rattle.sql_meaning.specs.Profiles.{IsLawful}
use Rattle.sql_meaning.specs.Scripts.{or_named}
use Rattle.sql_meaning.specs.Selects.{query_value}
use Rattle.sql_meaning.specs.Tables.{HasTable, column_entry, rows_of}
use Rattle.sql_from.specs.Held.{base_held, tables_held}
use Rattle.sql_engine.specs.Runs.{FaultIs}
use Rattle.vtl_scalar.specs.declared.run_error.RunErr.{RunErr}
use Rattle.vtl_scalar.specs.declared.run_error.RunErr.TheVariants as run

-- a query may be carried out over these tables
pub record MayQuery (p : Settings) (q : QueryTree) (held : NamedTables) : Type 0 where
  pub formed : IsQuery most_levels q
  pub typed : IsQueryTyped p (tables_held held) q
  pub lawful : IsLawful (base_held p held)

abbrev pub MayRun : Settings → NamedTables → StatementTree → NamedTables → Type 0
MayRun p inputs (tree.setting digits rounding) held = Unit {0}
MayRun p inputs (tree.input s) held = (table_of s.name held ≡ None) × HasTable (input_columns s) (table_of s.name inputs)
MayRun p inputs (tree.create name q) held = (table_of name held ≡ None) × MayQuery p q held
MayRun p inputs (tree.export s) held = Unit {0}

-- a table of this name, these columns and these rows, in any order, stands behind the others
pub record IsPut (name : Text) (columns : Columns) (rows : Outcome (List Row)) (before now : NamedTables) : Type 0 where
  pub table : Listed
  pub columns_are : map column_entry table.columns ≡ columns
  pub rows_are : Same rows (Ok table.rows)
  pub put : now ≡ before ++ (name, table) ∷ []

abbrev pub HasRun : Settings → NamedTables → StatementTree → (before now : NamedTables) → Type 0
HasRun p inputs (tree.setting digits rounding) before now = now ≡ before
HasRun p inputs (tree.input s) before now = IsPut s.name (input_columns s) (Ok (rows_of (table_of s.name inputs))) before now
HasRun p inputs (tree.create name q) before now = IsPut name (query_columns (tables_held before) q) (query_value (base_held p before) q) before now
HasRun p inputs (tree.export s) before now = now ≡ before

-- only a CREATE has a fault, that of its query
abbrev pub HasFault : Settings → StatementTree → NamedTables → RunErr → Type 0
HasFault p (tree.setting digits rounding) before e = e ≡ run.OutOfMemory
HasFault p (tree.input s) before e = e ≡ run.OutOfMemory
HasFault p (tree.create name q) before e = FaultIs (or_named name (query_value (base_held p before) q)) e
HasFault p (tree.export s) before e = e ≡ run.OutOfMemory

abbrev pub RunsStatement : Settings → NamedTables → StatementTree → (before now : NamedTables) → Result (Unit {0}) RunErr → Type 0
RunsStatement p inputs s before now (Ok done) = HasRun p inputs s before now
RunsStatement p inputs s before now (Err e) = HasFault p s before e
