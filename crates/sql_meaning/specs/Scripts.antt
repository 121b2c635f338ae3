-- What a script gives: its exports in order, or the fault of its first faulty CREATE.
use Rattle.std.specs.Prelude.{ℕ, ◌==◌, List, [], ◌∷◌, ◌++◌, map, Result, Ok, Err, unwrap_or}
use Rattle.std.specs.List.{before_first, position_or_len}
use Rattle.std.specs.Map.{keys_of, lookup}
use Rattle.vtl_decimal.specs.declared.number.Fault.{Fault}
use Rattle.vtl_cell.specs.Outcome.{Outcome}
use Rattle.vtl_lists.specs.Results.{◌>>=◌}
use Rattle.vtl_cell.specs.Row.{Row}
use Rattle.vtl_decimal.specs.Settings.{Settings}
use Rattle.vtl_cell.specs.Sorted.{Key, in_order, rising}
use Rattle.vtl_text.specs.Texts.{same_text}
use Rattle.sql_tree.specs.Trees as tree
use Rattle.sql_tree.specs.Trees.{QueryTree, ScriptTree, StatementTree, Text}
use Rattle.sql_tree.specs.declared.statements.SqlExport.{SqlExport}
use Rattle.sql_tree.specs.declared.statements.SqlInput.{SqlInput}
use Rattle.sql_check_parts.specs.Queries.{query_columns}
use Rattle.sql_check_parts.specs.Scopes.{Columns, Named, Tables}
use Rattle.sql_check_parts.specs.Statements.{input_columns, script_settings}
use Rattle.sql_meaning.specs.Selects.{query_value}
use Rattle.sql_meaning.specs.Tables.{Base}

-- ---- tables

-- a table: its columns, and the list of its rows
pub record Table : Type 0 where
  pub columns : Columns
  pub rows : List Row

-- tables by name, in the order of their statements
abbrev pub Data : Type 0
Data = Named Table

abbrev pub no_table : Table
no_table = record { columns = []; rows = [] }

abbrev pub table_named : Data → Text → Table
table_named held name = unwrap_or (lookup (same_text name) held) no_table

-- what typing knows of them
abbrev pub tables_in : Data → Tables
tables_in held = map (λ t. (t.0, t.1.columns)) held

abbrev pub base_of : Settings → Data → Base
base_of p held = record { settings = p; tables = tables_in held; rows = λ name. (table_named held name).rows }

-- ---- INPUT

-- the rows that were read for each INPUT
abbrev pub Inputs : Type 0
Inputs = Named (List Row)

abbrev pub rows_read : Inputs → Text → List Row
rows_read inputs name = unwrap_or (lookup (same_text name) inputs) []

-- its columns are those of the KEY, and then the others
abbrev pub input_table : Inputs → SqlInput → Table
input_table inputs s = record { columns = input_columns s; rows = rows_read inputs s.name }

-- ---- EXPORT

pub record Export : Type 0 where
  pub name : Text
  pub columns : Columns
  pub rows : List Row

abbrev pub sort_key : Columns → Text → Key
sort_key columns name = rising (position_or_len (same_text name) (keys_of columns))

-- the rows by the listed columns, and then by all
abbrev pub export_of : SqlExport → Table → Export
export_of s t = record { name = s.name; columns = t.columns; rows = in_order (map (sort_key t.columns) s.order) [] t.rows }

-- ---- statements

-- a fault is told with a name: that of its table up to the first `$`
abbrev pub NamedFault : Type 0
NamedFault = Fault × Text

abbrev pub dollar : ℕ
dollar = 36

abbrev pub fault_name : Text → Text
fault_name name = before_first (λ x. x == dollar) name

abbrev pub or_named : {A : Type 0} → Text → Outcome A → Result A NamedFault
or_named name (Ok x) = Ok x
or_named name (Err f) = Err (f, fault_name name)

-- what statements have made: tables, and exports in order
pub record Made : Type 0 where
  pub tables : Data
  pub exports : List Export

abbrev pub nothing_made : Made
nothing_made = record { tables = []; exports = [] }

abbrev pub and_table : Made → Text → Table → Made
and_table m name t = record { tables = m.tables ++ (name, t) ∷ []; exports = m.exports }

abbrev pub and_export : Made → Export → Made
and_export m e = record { tables = m.tables; exports = m.exports ++ e ∷ [] }

abbrev pub created : Data → QueryTree → List Row → Table
created held q rows = record { columns = query_columns (tables_in held) q; rows = rows }

-- a statement behind those that have made this much
abbrev pub statement_made : Settings → Inputs → Made → StatementTree → Result Made NamedFault
statement_made p inputs m (tree.setting digits rounding) = Ok m
statement_made p inputs m (tree.input s) = Ok (and_table m s.name (input_table inputs s))
statement_made p inputs m (tree.create name q) = or_named name (query_value (base_of p m.tables) q) >>= (λ rows. Ok (and_table m name (created m.tables q rows)))
statement_made p inputs m (tree.export s) = Ok (and_export m (export_of s (table_named m.tables s.name)))

-- ---- scripts

-- statements in order, each over the tables before it, up to the first fault
abbrev pub statements_made : Settings → Inputs → Made → List StatementTree → Result Made NamedFault
statements_made p inputs m [] = Ok m
statements_made p inputs m (s ∷ ss) = statement_made p inputs m s >>= (λ n. statements_made p inputs n ss)

abbrev pub script_made : ScriptTree → Inputs → Result Made NamedFault
script_made s inputs = statements_made (script_settings s) inputs nothing_made s

-- the exports in order, or the first fault with its name
abbrev pub script_value : ScriptTree → Inputs → Result (List Export) NamedFault
script_value s inputs = script_made s inputs >>= (λ m. Ok m.exports)
