-- What the program tells of statements and scripts.
use Rattle.std.specs.Prelude.{◌≡◌, ℕ, Bool, true, false, not, List, IsSome, Option, Some, None, option_map, Result, Ok, Err}
use Rattle.std.specs.Map.{keys_of}
use Rattle.vtl_decimal.specs.Settings.{Settings}
use Rattle.vtl_decimal.specs.declared.settings.Rounding.{Rounding}
use Rattle.sql_tree.specs.Trees.{StatementTree, Text}
use Rattle.sql_tree.specs.View.{script_tree}
use Rattle.sql_tree.specs.declared.statements.InputColumn.{InputColumn}
use Rattle.sql_tree.specs.declared.statements.SqlScript.{SqlScript}
use Rattle.sql_check_parts.specs.Rules.{least, number_of}
use Rattle.sql_check_parts.specs.Scopes.{Columns, Tables, is_among, or_nothing}
use Rattle.sql_check_parts.specs.Statements.{Fault, Given, IsTypedScript, after, is_of_key, script_fault, setting_breaks, settings_of, statement_breaks, with_table}
use Rattle.sql_check_parts.specs.declared.rules.SqlRule.{SqlRule}
use Rattle.sql_check_parts.specs.declared.rules.SqlRule.TheVariants as rule
use Rattle.sql_check.specs.declared.error.SqlTypeErr.{SqlTypeErr}
use Rattle.sql_check.specs.declared.error.SqlTypeErr.TheVariants as err
use Rattle.sql_check.specs.declared.given.SoFar.{SoFar}

-- the settings of SET, or none where it breaks a rule, which is that of literals
abbrev pub Sets : Text → Rounding → Option Settings → Type 0
Sets digits rounding (Some p) = (p ≡ settings_of digits rounding) × (least (setting_breaks digits) ≡ None)
Sets digits rounding None = least (setting_breaks digits) ≡ Some rule.UnfitLiteral

-- whether a column is wanted: one of the key, or one that is not
abbrev pub is_wanted : List Text → Bool → InputColumn → Bool
is_wanted key true c = is_of_key key c
is_wanted key false c = not (is_of_key key c)

abbrev pub given_view : SoFar → Given
given_view g = record { tables = g.tables; exported = keys_of g.exported }

-- the least rule that a statement breaks, or none, and then what it gives is there
abbrev pub GivesIfTyped : Option SqlRule → Given → Given → Type 0
GivesIfTyped None now wanted = now ≡ wanted
GivesIfTyped (Some r) now wanted = Unit {0}

-- a table of these columns may be put behind others
pub record MayPut (tables : Tables) (name : Text) (columns : Option Columns) : Type 0 where
  pub free : is_among name (keys_of tables) ≡ false
  pub some : IsSome columns

-- the fault that is told, or none, and then the table is there
pub record IsSettled (before now : Given) (name : Text) (columns : Option Columns) (fault told : Option SqlRule) : Type 0 where
  pub told_is : told ≡ fault
  pub given_is : GivesIfTyped fault now (with_table before name (or_nothing columns))

pub record IsStep (p : Settings) (before now : Given) (s : StatementTree) (fault : Option SqlRule) : Type 0 where
  pub fault_is : fault ≡ least (statement_breaks p before s)
  pub given_is : GivesIfTyped fault now (after before s)

-- a script that is typed, with its settings
pub record CheckedScript : Type 0 where
  pub script : SqlScript
  pub settings : Settings

-- a statement, and the number of the rule that it breaks
abbrev pub told : Fault → ℕ × ℕ
told fault = (fault.0, number_of fault.1)

-- the script is handed back where it is typed; else its fault is told
abbrev pub Checks : SqlScript → Result CheckedScript SqlTypeErr → Type 0
Checks script (Ok t) = (t.script ≡ script) × IsTypedScript (script_tree script)
Checks script (Err (err.Mistyped statement number)) = option_map told (script_fault (script_tree script)) ≡ Some (statement, number)
Checks script (Err err.OutOfMemory) = Unit {0}
