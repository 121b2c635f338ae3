-- The rules that statements break, and the fault of a script: the least rule that its first faulty statement breaks.
use Rattle.std.specs.Prelude.{◌≡◌, ℕ, suc, ℤ, pos, unsigned_abs, Bool, true, false, not, ◌&&◌, ◌||◌, List, [], ◌∷◌, ◌++◌, map, filter, fold, length, nat_lt, Option, Some, None}
use Rattle.std.specs.List.{list_any}
use Rattle.std.specs.Map.{keys_of}
use Rattle.std.specs.Option.{is_none}
use Rattle.vtl_cell.specs.Literals.{integer_written, lies_between}
use Rattle.vtl_decimal.specs.Settings.{Settings}
use Rattle.vtl_decimal.specs.declared.settings.Rounding.{Rounding}
use Rattle.vtl_decimal.specs.declared.settings.Rounding.TheVariants as rounding
use Rattle.vtl_text.specs.Words.{is_word}
use Rattle.vtl_cell.specs.declared.kind.Kind.{Kind}
use Rattle.vtl_cell.specs.declared.kind.Kind.TheVariants as k
use Rattle.sql_tree.specs.Trees as tree
use Rattle.sql_tree.specs.Trees.{Text, QueryTree, ScriptTree, StatementTree}
use Rattle.sql_tree.specs.declared.statements.InputColumn.{InputColumn}
use Rattle.sql_tree.specs.declared.statements.SqlExport.{SqlExport}
use Rattle.sql_tree.specs.declared.statements.SqlInput.{SqlInput}
use Rattle.sql_check_parts.specs.Queries.{query_breaks, query_columns}
use Rattle.sql_check_parts.specs.Rules.{broken, least}
use Rattle.sql_check_parts.specs.Scopes.{Columns, Tables, columns_of, is_among, is_empty, repeats, value_among}
use Rattle.sql_check_parts.specs.declared.limits.TheConstants.{MOST_INPUT_COLUMNS}
use Rattle.sql_check_parts.specs.declared.rules.SqlRule.{SqlRule}
use Rattle.sql_check_parts.specs.declared.rules.SqlRule.TheVariants as rule

-- ---- SET

-- the integer that the digits of the scale write; they may be of any length
abbrev pub scale_written : Text → Option ℤ
scale_written digits = integer_written (record { scale = 0; rounding = rounding.Down }) digits

-- the scale is at most 9
abbrev pub setting_breaks : Text → List SqlRule
setting_breaks digits = broken ((rule.UnfitLiteral, not (lies_between (pos 0) (pos 9) (scale_written digits))) ∷ [])

abbrev pub scale_of : Option ℤ → ℕ
scale_of (Some n) = unsigned_abs n
scale_of None = 0

abbrev pub settings_of : Text → Rounding → Settings
settings_of digits rounding = record { scale = scale_of (scale_written digits); rounding = rounding }

-- ---- INPUT

abbrev pub column_entry : InputColumn → Text × Kind
column_entry c = (c.name, c.kind)

abbrev pub is_of_key : List Text → InputColumn → Bool
is_of_key key c = is_among c.name key

-- columns in the order of a table: those of the key first, then the others, each as they are listed
abbrev pub in_table_order : List Text → List InputColumn → List InputColumn
in_table_order key cs = filter (is_of_key key) cs ++ filter (λ c. not (is_of_key key c)) cs

-- the columns of an input's table
abbrev pub input_columns : SqlInput → Columns
input_columns s = map column_entry (in_table_order s.key s.columns)

-- names that are columns, and no name twice
abbrev pub names_fit : Columns → List Text → Bool
names_fit columns names = not (repeats names) && not (list_any (λ name. is_none (value_among columns name)) names)

abbrev pub is_text : Kind → Bool
is_text k.Text = true
is_text kind = false

-- codes of a text in the key, none of them empty or twice
abbrev pub codes_fit : List Text → InputColumn → Bool
codes_fit key c = is_empty c.codes || (is_text c.kind && is_of_key key c && not (list_any is_empty c.codes) && not (repeats c.codes))

-- whether a table may have this name: no table has it yet
abbrev pub is_taken : Tables → Text → Bool
is_taken tables name = is_among name (keys_of tables)

-- the most columns of an input
abbrev pub most_input_columns : ℕ
most_input_columns = MOST_INPUT_COLUMNS

-- An input has a name of its own that is a word; its columns have different names, and the key is of them; codes stand where they
-- may, and there are not too many columns.
abbrev pub input_breaks : Tables → SqlInput → List SqlRule
input_breaks tables s =
    broken ((rule.MisnamedTable, is_taken tables s.name || not (is_word s.name))
    ∷ (rule.MisnamedColumn, repeats (keys_of (input_columns s)) || not (names_fit (input_columns s) s.key))
    ∷ (rule.CodesOrCount, list_any (λ c. not (codes_fit s.key c)) s.columns || nat_lt most_input_columns (length s.columns)) ∷ [])

-- ---- EXPORT

-- the columns of no table are none
abbrev pub order_fits : Option Columns → List Text → Bool
order_fits None names = true
order_fits (Some columns) names = names_fit columns names

-- An exported table is known, is exported once and has a name that is a word, and is ordered by columns of it, each once.
abbrev pub export_breaks : Tables → List Text → SqlExport → List SqlRule
export_breaks tables exported s =
    broken ((rule.UnknownTable, is_none (columns_of tables s.name))
    ∷ (rule.MisnamedTable, is_among s.name exported || not (is_word s.name))
    ∷ (rule.MisnamedColumn, not (order_fits (columns_of tables s.name) s.order)) ∷ [])

-- ---- CREATE

-- a created table has a name of its own
abbrev pub create_breaks : Settings → Tables → Text → QueryTree → List SqlRule
create_breaks p tables name q = broken ((rule.MisnamedTable, is_taken tables name) ∷ []) ++ query_breaks p tables q

-- ---- scripts

-- what the statements before one have given
pub record Given : Type 0 where
  pub tables : Tables
  pub exported : List Text

abbrev pub nothing : Given
nothing = record { tables = []; exported = [] }

abbrev pub with_table : Given → Text → Columns → Given
with_table given name columns = record { tables = given.tables ++ (name, columns) ∷ []; exported = given.exported }

abbrev pub with_export : Given → Text → Given
with_export given name = record { tables = given.tables; exported = given.exported ++ name ∷ [] }

-- SET stands first alone
abbrev pub statement_breaks : Settings → Given → StatementTree → List SqlRule
statement_breaks p given (tree.setting digits rounding) = []
statement_breaks p given (tree.input s) = input_breaks given.tables s
statement_breaks p given (tree.create name q) = create_breaks p given.tables name q
statement_breaks p given (tree.export s) = export_breaks given.tables given.exported s

abbrev pub after : Given → StatementTree → Given
after given (tree.setting digits rounding) = given
after given (tree.input s) = with_table given s.name (input_columns s)
after given (tree.create name q) = with_table given name (query_columns given.tables q)
after given (tree.export s) = with_export given s.name

-- what statements have given
abbrev pub given_by : List StatementTree → Given
given_by ss = fold after nothing ss

-- the number of a statement, and a rule
abbrev pub Fault : Type 0
Fault = ℕ × SqlRule

-- the fault of a statement that breaks a rule, or that of the rest
abbrev pub fault_or : ℕ → Option SqlRule → Option Fault → Option Fault
fault_or n (Some r) rest = Some (n, r)
fault_or n None rest = rest

-- statements from the n-th on
abbrev pub fault_from : Settings → ℕ → Given → List StatementTree → Option Fault
fault_from p n given [] = None
fault_from p n given (s ∷ ss) = fault_or n (least (statement_breaks p given s)) (fault_from p (suc n) (after given s) ss)

-- statements are counted from 1 with SET
abbrev pub script_fault : ScriptTree → Option Fault
script_fault (tree.setting digits rounding ∷ ss) = fault_or 1 (least (setting_breaks digits)) (fault_from (settings_of digits rounding) 2 nothing ss)
script_fault other = None

abbrev pub IsTypedScript : ScriptTree → Type 0
IsTypedScript s = script_fault s ≡ None

abbrev pub script_settings : ScriptTree → Settings
script_settings (tree.setting digits rounding ∷ ss) = settings_of digits rounding
script_settings other = settings_of [] rounding.Down
