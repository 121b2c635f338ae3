-- Which statements are typed behind others: the rules read positively, as a list that can be taken apart.
use Rattle.std.specs.Prelude.{◌≡◌, ◌≤◌, true, false, List, [], ◌∷◌, Option, Some, None, IsSome, length}
use Rattle.std.specs.List.{AllByRecursion, list_any}
use Rattle.std.specs.Map.{keys_of}
use Rattle.vtl_decimal.specs.Settings.{Settings}
use Rattle.vtl_text.specs.Words.{is_word}
use Rattle.vtl_cell.specs.Literals.{is_null_kind}
use Rattle.sql_tree.specs.Trees as tree
use Rattle.sql_tree.specs.Trees.{StatementTree, Text}
use Rattle.sql_tree.specs.declared.statements.InputColumn.{InputColumn}
use Rattle.sql_tree.specs.declared.statements.SqlExport.{SqlExport}
use Rattle.sql_tree.specs.declared.statements.SqlInput.{SqlInput}
use Rattle.sql_check_parts.specs.Scopes.{Columns, Tables, columns_of, is_among, repeats, value_among}
use Rattle.sql_check_parts.specs.Statements.{Given, after, codes_fit, input_columns, is_taken, most_input_columns}
use Rattle.sql_check_laws.specs.Selects.{IsQueryWhole}

-- names of columns, each once
abbrev pub AreNames : Columns → List Text → Type 0
AreNames columns names = (repeats names ≡ false) × AllByRecursion (λ name. IsSome (value_among columns name)) names

-- codes of a text in the key, none of them empty or twice
abbrev pub HasCodes : List Text → InputColumn → Type 0
HasCodes key c = codes_fit key c ≡ true

pub record IsInputTyped (tables : Tables) (s : SqlInput) : Type 0 where
  pub free : is_taken tables s.name ≡ false
  pub word : is_word s.name ≡ true
  pub names : repeats (keys_of (input_columns s)) ≡ false
  pub key : AreNames (input_columns s) s.key
  pub codes : AllByRecursion (HasCodes s.key) s.columns
  pub few : length s.columns ≤ most_input_columns

-- the columns that an export is ordered by are those of its table
abbrev pub IsOrder : Option Columns → List Text → Type 0
IsOrder None names = Unit {0}
IsOrder (Some columns) names = AreNames columns names

pub record IsExportTyped (given : Given) (s : SqlExport) : Type 0 where
  pub table : IsSome (columns_of given.tables s.name)
  pub new : is_among s.name given.exported ≡ false
  pub word : is_word s.name ≡ true
  pub order : IsOrder (columns_of given.tables s.name) s.order

abbrev pub IsCreateTyped : Settings → Tables → Text → tree.QueryTree → Type 0
IsCreateTyped p tables name q = (is_taken tables name ≡ false) × IsQueryWhole p tables q

-- a statement behind those that have given these tables and exports; of SET, which stands first alone, nothing is asked here
abbrev pub IsStatementTyped : Settings → Given → StatementTree → Type 0
IsStatementTyped p given (tree.setting digits rounding) = Unit {0}
IsStatementTyped p given (tree.input s) = IsInputTyped given.tables s
IsStatementTyped p given (tree.create name q) = IsCreateTyped p given.tables name q
IsStatementTyped p given (tree.export s) = IsExportTyped given s

-- statements, each behind those before it
abbrev pub AreTyped : Settings → Given → List StatementTree → Type 0
AreTyped p given [] = Unit {0}
AreTyped p given (s ∷ ss) = IsStatementTyped p given s × AreTyped p (after given s) ss

-- an input whose columns can be a structure: from 1 to `most_input_columns` of different names, of kinds other than null, a key of them, and
-- codes for texts of the key alone, none of them empty or twice
pub record IsDeclared (s : SqlInput) : Type 0 where
  pub some : 1 ≤ length (input_columns s)
  pub few : length (input_columns s) ≤ most_input_columns
  pub names : repeats (keys_of (input_columns s)) ≡ false
  pub kinds : list_any (λ c. is_null_kind c.1) (input_columns s) ≡ false
  pub key : AreNames (input_columns s) s.key
  pub codes : AllByRecursion (HasCodes s.key) s.columns
