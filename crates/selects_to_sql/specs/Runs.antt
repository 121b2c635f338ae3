-- What tables hold that are made one after the other, and what typing and printing ask of them.
use Rattle.std.specs.Prelude.{◌≡◌, ℕ, List, [], ◌∷◌, ◌++◌, map, Result, Ok, Some}
use Rattle.std.specs.Map.{lookup}
use Rattle.vtl_lists.specs.Results.{◌>>=◌}
use Rattle.vtl_cell.specs.Row.{Row}
use Rattle.vtl_decimal.specs.Settings.{Settings}
use Rattle.vtl_text.specs.Texts.{same_text}
use Rattle.vtl_tree.specs.Structure.{columns_of}
use Rattle.vtl_tree.specs.declared.structure.Component.{Component}
use Rattle.vtl_tree.specs.declared.structure.Structure.{Structure}
use Rattle.sql_tree.specs.Formed.{IsStatement}
use Rattle.sql_tree.specs.Trees.{Text}
use Rattle.sql_check_parts.specs.Queries.{query_columns}
use Rattle.sql_check_parts.specs.Scopes.{Columns, Tables}
use Rattle.sql_check_laws.specs.Statements.{IsCreateTyped}
use Rattle.sql_meaning.specs.Scripts.{Data, NamedFault, Table as Held, base_of, created, or_named}
use Rattle.sql_meaning.specs.Selects.{query_value}
use Rattle.selects_to_sql.specs.Tables.{create_for, Table}

-- the tables behind those before, or the fault of the first that has one, with its name
abbrev pub run : Settings → Data → List Table → Result Data NamedFault
run p before [] = Ok before
run p before (t ∷ ts) = or_named t.name (query_value (base_of p before) t.query) >>= (λ rows. run p (before ++ (t.name, created before t.query rows) ∷ []) ts)

-- ---- tables that stand for data sets

abbrev pub entries : List Component → Columns
entries xs = map (λ x. (x.name, x.kind)) xs

abbrev pub held : Structure → List Row → Held
held s rows = record { columns = entries (columns_of s); rows = rows }

-- the table of this name has the columns of the structure, and these rows
abbrev pub IsTable : Data → Text → Structure → List Row → Type 0
IsTable now name s rows = lookup (same_text name) now ≡ Some (held s rows)

-- ---- tables that break no rule

-- the deepest expression that is printed so that it reads back
abbrev pub printable_depth : ℕ
printable_depth = 256

-- the columns of tables behind others
abbrev pub given_behind : Tables → List Table → Tables
given_behind given [] = given
given_behind given (t ∷ ts) = given_behind (given ++ (t.name, query_columns given t.query) ∷ []) ts

-- each has a new name and a query that breaks no rule over the tables before it, and can be printed
abbrev pub AreLawful : Settings → Tables → List Table → Type 0
AreLawful p given [] = Unit {0}
AreLawful p given (t ∷ ts) = IsStatement printable_depth (create_for t) × IsCreateTyped p given t.name t.query × AreLawful p (given ++ (t.name, query_columns given t.query) ∷ []) ts
