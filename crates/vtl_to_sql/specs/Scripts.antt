-- The script in SQL: SET, an INPUT for each data set that is read, the tables, and an EXPORT for each result that is written.
use Rattle.std.specs.Prelude.{ℕ, List, [], ◌∷◌, ◌++◌, map, unwrap_or, if◌then◌else◌}
use Rattle.std.specs.Fmt.{decimal}
use Rattle.vtl_decimal.specs.Settings.{Settings}
use Rattle.vtl_tree.specs.Names.{is_among}
use Rattle.vtl_tree.specs.NotNull.{NotNull, not_null_of}
use Rattle.vtl_tree.specs.Structure.{columns_of, names_of}
use Rattle.vtl_tree.specs.Structures.{Named}
use Rattle.vtl_tree.specs.declared.structure.Component.{Component}
use Rattle.vtl_tree.specs.declared.structure.Structure.{Structure}
use Rattle.vtl_tree.specs.Columns.{identifiers_of}
use Rattle.vtl_scripts.specs.Meaning.{Statement}
use Rattle.vtl_tree.specs.Trees.{structure_of}
use Rattle.sql_tree.specs.Trees.{ScriptTree, StatementTree, export, input, setting}
use Rattle.sql_tree.specs.declared.statements.InputColumn.{InputColumn}
use Rattle.sql_tree.specs.declared.statements.SqlExport.{SqlExport}
use Rattle.sql_tree.specs.declared.statements.SqlInput.{SqlInput}
use Rattle.vtl_to_sql.specs.Tables.{script_tables}
use Rattle.selects_to_sql.specs.Tables.{create_for}

-- ---- INPUT

-- a component that lists no codes has none; these components are never null
abbrev pub input_column : List (List ℕ) → Component → InputColumn
input_column names x = record { name = x.name; kind = x.kind; not_null = is_among x.name names; codes = unwrap_or x.codes [] }

-- the components in column order; the identifiers are the key
abbrev pub input_of : NotNull → List ℕ × Structure → SqlInput
input_of ls e = record { name = e.0; columns = map (input_column (not_null_of e.0 ls)) (columns_of e.1); key = names_of (identifiers_of e.1) }

abbrev pub input_for : NotNull → List ℕ × Structure → StatementTree
input_for ls e = input (input_of ls e)

-- ---- EXPORT

-- by its identifiers
abbrev pub ordered : List ℕ × Structure → SqlExport
ordered e = record { name = e.0; order = names_of (identifiers_of e.1) }

abbrev pub export_for : List ℕ × Structure → StatementTree
export_for e = export (ordered e)

-- the results that are written, with their structures
abbrev pub written_of : List Statement → Named
written_of [] = []
written_of (s ∷ ss) = if s.persistent then (s.result, structure_of s.node) ∷ written_of ss else written_of ss

-- ---- scripts

abbrev pub statements_for : Settings → NotNull → (reads : Named) → List Statement → List StatementTree
statements_for p ls reads ss = map (input_for ls) reads ++ (map create_for (script_tables p ss) ++ map export_for (written_of ss))

-- of statements that read these data sets, in order of first use, with the lists of their components that are never null
abbrev pub script_for : Settings → NotNull → (reads : Named) → List Statement → ScriptTree
script_for p ls reads ss = setting (decimal p.scale) p.rounding ∷ statements_for p ls reads ss
