-- The data sets that a script reads, in tables.
use Rattle.std.specs.Prelude.{ℕ, List, [], map, Option, None, Some}
use Rattle.std.specs.List.{AllByRecursion}
use Rattle.std.specs.Option.{option_map_or}
use Rattle.vtl_cell.specs.Row.{Row}
use Rattle.vtl_rows.specs.Named.{NamedTables, table_of}
use Rattle.vtl_rows.specs.Tables.{Listed}
use Rattle.vtl_tree.specs.Environment.{DataSet, Environment}
use Rattle.vtl_tree.specs.Structures.{Named}
use Rattle.vtl_tree.specs.declared.structure.Structure.{Structure}
use Rattle.vtl_sets.specs.TableOf.{IsTableOf}
use Rattle.vtl_meaning.specs.Profiles.{AllAreOfProfile}
use Rattle.vtl_check.specs.Checked.{TypedScript, nodes_of}
use Rattle.vtl_check.specs.Uses.{reads}

-- the declared data sets that a script reads, in order of first use, with their structures
abbrev pub inputs_of : TypedScript → Named
inputs_of t = reads t.declared (nodes_of t)

abbrev pub rows_named : List ℕ → NamedTables → List Row
rows_named name tables = option_map_or (λ t. t.rows) (table_of name tables) []

-- there is a table, of a data set of this structure
abbrev pub Holds : Structure → Option Listed → Type 0
Holds s None = ⊥
Holds s (Some t) = IsTableOf s t

-- for each data set that the script reads there is a table of its structure
abbrev pub AreInputs : TypedScript → NamedTables → Type 0
AreInputs t tables = AllByRecursion (λ e. Holds e.1 (table_of e.0 tables)) (inputs_of t)

-- the data set of an input: the points are the rows of its table
abbrev pub input_of : NamedTables → List ℕ × Structure → List ℕ × DataSet
input_of tables e = (e.0, record { structure = e.1; points = rows_named e.0 tables })

-- the data sets that the script reads, by name
abbrev pub environment_of : TypedScript → NamedTables → Environment
environment_of t tables = map (input_of tables) (inputs_of t)

-- these data sets hold integers of the script's profile alone
abbrev pub AreInRange : TypedScript → NamedTables → Type 0
AreInRange t tables = AllAreOfProfile t.settings (environment_of t tables)
