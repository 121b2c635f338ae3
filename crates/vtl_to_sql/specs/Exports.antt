-- What a script in SQL reads and gives where it means a script of VTL.
use Rattle.std.specs.Prelude.{ℕ, List, map, Result, Ok, Err}
use Rattle.std.specs.List.{AllByRecursion}
use Rattle.vtl_lists.specs.Perm.{Perm}
use Rattle.vtl_tree.specs.Environment.{DataSet, Environment}
use Rattle.vtl_tree.specs.NotNull.{NotNull}
use Rattle.vtl_tree.specs.Structures.{Named}
use Rattle.vtl_scripts.specs.Meaning.{Outputs}
use Rattle.sql_meaning.specs.Scripts.{Data, Export, Inputs, NamedFault, export_of, input_table, rows_read}
use Rattle.selects_to_sql.specs.Runs.{held}
use Rattle.vtl_to_sql.specs.Scripts.{input_of, ordered}

-- the tables of the inputs
abbrev pub tables_read : Inputs → NotNull → Named → Data
tables_read inputs ls reads = map (λ e. (e.0, input_table inputs (input_of ls e))) reads

-- the rows that are read for each data set are its points in any order
abbrev pub AreRead : Inputs → Environment → Type 0
AreRead inputs env = AllByRecursion (λ d. Perm (rows_read inputs d.0) d.1.points) env

-- an output with its columns and its points, sorted by its identifiers
abbrev pub exported : List ℕ × DataSet → Export
exported o = export_of (ordered (o.0, o.1.structure)) (held o.1.structure o.1.points)

-- the outputs in order, or the same fault with the same name
abbrev pub exported_as : Result Outputs NamedFault → Result (List Export) NamedFault
exported_as (Ok outputs) = Ok (map exported outputs)
exported_as (Err fault) = Err fault
