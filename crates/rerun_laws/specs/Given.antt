-- The tables that a part is given.
use Rattle.std.specs.Prelude.{Option, Some}
use Rattle.std.specs.List.{AllByRecursion}
use Rattle.vtl_rows.specs.Named.{NamedTables, table_of}
use Rattle.vtl_rows.specs.Tables.{Listed}
use Rattle.vtl_tree.specs.Environment.{DataSet, Environment, data_of}
use Rattle.vtl_backend.specs.Tables.{Shows}
use Rattle.vtl_check.specs.Names.{names_in}
use Rattle.vtl_tree.specs.Trees.{NodeTree}

-- the data set is there, and the table is one of it
abbrev pub IsShown : Option DataSet → Option Listed → Type 0
IsShown (Some d) (Some t) = Shows d t
IsShown d t = ⊥

-- for each data set that an expression reads there is a table of it
abbrev pub AreGiven : Environment → NodeTree → NamedTables → Type 0
AreGiven env n tables = AllByRecursion (λ name. IsShown (data_of name env) (table_of name tables)) (names_in n)
