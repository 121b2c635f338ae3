-- The data sets that a script reads, as they are held.
use Rattle.std.specs.Prelude.{◌≡◌, ℕ, List, Some}
use Rattle.std.specs.Map.{lookup}
use Rattle.vtl_rows.specs.Named.{NamedTables, table_of}
use Rattle.vtl_tree.specs.Structure.{same_name}
use Rattle.vtl_tree.specs.declared.structure.Structure.{Structure}
use Rattle.vtl_check.specs.Checked.{TypedScript, known_of}
use Rattle.vtl_backend.specs.Inputs.{Holds}

-- the name has a structure, and a table of it
pub record IsInput (t : TypedScript) (tables : NamedTables) (name : List ℕ) : Type 0 where
  pub structure : Structure
  pub found : lookup (same_name name) (known_of t) ≡ Some structure
  pub holds : Holds structure (table_of name tables)
