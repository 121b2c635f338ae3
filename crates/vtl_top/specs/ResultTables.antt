-- Tables of results, and the files that they are written as.
use Rattle.std.specs.Prelude.{◌≡◌, ℕ, List, [], Some}
use Rattle.std.specs.Option.{option_map_or}
use Rattle.std.specs.List.{AllByRecursion}
use Rattle.std.specs.Map.{lookup}
use Rattle.vtl_decimal.specs.Settings.{Settings}
use Rattle.vtl_rows.specs.Named.{NamedTables}
use Rattle.vtl_rows.specs.Tables.{Listed}
use Rattle.vtl_tree.specs.Structure.{same_name}
use Rattle.vtl_tree.specs.Structures.{Named, structure_of}
use Rattle.vtl_tree.specs.declared.structure.Structure.{Structure}
use Rattle.vtl_sets.specs.TableOf.{IsTableOf}
use Rattle.vtl_top.specs.Expected.{data_set, output_of}
use Rattle.vtl_top.specs.Steps.{File, Path}

-- a table of a data set of the structure that is known under its name
abbrev pub IsKnown : Named → List ℕ × Listed → Type 0
IsKnown known t = (s : Structure) × (lookup (same_name t.0) known ≡ Some s) × IsTableOf s t.1

abbrev pub AreKnown : Named → NamedTables → Type 0
AreKnown known tables = AllByRecursion (IsKnown known) tables

abbrev pub structure_named : List ℕ → Named → Structure
structure_named name known = option_map_or (λ s. s) (lookup (same_name name) known) (structure_of [])

-- the file of such a table in a folder
abbrev pub file_for : Path → Settings → Named → List ℕ × Listed → File
file_for folder p known t = output_of folder p (t.0, data_set (structure_named t.0 known) t.1.rows)
