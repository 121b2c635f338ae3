-- The data sets that are read, and the folders of their files.
use Rattle.std.specs.Prelude.{ℕ, List, map}
use Rattle.vtl_tree.specs.NotNull.{NotNull, not_null_of}
use Rattle.vtl_tree.specs.Structures.{Named}
use Rattle.vtl_tree.specs.declared.structure.Structure.{Structure}
use Rattle.vtl_top.specs.Steps.{Name, Path}

-- a data set that is read: its name, its structure, and the names of its not-null components
pub record Wanted : Type 0 where
  pub name : Name
  pub structure : Structure
  pub not_null : List Name

-- with the folder of its file
abbrev pub Placed : Type 0
Placed = Path × Wanted

-- its name and its structure
abbrev pub entry_wanted : Wanted → List ℕ × Structure
entry_wanted w = (w.name, w.structure)

abbrev pub entry_of : Placed → List ℕ × Structure
entry_of w = entry_wanted w.1

-- a data set of this name and structure, whose not-null components are on the list of its name
abbrev pub wanted_with : NotNull → List ℕ × Structure → Wanted
wanted_with lists e = record { name = e.0; structure = e.1; not_null = not_null_of e.0 lists }

abbrev pub all_wanted_with : NotNull → Named → List Wanted
all_wanted_with lists es = map (wanted_with lists) es

-- data sets in one folder
abbrev pub all_in : Path → List Wanted → List Placed
all_in folder ws = map (λ w. (folder, w)) ws
