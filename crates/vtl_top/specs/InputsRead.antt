-- Tables that were read, without where they lie in memory.
use Rattle.std.specs.Prelude.{◌≡◌, ℕ, true, List, [], ◌∷◌, ◌++◌, map}
use Rattle.std.specs.List.{AllByRecursion}
use Rattle.std.specs.Map.{keys_of}
use Rattle.vtl_lists.specs.Apart.{all_apart}
use Rattle.vtl_cell.specs.Row.{Row}
use Rattle.vtl_decimal.specs.Settings.{Settings}
use Rattle.vtl_rows.specs.Named.{NamedTables}
use Rattle.vtl_rows.specs.Tables.{Listed, Tabled}
use Rattle.vtl_tree.specs.DataSet.{AreOfProfile}
use Rattle.vtl_tree.specs.NotNull.{NotNull, not_null_of}
use Rattle.vtl_tree.specs.Structure.{IsStructure, same_name}
use Rattle.vtl_tree.specs.Structures.{Named}
use Rattle.vtl_tree.specs.declared.structure.Structure.{Structure}
use Rattle.vtl_sets.specs.TableOf.{IsTableOf}
use Rattle.vtl_top.specs.Steps.{Path}
use Rattle.vtl_top.specs.Wanted.{Placed, Wanted as Shown}
use Rattle.vtl_top.specs.declared.inputs.Wanted.{Wanted}

-- a data set that is wanted: its name and its structure
abbrev pub wanted_of : Wanted → List ℕ × Structure
wanted_of w = (w.name.now, w.structure.now)

abbrev pub all_wanted : List Wanted → Named
all_wanted ws = map wanted_of ws

-- the same with its not-null components
abbrev pub as_wanted : Wanted → Shown
as_wanted w = record { name = w.name.now; structure = w.structure.now; not_null = w.not_null.now }

-- the same from a folder
abbrev pub wanted_from : Path → Wanted → Placed
wanted_from folder w = (folder, as_wanted w)

abbrev pub all_wanted_from : Path → List Wanted → List Placed
all_wanted_from folder ws = map (wanted_from folder) ws

-- its not-null components are those on the list of its name
abbrev pub IsListed : NotNull → Wanted → Type 0
IsListed lists w = w.not_null.now ≡ not_null_of w.name.now lists

-- data sets that can be read: each has a structure, and their names are distinct
pub record AreReadable (inputs : Named) : Type 0 where
  pub structures : AllByRecursion (λ e. IsStructure e.1) inputs
  pub distinct : all_apart same_name (keys_of inputs) ≡ true

abbrev pub rows_in : Tabled → List Row
rows_in t = t.rows

-- one more table stands behind the others, of a data set of this structure with integers of the profile
abbrev pub Adds : Settings → List ℕ → Structure → (before now : NamedTables) → Type 0
Adds p name s before now = (t : Listed) × IsTableOf s t × AreOfProfile p t.rows × (now ≡ before ++ (name, t) ∷ [])

-- the type of a value
abbrev pub SameType : {X : Type 0} → X → Type 0
SameType {X} x = X
