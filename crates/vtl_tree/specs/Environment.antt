-- Data sets by name.
use Rattle.std.specs.Prelude.{ℕ, cond, List, [], ◌∷◌, map, Option, Some, None}
use Rattle.std.specs.Option.{option_map_or}
use Rattle.vtl_cell.specs.Row.{Row}
use Rattle.vtl_tree.specs.Structure.{same_name}
use Rattle.vtl_tree.specs.Structures.{Named}
use Rattle.vtl_tree.specs.declared.structure.Structure.{Structure}

-- a data set: its structure, and its points up to order
pub record DataSet : Type 0 where
  pub structure : Structure
  pub points : List Row

abbrev pub no_data : Structure → DataSet
no_data s = record { structure = s; points = [] }

-- the latest stands first
abbrev pub Environment : Type 0
Environment = List (List ℕ × DataSet)

abbrev pub data_of : List ℕ → Environment → Option DataSet
data_of name [] = None
data_of name (d ∷ ds) = cond (same_name d.0 name) (Some d.1) (data_of name ds)

-- a data set that is found, or none of its points
abbrev pub found : Structure → Option DataSet → DataSet
found s None = no_data s
found s (Some d) = d

-- the points of a data set; a name that is missing has none, and no typed script holds one
abbrev pub points_named : List ℕ → Environment → List Row
points_named name env = option_map_or (λ d. d.points) (data_of name env) []

-- what is known of an environment: each name with its structure
abbrev pub known_in : Environment → Named
known_in env = map (λ d. (d.0, d.1.structure)) env
