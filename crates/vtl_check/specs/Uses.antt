-- The data sets that a typed script reads, and those that it gives.
use Rattle.std.specs.Prelude.{ℕ, List, [], ◌∷◌, ◌++◌, Option, None, Some, if◌then◌else◌}
use Rattle.std.specs.List.{flat_map}
use Rattle.std.specs.Map.{lookup}
use Rattle.vtl_syntax.specs.declared.word_groups.AssignKind.{AssignKind}
use Rattle.vtl_syntax.specs.declared.word_groups.AssignKind.TheVariants as assigned
use Rattle.vtl_tree.specs.Structure.{same_name}
use Rattle.vtl_tree.specs.Structures.{Named, has_name}
use Rattle.vtl_tree.specs.declared.structure.Structure.{Structure}
use Rattle.vtl_tree.specs.Trees.{NodeTree, structure_of}
use Rattle.vtl_check.specs.Names.{names_of}
use Rattle.vtl_check.specs.Transformations.{Transformation}

-- one more data set, where none has its name yet
abbrev pub with_new : Named → List ℕ → Structure → Named
with_new known name s = if has_name name known then known else known ++ (name, s) ∷ []

abbrev pub with_declared : Named → List ℕ → Option Structure → Named
with_declared known name None = known
with_declared known name (Some s) = with_new known name s

-- the declared data sets of some names, each once, behind those before them; a name that is not declared is that of a result
abbrev pub read_behind : (declared known : Named) → List (List ℕ) → Named
read_behind declared known [] = known
read_behind declared known (name ∷ names) = read_behind declared (with_declared known name (lookup (same_name name) declared)) names

-- the declared data sets that expressions read, in order of first use
abbrev pub reads : Named → List NodeTree → Named
reads declared ns = read_behind declared [] (names_of ns)

-- the results of transformations behind other data sets, each with the structure of its node
abbrev pub results_behind : Named → List Transformation → List NodeTree → Named
results_behind known (t ∷ ts) (n ∷ ns) = results_behind (with_new known t.name (structure_of n)) ts ns
results_behind known ts ns = known

-- the name of a result that is written with `<-`
abbrev pub output_named : List ℕ → AssignKind → List (List ℕ)
output_named name assigned.Persistent = name ∷ []
output_named name assigned.Temporary = []

-- the names of the results that are written with `<-`, in order
abbrev pub outputs_in : List Transformation → List (List ℕ)
outputs_in ts = flat_map (λ t. output_named t.name t.kind) ts
