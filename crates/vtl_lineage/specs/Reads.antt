-- The data sets that a script reads, as the program comes to them.
use Rattle.std.specs.Prelude.{ℕ, ◌+◌, List, [], ◌∷◌, length}
use Rattle.std.specs.Map.{lookup}
use Rattle.std.specs.Option.{option_map_or}
use Rattle.vtl_tree.specs.Structure.{same_name}
use Rattle.vtl_tree.specs.Structures.{Named}
use Rattle.vtl_sources.specs.Lineage.{Past, with_sources}
use Rattle.vtl_sources.specs.Links.{pairs_of_set}
use Rattle.vtl_lineage.specs.Numbers.{Numbers, input_numbers}

-- the data set of a name, if there is one
abbrev pub entry_named : Named → List ℕ → Named
entry_named known name = option_map_or (λ s. (name, s) ∷ []) (lookup (same_name name) known) []

-- data sets put to others, where the first component has this number
abbrev pub held_inputs : ℕ → Past Numbers → Named → Past Numbers
held_inputs first past [] = past
held_inputs first past (e ∷ es) = held_inputs (first + length (pairs_of_set e.0 e.1)) (with_sources past e.0 (input_numbers first e.1)) es
