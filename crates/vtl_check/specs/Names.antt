-- The names of the data sets that expressions read, as often as they stand, in written order.
use Rattle.std.specs.Prelude.{ℕ, List, [], ◌∷◌}
use Rattle.std.specs.List.{flat_map}
use Rattle.vtl_tree.specs.Nodes.{nodes_in}
use Rattle.vtl_tree.specs.Trees as nodes
use Rattle.vtl_tree.specs.Trees.{FormTree, NodeTree}

-- the name that a node reads itself: its operands are nodes of their own
abbrev pub name_at_form : FormTree → List (List ℕ)
name_at_form (nodes.named name) = name ∷ []
name_at_form other = []

abbrev pub name_at : NodeTree → List (List ℕ)
name_at (nodes.node s form) = name_at_form form

abbrev pub names_at : List NodeTree → List (List ℕ)
names_at ns = flat_map name_at ns

-- the names that an expression reads
abbrev pub names_in : NodeTree → List (List ℕ)
names_in n = names_at (nodes_in n)

-- the names that expressions read, one expression behind the other
abbrev pub names_of : List NodeTree → List (List ℕ)
names_of ns = flat_map names_in ns
