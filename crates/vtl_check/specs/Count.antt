-- How many nodes an expression on data sets has: a name is none, and a join counts by its last naming, which each has.
use Rattle.std.specs.Prelude.{ℕ, Bool, true, false, List, length}
use Rattle.std.specs.List.{filter}
use Rattle.vtl_tree.specs.Nodes.{nodes_in}
use Rattle.vtl_tree.specs.Trees as nodes
use Rattle.vtl_tree.specs.Trees.{FormTree, NodeTree}

-- whether a node counts itself
abbrev pub is_counted_form : FormTree → Bool
is_counted_form (nodes.named name) = false
is_counted_form (nodes.join os spec) = false
is_counted_form other = true

abbrev pub is_counted : NodeTree → Bool
is_counted (nodes.node s form) = is_counted_form form

abbrev pub counted : List NodeTree → ℕ
counted ns = length (filter is_counted ns)

abbrev pub count : NodeTree → ℕ
count n = counted (nodes_in n)
