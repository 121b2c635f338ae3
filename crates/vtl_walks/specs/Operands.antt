-- The operands of a node, in written order.
use Rattle.std.specs.Prelude.{ℕ, List, [], ◌∷◌, length}
use Rattle.std.specs.List.{flat_map}
use Rattle.vtl_tree.specs.Nodes.{nodes_in}
use Rattle.vtl_tree.specs.Trees as nodes
use Rattle.vtl_tree.specs.Trees.{FormTree, MaybeNode, NodeTree, NodeTrees, OperandTrees}

abbrev pub in_list : NodeTrees → List NodeTree
in_list nodes.no_nodes = []
in_list (nodes.and_node n ns) = n ∷ in_list ns

abbrev pub in_option : MaybeNode → List NodeTree
in_option nodes.no_node = []
in_option (nodes.some_node n) = n ∷ []

abbrev pub in_join : OperandTrees → List NodeTree
in_join nodes.no_operands = []
in_join (nodes.operand n alias os) = n ∷ in_join os

abbrev pub form_operands : FormTree → List NodeTree
form_operands (nodes.named name) = []
form_operands (nodes.measures m a) = a ∷ []
form_operands (nodes.pair o a b) = a ∷ b ∷ []
form_operands (nodes.choose t a b) = t ∷ a ∷ b ∷ []
form_operands (nodes.member a m) = a ∷ []
form_operands (nodes.filter a c) = a ∷ []
form_operands (nodes.calc a items) = a ∷ []
form_operands (nodes.keep a names) = a ∷ []
form_operands (nodes.drop_named a names) = a ∷ []
form_operands (nodes.rename a pairs) = a ∷ []
form_operands (nodes.sub a values) = a ∷ []
form_operands (nodes.pivot a id m) = a ∷ []
form_operands (nodes.unpivot a id m) = a ∷ []
form_operands (nodes.join os spec) = in_join os
form_operands (nodes.union ns) = in_list ns
form_operands (nodes.intersect ns) = in_list ns
form_operands (nodes.set_diff a b) = a ∷ b ∷ []
form_operands (nodes.sym_diff a b) = a ∷ b ∷ []
form_operands (nodes.exists_in a b r) = a ∷ b ∷ []
form_operands (nodes.aggregate a spec) = a ∷ []
form_operands (nodes.analytic_of a spec) = a ∷ []
form_operands (nodes.time a op) = a ∷ []
form_operands (nodes.check a i spec) = a ∷ in_option i
form_operands (nodes.check_datapoint a rules out) = a ∷ []
form_operands (nodes.check_hierarchy a rules m out) = a ∷ []
form_operands (nodes.hierarchy a rules m i out) = a ∷ []

abbrev pub operands_in : NodeTree → List NodeTree
operands_in (nodes.node s form) = form_operands form

-- how many nodes an expression has, and several have
abbrev pub size : NodeTree → ℕ
size n = length (nodes_in n)

abbrev pub sizes : List NodeTree → ℕ
sizes ns = length (flat_map nodes_in ns)
