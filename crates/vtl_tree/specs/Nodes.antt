-- All nodes of an expression on data sets.
use Rattle.std.specs.Prelude.{List, [], ◌∷◌, ◌++◌}
use Rattle.vtl_tree.specs.Trees as nodes
use Rattle.vtl_tree.specs.Trees.{FormTree, MaybeNode, NodeTree, NodeTrees, OperandTrees}

abbrev mutual
  -- an expression and all its operands, those of operands too
  pub nodes_in : NodeTree → List NodeTree
  nodes_in (nodes.node s form) = nodes.node s form ∷ form_nodes form

  pub form_nodes : FormTree → List NodeTree
  form_nodes (nodes.named name) = []
  form_nodes (nodes.measures m a) = nodes_in a
  form_nodes (nodes.pair o a b) = nodes_in a ++ nodes_in b
  form_nodes (nodes.choose t a b) = nodes_in t ++ (nodes_in a ++ nodes_in b)
  form_nodes (nodes.member a m) = nodes_in a
  form_nodes (nodes.filter a c) = nodes_in a
  form_nodes (nodes.calc a items) = nodes_in a
  form_nodes (nodes.keep a names) = nodes_in a
  form_nodes (nodes.drop_named a names) = nodes_in a
  form_nodes (nodes.rename a pairs) = nodes_in a
  form_nodes (nodes.sub a values) = nodes_in a
  form_nodes (nodes.pivot a id m) = nodes_in a
  form_nodes (nodes.unpivot a id m) = nodes_in a
  form_nodes (nodes.join os spec) = operand_nodes os
  form_nodes (nodes.union ns) = all_nodes ns
  form_nodes (nodes.intersect ns) = all_nodes ns
  form_nodes (nodes.set_diff a b) = nodes_in a ++ nodes_in b
  form_nodes (nodes.sym_diff a b) = nodes_in a ++ nodes_in b
  form_nodes (nodes.exists_in a b r) = nodes_in a ++ nodes_in b
  form_nodes (nodes.aggregate a spec) = nodes_in a
  form_nodes (nodes.analytic_of a spec) = nodes_in a
  form_nodes (nodes.time a op) = nodes_in a
  form_nodes (nodes.check a i spec) = nodes_in a ++ maybe_nodes i
  form_nodes (nodes.check_datapoint a rules out) = nodes_in a
  form_nodes (nodes.check_hierarchy a rules m out) = nodes_in a
  form_nodes (nodes.hierarchy a rules m i out) = nodes_in a

  pub all_nodes : NodeTrees → List NodeTree
  all_nodes nodes.no_nodes = []
  all_nodes (nodes.and_node n ns) = nodes_in n ++ all_nodes ns

  pub maybe_nodes : MaybeNode → List NodeTree
  maybe_nodes nodes.no_node = []
  maybe_nodes (nodes.some_node n) = nodes_in n

  pub operand_nodes : OperandTrees → List NodeTree
  operand_nodes nodes.no_operands = []
  operand_nodes (nodes.operand n alias os) = nodes_in n ++ operand_nodes os
