-- All nodes of an expression that is made are made.
use Rattle.std.proofs.Common.{List, ◌++◌}
use Rattle.std.specs.List.{AllByRecursion}
use Rattle.vtl_lists.proofs.Alls.{all_append}
use Rattle.vtl_decimal.specs.Settings.{Settings}
use Rattle.vtl_tree.specs.Structures.{Named}
use Rattle.vtl_tree.specs.declared.structure.Structure.{Structure}
use Rattle.vtl_tree.specs.Trees as nodes
use Rattle.vtl_tree.specs.Trees.{FormTree, MaybeNode, NodeTree, NodeTrees, OperandTrees, structure_of}
use Rattle.vtl_scripts.specs.Made.{AreMade, AreMadeOperands, IsMade, IsMadeForm, IsMadeMaybe}
use Rattle.vtl_meaning.specs.Shapes.{IsShaped}
use Rattle.vtl_tree.specs.Nodes.{all_nodes, form_nodes, maybe_nodes, nodes_in, operand_nodes}
use Rattle.vtl_meaning.proofs.Lists as lists

module _ (p : Settings) (known : Named) where
  abbrev P : NodeTree → Type 0
  P n = IsMade p known n

  two : (a b : List NodeTree) → AllByRecursion P a → AllByRecursion P b → AllByRecursion P (a ++ b)
  two a b h k = all_append P a b h k

  mutual
    pub inner-made : (n : NodeTree) → IsMade p known n → AllByRecursion P (nodes_in n)
    inner-made (nodes.node s form) m = (m, form-made s form m.1)

    form-made : (s : Structure) (form : FormTree) → IsMadeForm p known s form → AllByRecursion P (form_nodes form)
    form-made s (nodes.named name) m = tt
    form-made s (nodes.measures o a) m = inner-made a m.0
    form-made s (nodes.pair o a b) m = two (nodes_in a) (nodes_in b) (inner-made a m.0) (inner-made b m.1)
    form-made s (nodes.choose t a b) m = two (nodes_in t) (nodes_in a ++ nodes_in b) (inner-made t m.0) (two (nodes_in a) (nodes_in b) (inner-made a m.1) (inner-made b m.2))
    form-made s (nodes.member a name) m = inner-made a m.0
    form-made s (nodes.filter a c) m = inner-made a m.0
    form-made s (nodes.calc a items) m = inner-made a m.0
    form-made s (nodes.keep a names) m = inner-made a m.0
    form-made s (nodes.drop_named a names) m = inner-made a m.0
    form-made s (nodes.rename a pairs) m = inner-made a m.0
    form-made s (nodes.sub a items) m = inner-made a m.0
    form-made s (nodes.pivot a id name) m = inner-made a m.0
    form-made s (nodes.unpivot a id name) m = inner-made a m.0
    form-made s (nodes.join os spec) m = operands-made os m.0
    form-made s (nodes.union ns) m = all-made ns m.0
    form-made s (nodes.intersect ns) m = all-made ns m.0
    form-made s (nodes.set_diff a b) m = two (nodes_in a) (nodes_in b) (inner-made a m.0) (inner-made b m.1)
    form-made s (nodes.sym_diff a b) m = two (nodes_in a) (nodes_in b) (inner-made a m.0) (inner-made b m.1)
    form-made s (nodes.exists_in a b r) m = two (nodes_in a) (nodes_in b) (inner-made a m.0) (inner-made b m.1)
    form-made s (nodes.aggregate a spec) m = inner-made a m.0
    form-made s (nodes.analytic_of a spec) m = inner-made a m.0
    form-made s (nodes.time a o) m = inner-made a m.0
    form-made s (nodes.check a i spec) m = two (nodes_in a) (maybe_nodes i) (inner-made a m.0) (maybe-made i m.1)
    form-made s (nodes.check_datapoint a rules out) m = inner-made a m.0
    form-made s (nodes.check_hierarchy a rules mode out) m = inner-made a m.0
    form-made s (nodes.hierarchy a rules mode i out) m = inner-made a m.0

    all-made : (ns : NodeTrees) → AreMade p known ns → AllByRecursion P (all_nodes ns)
    all-made nodes.no_nodes m = tt
    all-made (nodes.and_node n ns) m = two (nodes_in n) (all_nodes ns) (inner-made n m.0) (all-made ns m.1)

    maybe-made : (i : MaybeNode) → IsMadeMaybe p known i → AllByRecursion P (maybe_nodes i)
    maybe-made nodes.no_node m = tt
    maybe-made (nodes.some_node n) m = inner-made n m

    operands-made : (os : OperandTrees) → AreMadeOperands p known os → AllByRecursion P (operand_nodes os)
    operands-made nodes.no_operands m = tt
    operands-made (nodes.operand n alias os) m = two (nodes_in n) (operand_nodes os) (inner-made n m.0) (operands-made os m.1)

-- the structure of an expression that is made
pub made-shaped : (p : Settings) (known : Named) (n : NodeTree) → IsMade p known n → IsShaped (structure_of n)
made-shaped p known (nodes.node s form) m = m.0

pub inner-shaped : (p : Settings) (known : Named) (n : NodeTree) → IsMade p known n → AllByRecursion (λ m. IsShaped (structure_of m)) (nodes_in n)
inner-shaped p known n m = lists.weaker (IsMade p known) (λ m. IsShaped (structure_of m)) (nodes_in n) (made-shaped p known) (inner-made p known n m)
