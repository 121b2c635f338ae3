-- The table by operands, one after the other.
use Rattle.std.specs.Prelude.{slice_get}
use Rattle.std.proofs.Common.{◌≡◌, ℕ, ◌≤◌, List, [], ◌∷◌, ◌++◌, append_assoc, append-nil, drop, length, map, rules, refl, ap, sym, ◌∙◌}
use Rattle.std.proofs.lemmas.List.{drop_all, length-map}
use Rattle.vtl_tree.specs.NodeView.{form_tree, node_tree}
use Rattle.vtl_tree.specs.Trees as nodes
use Rattle.vtl_tree.specs.Trees.{FormTree, MaybeNode, NodeTree, NodeTrees, OperandTrees}
use Rattle.vtl_tree.specs.declared.nodes.Node as node
use Rattle.vtl_tree.specs.declared.nodes.Node.{Node}
use Rattle.vtl_tree.specs.declared.structure.Structure.{Structure}
use Rattle.vtl_walks.specs.Operands.{form_operands, in_join, in_list, in_option, operands_in}
use Rattle.vtl_sources.specs.Lineage.{Past, form_lineage, lineage, maybe_lineage, nodes_lineage, operands_lineage}
use Rattle.vtl_sources.specs.Table.{of_check, of_join, of_set}
use Rattle.vtl_sources.specs.Sources.{Traced}
use Rattle.vtl_lineage.specs.Lines.{form_line, node_line, traced_node}
use Rattle.vtl_lineage.specs.Numbers.{Numbers, merged}

all_nodes : (past : Past Numbers) (ns : NodeTrees) → nodes_lineage merged [] past ns ≡ map (traced_node past) (in_list ns)
all_nodes past nodes.no_nodes = refl
all_nodes past (nodes.and_node n ns) = ap (λ l. traced_node past n ∷ l) (all_nodes past ns)

all_operands : (past : Past Numbers) (os : OperandTrees) → operands_lineage merged [] past os ≡ map (traced_node past) (in_join os)
all_operands past nodes.no_operands = refl
all_operands past (nodes.operand n alias os) = ap (λ l. traced_node past n ∷ l) (all_operands past os)

imbalance : (past : Past Numbers) (a : NodeTree) (i : MaybeNode) → maybe_lineage merged [] past i ≡ slice_get (map (traced_node past) (a ∷ in_option i)) 1
imbalance past a nodes.no_node = refl
imbalance past a (nodes.some_node n) = refl

form_by_operands : (past : Past Numbers) (s : Structure) (form : FormTree) → form_lineage merged [] past s form ≡ form_line past s form (map (traced_node past) (form_operands form))
form_by_operands past s (nodes.named name) = refl
form_by_operands past s (nodes.measures m a) = refl
form_by_operands past s (nodes.pair o a b) = refl
form_by_operands past s (nodes.choose t a b) = refl
form_by_operands past s (nodes.member a m) = refl
form_by_operands past s (nodes.filter a e) = refl
form_by_operands past s (nodes.calc a items) = refl
form_by_operands past s (nodes.keep a names) = refl
form_by_operands past s (nodes.drop_named a names) = refl
form_by_operands past s (nodes.rename a pairs) = refl
form_by_operands past s (nodes.sub a items) = refl
form_by_operands past s (nodes.pivot a id m) = refl
form_by_operands past s (nodes.unpivot a id m) = refl
form_by_operands past s (nodes.join os spec) = ap (of_join merged []) (all_operands past os)
form_by_operands past s (nodes.union ns) = ap (λ ds. of_set merged [] ds s) (all_nodes past ns)
form_by_operands past s (nodes.intersect ns) = ap (λ ds. of_set merged [] ds s) (all_nodes past ns)
form_by_operands past s (nodes.set_diff a b) = refl
form_by_operands past s (nodes.sym_diff a b) = refl
form_by_operands past s (nodes.exists_in a b r) = refl
form_by_operands past s (nodes.aggregate a spec) = refl
form_by_operands past s (nodes.analytic_of a spec) = refl
form_by_operands past s (nodes.time a o) = refl
form_by_operands past s (nodes.check a i spec) = ap (of_check merged [] (traced_node past a)) (imbalance past a i)
form_by_operands past s (nodes.check_datapoint a rules out) = refl
form_by_operands past s (nodes.check_hierarchy a rules m out) = refl
form_by_operands past s (nodes.hierarchy a rules m i out) = refl

pub by_operands : (past : Past Numbers) (n : NodeTree) → lineage merged [] past n ≡ node_line past n (map (traced_node past) (operands_in n))
by_operands past (nodes.node s form) = form_by_operands past s form

-- ---- operand by operand
pub traced_next : (past : Past Numbers) (ds : List (Traced Numbers)) (n : NodeTree) (ns rest : List NodeTree) → ns ≡ n ∷ rest → ds ++ map (traced_node past) ns ≡ (ds ++ traced_node past n ∷ []) ++ map (traced_node past) rest
traced_next past ds n ns rest e = ap (λ l. ds ++ map (traced_node past) l) e ∙ sym (append_assoc ds (traced_node past n ∷ []) (map (traced_node past) rest))

pub all_traced : (past : Past Numbers) (ds : List (Traced Numbers)) (ns : List NodeTree) (i : ℕ) → length ns ≤ i → ds ++ map (traced_node past) (drop i ns) ≡ map (traced_node past) ns → ds ≡ map (traced_node past) ns
all_traced past ds ns i h e = sym (append-nil ds) ∙ ap (λ l. ds ++ map (traced_node past) l) (sym (drop_all i ns h)) ∙ e

pub as_many : (past : Past Numbers) (ds : List (Traced Numbers)) (ns : List NodeTree) → ds ≡ map (traced_node past) ns → length ds ≡ length ns
as_many past ds ns e = ap length e ∙ length-map ns (traced_node past)

-- ---- the structure of a node is that of its tree
node_tree-is : (n : Node) → node_tree n ≡ nodes.node n.structure (form_tree n.form)
node_tree-is n = search (rules, node.the_lemmas)
