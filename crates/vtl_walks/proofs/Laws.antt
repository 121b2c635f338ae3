-- The nodes of an expression are itself and those of its operands, one operand behind the other.
use Rattle.std.proofs.Common.{◌≡◌, ℕ, zero, suc, ◌+◌, ◌≤◌, ◌<◌, List, [], ◌∷◌, ◌++◌, append_assoc, drop, get_or, length, length-append, map, refl, sym, ap, subst, ◌∙◌, arith, rules}
use Rattle.std.proofs.lemmas.List.{drop_more, drop-map}
use Rattle.std.specs.List.{flat_map}
use Rattle.vtl_tree.specs.NodeView.{node_tree, operand_tree}
use Rattle.vtl_tree.specs.Nodes.{all_nodes, form_nodes, maybe_nodes, nodes_in, operand_nodes}
use Rattle.vtl_tree.specs.Trees as nodes
use Rattle.vtl_tree.specs.Trees.{FormTree, MaybeNode, NodeTree, NodeTrees, OperandTree, OperandTrees, nodes_of, operands_of}
use Rattle.vtl_tree.specs.declared.nodes.JoinOperand as operand
use Rattle.vtl_tree.specs.declared.nodes.JoinOperand.{JoinOperand}
use Rattle.vtl_walks.specs.Operands.{form_operands, in_join, in_list, in_option, operands_in, size, sizes}

-- ---- lists of operands
pub all_in_list : (ns : List NodeTree) → in_list (nodes_of ns) ≡ ns
all_in_list [] = refl
all_in_list (n ∷ ns) = ap (λ l. n ∷ l) (all_in_list ns)

pub operand_node : (o : JoinOperand) → (operand_tree o).node ≡ node_tree o.node
operand_node o = let e : operand_tree o ≡ record { node = node_tree o.node; alias = o.alias } = search (rules, operand.the_lemmas) in ap (λ (t : OperandTree). t.node) e

pub all_in_join : (os : List JoinOperand) → in_join (operands_of (map operand_tree os)) ≡ map (λ o. node_tree o.node) os
all_in_join [] = refl
all_in_join (o ∷ os) = ap (λ n. n ∷ in_join (operands_of (map operand_tree os))) (operand_node o) ∙ ap (λ l. node_tree o.node ∷ l) (all_in_join os)

pub drop_mapped : {X : Type 0} (f : X → NodeTree) (xs : List X) (i : ℕ) (d : X) → i < length xs → drop i (map f xs) ≡ f (get_or xs i d) ∷ drop (i + 1) (map f xs)
drop_mapped f xs i d h =
    drop-map f i xs ∙ ap (map f) (drop_more xs i d h) ∙ sym (ap (λ l. f (get_or xs i d) ∷ l) (drop-map f (i + 1) xs))

-- ---- nodes by operands
nil_behind : (l : List NodeTree) → l ≡ l ++ []
nil_behind [] = refl
nil_behind (x ∷ xs) = ap (λ l. x ∷ l) (nil_behind xs)

one : (a : NodeTree) → nodes_in a ≡ flat_map nodes_in (a ∷ [])
one a = nil_behind (nodes_in a)

two : (a b : NodeTree) → nodes_in a ++ nodes_in b ≡ flat_map nodes_in (a ∷ b ∷ [])
two a b = ap (λ l. nodes_in a ++ l) (one b)

three : (a b c : NodeTree) → nodes_in a ++ (nodes_in b ++ nodes_in c) ≡ flat_map nodes_in (a ∷ b ∷ c ∷ [])
three a b c = ap (λ l. nodes_in a ++ l) (two b c)

several : (ns : NodeTrees) → all_nodes ns ≡ flat_map nodes_in (in_list ns)
several nodes.no_nodes = refl
several (nodes.and_node n ns) = ap (λ l. nodes_in n ++ l) (several ns)

joined : (os : OperandTrees) → operand_nodes os ≡ flat_map nodes_in (in_join os)
joined nodes.no_operands = refl
joined (nodes.operand n alias os) = ap (λ l. nodes_in n ++ l) (joined os)

checked : (a : NodeTree) (i : MaybeNode) → nodes_in a ++ maybe_nodes i ≡ flat_map nodes_in (a ∷ in_option i)
checked a nodes.no_node = refl
checked a (nodes.some_node n) = two a n

form_nodes_by : (form : FormTree) → form_nodes form ≡ flat_map nodes_in (form_operands form)
form_nodes_by (nodes.named name) = refl
form_nodes_by (nodes.measures m a) = one a
form_nodes_by (nodes.pair o a b) = two a b
form_nodes_by (nodes.choose t a b) = three t a b
form_nodes_by (nodes.member a m) = one a
form_nodes_by (nodes.filter a c) = one a
form_nodes_by (nodes.calc a items) = one a
form_nodes_by (nodes.keep a names) = one a
form_nodes_by (nodes.drop_named a names) = one a
form_nodes_by (nodes.rename a pairs) = one a
form_nodes_by (nodes.sub a values) = one a
form_nodes_by (nodes.pivot a id m) = one a
form_nodes_by (nodes.unpivot a id m) = one a
form_nodes_by (nodes.join os spec) = joined os
form_nodes_by (nodes.union ns) = several ns
form_nodes_by (nodes.intersect ns) = several ns
form_nodes_by (nodes.set_diff a b) = two a b
form_nodes_by (nodes.sym_diff a b) = two a b
form_nodes_by (nodes.exists_in a b r) = two a b
form_nodes_by (nodes.aggregate a spec) = one a
form_nodes_by (nodes.analytic_of a spec) = one a
form_nodes_by (nodes.time a op) = one a
form_nodes_by (nodes.check a i spec) = checked a i
form_nodes_by (nodes.check_datapoint a rules out) = one a
form_nodes_by (nodes.check_hierarchy a rules m out) = one a
form_nodes_by (nodes.hierarchy a rules m i out) = one a

pub nodes_by_operands : (n : NodeTree) → nodes_in n ≡ n ∷ flat_map nodes_in (operands_in n)
nodes_by_operands (nodes.node s form) = ap (λ l. nodes.node s form ∷ l) (form_nodes_by form)

-- ---- an operand has fewer nodes than the expression
size_within : (ns : List NodeTree) (i : ℕ) (n : NodeTree) (rest : List NodeTree) → drop i ns ≡ n ∷ rest → size n ≤ sizes ns
size_within [] zero n rest e = absurd cc
size_within [] (suc i) n rest e = absurd cc
size_within (x ∷ ns) zero n rest e =
    let same : x ≡ n = cc in
    subst (λ m. size m ≤ sizes (x ∷ ns)) same (omega (arith, length-append (nodes_in x) (flat_map nodes_in ns)))
size_within (x ∷ ns) (suc i) n rest e = let h = size_within ns i n rest e in omega (arith, h, length-append (nodes_in x) (flat_map nodes_in ns))

pub size_first : (ns : List NodeTree) (i : ℕ) (n : NodeTree) → drop i ns ≡ n ∷ drop (i + 1) ns → size n ≤ sizes ns
size_first ns i n e = size_within ns i n (drop (i + 1) ns) e

pub size_is : (n : NodeTree) → size n ≡ suc (sizes (operands_in n))
size_is n = ap length (nodes_by_operands n)
