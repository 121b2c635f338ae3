-- The names that nodes read, one list of nodes behind another.
use Rattle.std.proofs.Common.{◌≡◌, ℕ, List, [], ◌∷◌, ◌++◌, append_assoc, refl, sym, ap, ◌∙◌}
use Rattle.std.proofs.lemmas.List.Concat.{flat_map-append}
use Rattle.std.specs.List.{flat_map}
use Rattle.vtl_tree.specs.Nodes.{nodes_in}
use Rattle.vtl_tree.specs.Trees.{NodeTree}
use Rattle.vtl_walks.specs.Operands.{operands_in}
use Rattle.vtl_walks.proofs.Laws.{nodes_by_operands}
use Rattle.vtl_check.specs.Names.{name_at, names_at, names_in, names_of}

pub names_append : (xs ys : List NodeTree) → names_at (xs ++ ys) ≡ names_at xs ++ names_at ys
names_append xs ys = flat_map-append name_at xs ys

names_flat : (ns : List NodeTree) → names_at (flat_map nodes_in ns) ≡ names_of ns
names_flat [] = refl
names_flat (n ∷ ns) = names_append (nodes_in n) (flat_map nodes_in ns) ∙ ap (λ l. names_in n ++ l) (names_flat ns)

-- a node itself, and then its operands
pub names_by_operands : (n : NodeTree) → names_in n ≡ name_at n ++ names_of (operands_in n)
names_by_operands n = ap names_at (nodes_by_operands n) ∙ ap (λ l. name_at n ++ l) (names_flat (operands_in n))

-- the first of several, and then the others
pub names_first : (out : List (List ℕ)) (n : NodeTree) (ns rest : List NodeTree) → ns ≡ n ∷ rest → out ++ names_of ns ≡ (out ++ names_in n) ++ names_of rest
names_first out n ns rest e = ap (λ l. out ++ names_of l) e ∙ sym (append_assoc out (names_in n) (names_of rest))
