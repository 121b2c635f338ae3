-- The statements and the results of a script from a place on.
use Rattle.std.proofs.Common.{◌≡◌, ℕ, suc, ◌+◌, ◌≤◌, ◌<◌, Bool, true, false, cond, ◌||◌, ◌==◌, nat_lt, List, [], ◌∷◌, ◌++◌, drop, get_or, length, map, refl, ap, ◌∙◌, subst, arith, rules}
use Rattle.std.proofs.lemmas.Bool.{eqb-true, le-ltb, lt-ltb, ltb-false, ltb-true}
use Rattle.std.proofs.lemmas.List.{drop_all, drop_more, length-map}
use Rattle.std.specs.List.{list_any}
use Rattle.vtl_syntax.specs.Trees as tree
use Rattle.vtl_syntax.specs.Trees.{ScriptTree}
use Rattle.vtl_syntax.specs.View.{statement_tree}
use Rattle.vtl_syntax.specs.declared.expressions.Expr.{Expr}
use Rattle.vtl_syntax.specs.declared.statements.Statement.{Statement}
use Rattle.vtl_syntax.specs.declared.statements.Statement.TheVariants as statement
use Rattle.vtl_syntax.specs.declared.word_groups.AssignKind.{AssignKind}
use Rattle.vtl_tree.specs.NodeView.{node_tree}
use Rattle.vtl_tree.specs.Structures.{Named, has_name, is_declarable}
use Rattle.vtl_tree.specs.Trees.{NodeTree, structure_of}
use Rattle.vtl_tree.specs.declared.nodes.Node.{Node}
use Rattle.vtl_tree.specs.declared.structure.Structure.{Structure}
use Rattle.vtl_tree.proofs.NodeLemmas.{structure-there}
use Rattle.vtl_check.specs.Transformations.{Transformation, transformations_from}
use Rattle.vtl_check.proofs.LeftLemmas.{assigned_at, left, one_left}
use Rattle.rerun_laws.specs.Parts.{definitions_in, is_transformation, known_before}
use Rattle.script_parts.specs.Results.{AreResults}

-- ---- the place of a transformation
there : (number i : ℕ) (ss : ScriptTree) → list_any (λ t. t.number == number) (transformations_from i ss) ≡ true → (i ≤ number) × (number < i + length ss)
there number i [] is = absurd cc
there number i (tree.assignment name kind e ∷ ss) is = go (i == number) refl is (there number (suc i) ss)
  where
    later : Bool
    later = list_any (λ t. t.number == number) (transformations_from (suc i) ss)

    go : (b : Bool) → (i == number) ≡ b → (b || later) ≡ true → (later ≡ true → (suc i ≤ number) × (number < suc i + length ss)) → (i ≤ number) × (number < i + suc (length ss))
    go true e is k = let same : i ≡ number = eqb-true i number e in (omega (arith, same), omega (arith, same))
    go false e is k = let h = k is in (omega (arith, h.0), omega (arith, h.1))
there number i (tree.datapoint name variables rules last ∷ ss) is = let h = there number (suc i) ss is in (omega (arith, h.0), omega (arith, h.1))
there number i (tree.hierarchical name item rules last ∷ ss) is = let h = there number (suc i) ss is in (omega (arith, h.0), omega (arith, h.1))

pub within : (number : ℕ) (ss : List Statement) → is_transformation number (map statement_tree ss) ≡ true → (1 ≤ number) × (number ≤ length ss)
within number ss is =
    let h = there number 1 (map statement_tree ss) is in
    (h.0, omega (arith, h.1, length-map ss statement_tree))

-- ---- definitions
abbrev pub definitions_left : List Statement → ℕ → ScriptTree
definitions_left ss i = definitions_in (map statement_tree (drop i ss))

-- ---- results
abbrev pub nodes_left : List Node → ℕ → List NodeTree
nodes_left nodes place = map node_tree (drop place nodes)

-- from its place on no transformation is before it
all_before : (number : ℕ) (known : Named) (i : ℕ) (ss : ScriptTree) (ns : List NodeTree) → number ≤ i → known_before number known (transformations_from i ss) ns ≡ known
all_before number known i [] ns few = refl
all_before number known i (tree.assignment name kind e ∷ ss) [] few = refl
all_before number known i (tree.assignment name kind e ∷ ss) (n ∷ ns) few =
    ap (λ b. cond b (known_before number (known ++ (name, structure_of n) ∷ []) (transformations_from (suc i) ss) ns) known) (le-ltb i number few)
all_before number known i (tree.datapoint name variables rules last ∷ ss) ns few = all_before number known (suc i) ss ns (omega (arith, few))
all_before number known i (tree.hierarchical name item rules last ∷ ss) ns few = all_before number known (suc i) ss ns (omega (arith, few))

pub none_more : (number : ℕ) (known : Named) (ss : List Statement) (i : ℕ) (ns : List NodeTree) → number ≤ i + 1 → known_before number known (left ss i) ns ≡ known
none_more number known ss i ns few = all_before number known (i + 1) (map statement_tree (drop i ss)) ns few

-- ---- a transformation before it
-- a result has a node
pub has_node : (known : Named) (t : Transformation) (ts : List Transformation) (nodes : List Node) (place : ℕ) → AreResults known (t ∷ ts) (nodes_left nodes place) → place < length nodes
has_node known t ts nodes place are = go (nat_lt place (length nodes)) refl
  where
    none : length nodes ≤ place → ⊥
    none over = subst (λ (l : List Node). AreResults known (t ∷ ts) (map node_tree l)) (drop_all place nodes over) are

    go : (b : Bool) → nat_lt place (length nodes) ≡ b → place < length nodes
    go true e = ltb-true place (length nodes) e
    go false e = absurd (none (ltb-false place (length nodes) e))

-- what is known and left behind the transformation at a place
module _ (known : Named) (ss : List Statement) (i : ℕ) (nodes : List Node) (place : ℕ) (s : Statement) (less : i < length ss) (s_is : s ≡ get_or ss i s)
    (name : List ℕ) (kind : AssignKind) (value : Expr) (assigns : s ≡ statement.Assignment name kind value) (are : AreResults known (left ss i) (nodes_left nodes place)) where
  first : left ss i ≡ assigned_at i name kind value ∷ left ss (i + 1)
  first = one_left ss i s less s_is name kind value assigns

  here : AreResults known (assigned_at i name kind value ∷ left ss (i + 1)) (nodes_left nodes place)
  here = subst (λ (ts : List Transformation). AreResults known ts (nodes_left nodes place)) first are

  pub place_within : place < length nodes
  place_within = has_node known (assigned_at i name kind value) (left ss (i + 1)) nodes place here

  module _ (n : Node) where
    abbrev pub known_now : Named
    known_now = known ++ (name, (get_or nodes place n).structure) ∷ []

    abbrev rest : List Transformation
    rest = left ss (i + 1)

    nodes_here : nodes_left nodes place ≡ node_tree (get_or nodes place n) ∷ nodes_left nodes (place + 1)
    nodes_here = ap (λ (l : List Node). map node_tree l) (drop_more nodes place n place_within)

    there_too : (has_name name known ≡ false) × (is_declarable (get_or nodes place n).structure ≡ true) × AreResults known_now rest (nodes_left nodes (place + 1))
    there_too =
        subst (λ (s : Structure). (has_name name known ≡ false) × (is_declarable s ≡ true) × AreResults (known ++ (name, s) ∷ []) rest (nodes_left nodes (place + 1))) (structure-there (get_or nodes place n))
        (subst (AreResults known (assigned_at i name kind value ∷ rest)) nodes_here here)

    pub name_new : has_name name known ≡ false
    name_new = there_too.0

    pub declarable : is_declarable (get_or nodes place n).structure ≡ true
    declarable = there_too.1

    pub results_on : AreResults known_now rest (nodes_left nodes (place + 1))
    results_on = there_too.2

    pub known_on : (number : ℕ) → i + 1 < number → known_before number known (left ss i) (nodes_left nodes place) ≡ known_before number known_now rest (nodes_left nodes (place + 1))
    known_on number before =
        ap (λ (ts : List Transformation). known_before number known ts (nodes_left nodes place)) first
        ∙ ap (known_before number known (assigned_at i name kind value ∷ rest)) nodes_here
        ∙ ap (λ b. cond b (known_before number (known ++ (name, structure_of (node_tree (get_or nodes place n))) ∷ []) rest (nodes_left nodes (place + 1))) known) (lt-ltb (i + 1) number before)
        ∙ ap (λ (s : Structure). known_before number (known ++ (name, s) ∷ []) rest (nodes_left nodes (place + 1))) (structure-there (get_or nodes place n))
