-- What is made over some structures is made over all others in which the names that it reads stand for the same.
use Rattle.std.proofs.Common.{◌≡◌, ℕ, List, [], ◌∷◌, ◌++◌, is_some, true, sym, ap, subst, ◌∙◌}
use Rattle.std.specs.List.{AllByRecursion}
use Rattle.std.specs.Map.{lookup}
use Rattle.vtl_lists.proofs.Alls.{all_append, all_back, all_front}
use Rattle.vtl_decimal.specs.Settings.{Settings}
use Rattle.vtl_tree.specs.Structure.{same_name}
use Rattle.vtl_tree.specs.Structures.{Named, has_name}
use Rattle.vtl_tree.specs.declared.structure.Structure.{Structure}
use Rattle.vtl_tree.specs.Trees as nodes
use Rattle.vtl_tree.specs.Trees.{FormTree, MaybeNode, NodeTree, NodeTrees, OperandTrees}
use Rattle.vtl_tree.specs.Nodes.{all_nodes, form_nodes, maybe_nodes, nodes_in, operand_nodes}
use Rattle.vtl_check.specs.Names.{name_at, name_at_form, names_at, names_in}
use Rattle.vtl_check.proofs.KnownLemmas.{has_name-lookup}
use Rattle.vtl_check.proofs.NameLemmas.{names_append}
use Rattle.vtl_scripts.specs.Made.{AreMade, AreMadeOperands, IsMade, IsMadeForm, IsMadeMaybe}
use Rattle.check_laws.specs.Scripts.{AreKnownAlike}
use Rattle.check_laws.proofs.Inner.{inner-made}

abbrev IsAlike : Named → Named → List ℕ → Type 0
IsAlike known other name = lookup (same_name name) known ≡ lookup (same_name name) other

-- the names of nodes that stand before others, and of those behind
front : (known other : Named) (xs ys : List NodeTree) → AreKnownAlike known other (names_at (xs ++ ys)) → AreKnownAlike known other (names_at xs)
front known other xs ys h = all_front (IsAlike known other) (names_at xs) (names_at ys) (subst (AreKnownAlike known other) (names_append xs ys) h)

back : (known other : Named) (xs ys : List NodeTree) → AreKnownAlike known other (names_at (xs ++ ys)) → AreKnownAlike known other (names_at ys)
back known other xs ys h = all_back (IsAlike known other) (names_at xs) (names_at ys) (subst (AreKnownAlike known other) (names_append xs ys) h)

mutual
  pub made_over : (p : Settings) (known other : Named) (n : NodeTree) → AreKnownAlike known other (names_in n) → IsMade p known n → IsMade p other n
  made_over p known other (nodes.node s form) h m = (m.0, form_over p known other s form h m.1)

  form_over : (p : Settings) (known other : Named) (s : Structure) (form : FormTree) → AreKnownAlike known other (name_at_form form ++ names_at (form_nodes form)) → IsMadeForm p known s form → IsMadeForm p other s form
  form_over p known other s (nodes.named name) h m = sym h.0 ∙ m
  form_over p known other s (nodes.measures o a) h m = (made_over p known other a h m.0, m.1)
  form_over p known other s (nodes.pair o a b) h m = (made_over p known other a (front known other (nodes_in a) (nodes_in b) h) m.0, made_over p known other b (back known other (nodes_in a) (nodes_in b) h) m.1, m.2)
  form_over p known other s (nodes.choose t a b) h m =
      let more = back known other (nodes_in t) (nodes_in a ++ nodes_in b) h in
      (made_over p known other t (front known other (nodes_in t) (nodes_in a ++ nodes_in b) h) m.0, made_over p known other a (front known other (nodes_in a) (nodes_in b) more) m.1, made_over p known other b (back known other (nodes_in a) (nodes_in b) more) m.2, m.3)
  form_over p known other s (nodes.member a name) h m = (made_over p known other a h m.0, m.1, m.2)
  form_over p known other s (nodes.filter a c) h m = (made_over p known other a h m.0, m.1)
  form_over p known other s (nodes.calc a items) h m = (made_over p known other a h m.0, m.1)
  form_over p known other s (nodes.keep a names) h m = (made_over p known other a h m.0, m.1, m.2)
  form_over p known other s (nodes.drop_named a names) h m = (made_over p known other a h m.0, m.1, m.2)
  form_over p known other s (nodes.rename a pairs) h m = (made_over p known other a h m.0, m.1, m.2)
  form_over p known other s (nodes.sub a items) h m = (made_over p known other a h m.0, m.1)
  form_over p known other s (nodes.pivot a id name) h m = (made_over p known other a h m.0, m.1)
  form_over p known other s (nodes.unpivot a id name) h m = (made_over p known other a h m.0, m.1)
  form_over p known other s (nodes.join os spec) h m = (operands_over p known other os h m.0, m.1, m.2)
  form_over p known other s (nodes.union ns) h m = (all_over p known other ns h m.0, m.1)
  form_over p known other s (nodes.intersect ns) h m = (all_over p known other ns h m.0, m.1)
  form_over p known other s (nodes.set_diff a b) h m = (made_over p known other a (front known other (nodes_in a) (nodes_in b) h) m.0, made_over p known other b (back known other (nodes_in a) (nodes_in b) h) m.1, m.2)
  form_over p known other s (nodes.sym_diff a b) h m = (made_over p known other a (front known other (nodes_in a) (nodes_in b) h) m.0, made_over p known other b (back known other (nodes_in a) (nodes_in b) h) m.1, m.2)
  form_over p known other s (nodes.exists_in a b r) h m = (made_over p known other a (front known other (nodes_in a) (nodes_in b) h) m.0, made_over p known other b (back known other (nodes_in a) (nodes_in b) h) m.1, m.2)
  form_over p known other s (nodes.aggregate a spec) h m = (made_over p known other a h m.0, m.1)
  form_over p known other s (nodes.analytic_of a spec) h m = (made_over p known other a h m.0, m.1, m.2)
  form_over p known other s (nodes.time a o) h m = (made_over p known other a h m.0, m.1)
  form_over p known other s (nodes.check a i spec) h m = (made_over p known other a (front known other (nodes_in a) (maybe_nodes i) h) m.0, maybe_over p known other i (back known other (nodes_in a) (maybe_nodes i) h) m.1, m.2)
  form_over p known other s (nodes.check_datapoint a rules out) h m = (made_over p known other a h m.0, m.1)
  form_over p known other s (nodes.check_hierarchy a rules mode out) h m = (made_over p known other a h m.0, m.1)
  form_over p known other s (nodes.hierarchy a rules mode i out) h m = (made_over p known other a h m.0, m.1, m.2)

  all_over : (p : Settings) (known other : Named) (ns : NodeTrees) → AreKnownAlike known other (names_at (all_nodes ns)) → AreMade p known ns → AreMade p other ns
  all_over p known other nodes.no_nodes h m = tt
  all_over p known other (nodes.and_node n ns) h m = (made_over p known other n (front known other (nodes_in n) (all_nodes ns) h) m.0, all_over p known other ns (back known other (nodes_in n) (all_nodes ns) h) m.1)

  maybe_over : (p : Settings) (known other : Named) (i : MaybeNode) → AreKnownAlike known other (names_at (maybe_nodes i)) → IsMadeMaybe p known i → IsMadeMaybe p other i
  maybe_over p known other nodes.no_node h m = tt
  maybe_over p known other (nodes.some_node n) h m = made_over p known other n h m

  operands_over : (p : Settings) (known other : Named) (os : OperandTrees) → AreKnownAlike known other (names_at (operand_nodes os)) → AreMadeOperands p known os → AreMadeOperands p other os
  operands_over p known other nodes.no_operands h m = tt
  operands_over p known other (nodes.operand n alias os) h m = (made_over p known other n (front known other (nodes_in n) (operand_nodes os) h) m.0, operands_over p known other os (back known other (nodes_in n) (operand_nodes os) h) m.1)

-- ---- each name that is read is known
abbrev IsKnown : Named → List ℕ → Type 0
IsKnown known name = has_name name known ≡ true

-- the name that a node reads itself
own_known : (p : Settings) (known : Named) (n : NodeTree) → IsMade p known n → AllByRecursion (IsKnown known) (name_at n)
own_known p known (nodes.node s (nodes.named name)) m = (has_name-lookup name known ∙ ap is_some m.1, tt)
own_known p known (nodes.node s other) m = tt

all_known : (p : Settings) (known : Named) (ns : List NodeTree) → AllByRecursion (IsMade p known) ns → AllByRecursion (IsKnown known) (names_at ns)
all_known p known [] m = tt
all_known p known (n ∷ ns) m = all_append (IsKnown known) (name_at n) (names_at ns) (own_known p known n m.0) (all_known p known ns m.1)

pub names_known : (p : Settings) (known : Named) (n : NodeTree) → IsMade p known n → AllByRecursion (IsKnown known) (names_in n)
names_known p known n m = all_known p known (nodes_in n) (inner-made p known n m)
