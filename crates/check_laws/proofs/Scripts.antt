-- The nodes of typed scripts.
use Rattle.std.proofs.Common.{◌≡◌, ℕ, suc, ◌+◌, Bool, true, false, cond, ◌&&◌, not, List, [], ◌∷◌, ◌++◌, length, Some, None, is_some, Result, Ok, Err, refl, sym, ap, ◌∙◌, subst, append_assoc}
use Rattle.std.proofs.lemmas.Bool.{leb-true, and_parts, not-true, or_parts}
use Rattle.std.proofs.lemmas.List.{append-nil}
use Rattle.std.specs.List.{AllByRecursion, list_all}
use Rattle.std.specs.Map.{keys_of, lookup}
use Rattle.std.specs.Prelude.{nat_le}
use Rattle.vtl_decimal.specs.Settings.{Settings}
use Rattle.vtl_lists.specs.Apart.{all_apart}
use Rattle.vtl_text.specs.Words.{is_component_name}
use Rattle.vtl_lists.specs.Results.{◌>>=◌}
use Rattle.vtl_lists.proofs.Alls.{all_append, all_from_test}
use Rattle.check_faults.specs.Rules.{ruled}
use Rattle.check_faults.specs.declared.rules.Rule.{Rule}
use Rattle.check_faults.specs.declared.rules.Rule.TheVariants as rule
use Rattle.vtl_syntax.specs.Trees as tree
use Rattle.vtl_syntax.specs.Trees.{Exp, ScriptTree}
use Rattle.vtl_tree.specs.Structure.{most_components, names_of, same_name}
use Rattle.vtl_tree.specs.Structures.{AreStructures, Named, codes_fit, has_name, is_declarable, is_declarable_component, is_declarable_entry, is_null_kind}
use Rattle.vtl_tree.proofs.StructuresLemmas.{not_found}
use Rattle.vtl_tree.specs.declared.structure.Component.{Component}
use Rattle.vtl_tree.specs.declared.structure.Structure.{Structure}
use Rattle.vtl_tree.specs.Trees.{NodeTree, structure_of}
use Rattle.check_operators.specs.Typed.{dataset_in}
use Rattle.check_operators.specs.declared.places.Place.TheVariants as place
use Rattle.check_rules.specs.Definitions.{datapoint_defined, hierarchical_defined}
use Rattle.check_expressions.specs.Rulesets.{is_defined}
use Rattle.check_expressions.specs.Typing.{typed}
use Rattle.vtl_check.specs.Checked.{IsTyped, TypedScript, env_over, nodes_of, tree_of}
use Rattle.vtl_check.specs.Count.{count}
use Rattle.vtl_check.specs.Names.{names_in}
use Rattle.vtl_check.specs.Script.{Standing, assigned, at, defined, env_at, is_taken, is_too_much, script_typed, sight_at, statements_typed, value_typed, with_result, with_ruleset}
use Rattle.vtl_check.specs.Transformations.{Transformation, transformations, transformations_from}
use Rattle.vtl_check.proofs.KnownLemmas.{has_name-lookup}
use Rattle.vtl_scripts.specs.Made.{IsMade}
use Rattle.vtl_meaning.specs.Shapes.{IsShaped}
use Rattle.check_laws.specs.Gives.{Gives}
use Rattle.vtl_tree.specs.Nodes.{nodes_in}
use Rattle.check_laws.specs.Scripts.{AreMadeFrom, AreReadFrom}
use Rattle.check_laws.specs.SoundRulings.{AreAccepted, IsAccepted}
use Rattle.check_laws.specs.WellTyped.{AreShaped, IsWellTyped}
use Rattle.vtl_meaning.proofs.Lists as lists
use Rattle.vtl_meaning.proofs.Places.{same_name-is}
use Rattle.check_laws.proofs.Inner.{inner-shaped, made-shaped}
use Rattle.check_laws.proofs.Over.{made_over, names_known}
use Rattle.check_laws.proofs.Sets.{dataset-gives}
use Rattle.check_laws.proofs.Sound.{sound}
use Rattle.check_laws.proofs.SoundRulings.{rulings-of}
use Rattle.check_laws.proofs.Steps.{after, tested, tested-then, then}

-- ---- structures that are declared
component-kind : (x : Component) → is_declarable_component x ≡ true → is_null_kind x.kind ≡ false
component-kind x e = not-true (is_null_kind x.kind) (and_parts (is_component_name x.name) (not (is_null_kind x.kind)) (and_parts (is_component_name x.name && not (is_null_kind x.kind)) (codes_fit x) e).0).1

declared-shaped : (s : Structure) → is_declarable s ≡ true → IsShaped s
declared-shaped s e =
    let three = and_parts (nat_le 1 (length s.components) && nat_le (length s.components) most_components && all_apart same_name (names_of s.components)) (list_all is_declarable_component s.components) e in
    let two = and_parts (nat_le 1 (length s.components) && nat_le (length s.components) most_components) (all_apart same_name (names_of s.components)) three.0 in
    let one = and_parts (nat_le 1 (length s.components)) (nat_le (length s.components) most_components) two.0 in
    record {
      well_formed = record { some = leb-true 1 (length s.components) one.0; few = leb-true (length s.components) most_components one.1; distinct = two.1 };
      kinds = lists.weaker (λ x. is_declarable_component x ≡ true) (λ x. is_null_kind x.kind ≡ false) s.components component-kind (all_from_test is_declarable_component s.components three.1);
    }

pub structures-shaped : (known : Named) → AreStructures known → AreShaped known
structures-shaped known are = lists.weaker (λ e. is_declarable_entry e ≡ true) (λ e. IsShaped e.1) known (λ e h. declared-shaped e.1 h) (all_from_test is_declarable_entry known are.declarable)

-- ---- what is known, with one more result in front or at the end
abbrev pub AreSame : Named → Named → Type 0
AreSame known other = (name : List ℕ) → lookup (same_name name) known ≡ lookup (same_name name) other

end-found : (test : List ℕ → Bool) (xs : Named) (name : List ℕ) (s : Structure) → lookup test xs ≡ None → test name ≡ true → lookup test (xs ++ (name, s) ∷ []) ≡ Some s
end-found test [] name s e t = ap (λ b. cond b (Some s) None) t
end-found test (x ∷ xs) name s e t = go (test x.0) e (λ k. end-found test xs name s k t)
  where
    go : (b : Bool) → cond b (Some x.1) (lookup test xs) ≡ None → (lookup test xs ≡ None → lookup test (xs ++ (name, s) ∷ []) ≡ Some s) → cond b (Some x.1) (lookup test (xs ++ (name, s) ∷ [])) ≡ Some s
    go true e ih = cc
    go false e ih = ih e

end-passed : (test : List ℕ → Bool) (xs : Named) (name : List ℕ) (s : Structure) → test name ≡ false → lookup test (xs ++ (name, s) ∷ []) ≡ lookup test xs
end-passed test [] name s t = ap (λ b. cond b (Some s) None) t
end-passed test (x ∷ xs) name s t = ap (cond (test x.0) (Some x.1)) (end-passed test xs name s t)

same-more : (known other : Named) (name : List ℕ) (s : Structure) → has_name name known ≡ false → AreSame known other → AreSame (known ++ (name, s) ∷ []) ((name, s) ∷ other)
same-more known other name s new same q = go (same_name q name) refl
  where
    go : (b : Bool) → same_name q name ≡ b → lookup (same_name q) (known ++ (name, s) ∷ []) ≡ cond b (Some s) (lookup (same_name q) other)
    go true t = end-found (same_name q) known name s (ap (λ n. lookup (same_name n) known) (same_name-is q name t) ∙ not_found known name new) t
    go false t = end-passed (same_name q) known name s t ∙ same q

made-same : (p : Settings) (known other : Named) (n : NodeTree) → AreSame known other → IsMade p known n → IsMade p other n
made-same p known other n same m = made_over p known other n (lists.every (λ name. lookup (same_name name) known ≡ lookup (same_name name) other) (names_in n) same) m

-- ---- statements
assigned-gives : (s : Standing) (before : ℕ) (name : List ℕ) (e : Exp) → AreShaped s.known → AreAccepted s.settings s.definitions → Gives (λ n. (has_name name s.known ≡ false) × IsMade s.settings s.known n) (assigned s before name e)
unfolding assigned
assigned-gives s before name e are accepted =
    tested-then Q ((rule.NameTaken, is_taken s name) ∷ []) (λ u. value_typed s e >>= λ n. ruled ((rule.TooManyNodes, is_too_much before (count n)) ∷ []) n)
    (λ passed. then (IsMade s.settings s.known) Q (value_typed s e) (λ n. ruled ((rule.TooManyNodes, is_too_much before (count n)) ∷ []) n)
    (then (IsWellTyped (env_at s) place.Outside) (IsMade s.settings s.known) (typed (sight_at s) place.Outside e) dataset_in (sound (sight_at s) are (rulings-of s.settings s.definitions accepted) place.Outside e) (dataset-gives (env_at s) place.Outside))
    (λ n is. tested Q ((rule.TooManyNodes, is_too_much before (count n)) ∷ []) n (λ few. ((or_parts (has_name name s.known) (is_defined name s.definitions) passed.0).0, is))))
  where
    Q : NodeTree → Type 0
    Q n = (has_name name s.known ≡ false) × IsMade s.settings s.known n

itself : (r : Result (Unit {0}) Rule) → Gives (λ u. r ≡ Ok tt) r
itself (Ok tt) = refl
itself (Err broken) = tt

-- a definition that is typed is what a ruleset has to be
defined-gives : (s : Standing) (before : ℕ) (name : List ℕ) (rules : ℕ) (fits : Result (Unit {0}) Rule) → Gives (λ u. fits ≡ Ok tt) (defined s before name rules fits)
unfolding defined
defined-gives s before name rules fits =
    after (λ u. fits ≡ Ok tt) (ruled ((rule.NameTaken, is_taken s name) ∷ []) (tt {0})) (λ u. fits >>= λ u. ruled ((rule.TooManyNodes, is_too_much before rules) ∷ []) (tt {0}))
    (λ u. then (λ u. fits ≡ Ok tt) (λ u. fits ≡ Ok tt) fits (λ u. ruled ((rule.TooManyNodes, is_too_much before rules) ∷ []) (tt {0})) (itself fits) (λ u e. tested (λ u. fits ≡ Ok tt) ((rule.TooManyNodes, is_too_much before rules) ∷ []) tt (λ passed. e)))

pub at-then : {A B : Type 0} (P : A → Type 0) (Q : B → Type 0) (i : ℕ) (r : Result A Rule) (f : A → Result B (ℕ × ℕ)) → Gives P r → ((x : A) → P x → Gives Q (f x)) → Gives Q (at i r f)
at-then P Q i (Ok x) f h g = g x h
at-then P Q i (Err broken) f h g = tt

abbrev AreBehind : Settings → Named → List Transformation → List NodeTree → List NodeTree → Type 0
AreBehind p other ts done all = (ns : List NodeTree) × (all ≡ done ++ ns) × AreMadeFrom p other ts ns

statements-give : (s : Standing) (other : Named) (i before : ℕ) (done : List NodeTree) (ss : ScriptTree) → AreShaped s.known → AreAccepted s.settings s.definitions → AreSame s.known other → Gives (AreBehind s.settings other (transformations_from i ss) done) (statements_typed s i before done ss)
statements-give s other i before done [] are accepted same = ([], sym (append-nil done), tt)
statements-give s other i before done (tree.assignment name kind e ∷ ss) are accepted same =
    at-then Here (AreBehind s.settings other (transformations_from i (tree.assignment name kind e ∷ ss)) done) i (assigned s before name e) (λ n. statements_typed (with_result s name n) (suc i) (before + count n) (done ++ n ∷ []) ss) (assigned-gives s before name e are accepted)
    (λ n h. weaken n h (statements_typed (with_result s name n) (suc i) (before + count n) (done ++ n ∷ []) ss)
    (statements-give (with_result s name n) ((name, structure_of n) ∷ other) (suc i) (before + count n) (done ++ n ∷ []) ss (all_append (λ e. IsShaped e.1) s.known ((name, structure_of n) ∷ []) are (made-shaped s.settings s.known n h.1, tt)) accepted (same-more s.known other name (structure_of n) h.0 same)))
  where
    Here : NodeTree → Type 0
    Here n = (has_name name s.known ≡ false) × IsMade s.settings s.known n

    new-there : has_name name s.known ≡ false → has_name name other ≡ false
    new-there new = has_name-lookup name other ∙ ap is_some (sym (same name)) ∙ sym (has_name-lookup name s.known) ∙ new

    weaken : (n : NodeTree) → Here n → (r : Result (List NodeTree) (ℕ × ℕ)) → Gives (AreBehind s.settings ((name, structure_of n) ∷ other) (transformations_from (suc i) ss) (done ++ n ∷ [])) r → Gives (AreBehind s.settings other (transformations_from i (tree.assignment name kind e ∷ ss)) done) r
    weaken n h (Ok all) k = (n ∷ k.0, k.1 ∙ append_assoc done (n ∷ []) k.0, (new-there h.0, made-same s.settings s.known other n same h.1, k.2))
    weaken n h (Err fault) k = tt
statements-give s other i before done (tree.datapoint name variables rules last ∷ ss) are accepted same =
    at-then (λ u. datapoint_defined s.settings variables rules ≡ Ok tt) (AreBehind s.settings other (transformations_from (suc i) ss) done) i (defined s before name (length rules) (datapoint_defined s.settings variables rules))
    (λ u. statements_typed (with_ruleset s name (tree.datapoint name variables rules last)) (suc i) (before + length rules) done ss) (defined-gives s before name (length rules) (datapoint_defined s.settings variables rules))
    (λ u e. statements-give (with_ruleset s name (tree.datapoint name variables rules last)) other (suc i) (before + length rules) done ss are (all_append (λ d. IsAccepted s.settings d.1) s.definitions ((name, tree.datapoint name variables rules last) ∷ []) accepted (e, tt)) same)
statements-give s other i before done (tree.hierarchical name item rules last ∷ ss) are accepted same =
    at-then (λ u. hierarchical_defined s.settings rules ≡ Ok tt) (AreBehind s.settings other (transformations_from (suc i) ss) done) i (defined s before name (length rules) (hierarchical_defined s.settings rules))
    (λ u. statements_typed (with_ruleset s name (tree.hierarchical name item rules last)) (suc i) (before + length rules) done ss) (defined-gives s before name (length rules) (hierarchical_defined s.settings rules))
    (λ u e. statements-give (with_ruleset s name (tree.hierarchical name item rules last)) other (suc i) (before + length rules) done ss are (all_append (λ d. IsAccepted s.settings d.1) s.definitions ((name, tree.hierarchical name item rules last) ∷ []) accepted (e, tt)) same)

-- the nodes of a whole script
pub nodes-made : (p : Settings) (declared : Named) (ss : ScriptTree) (ns : List NodeTree) → AreStructures declared → script_typed (env_over p declared) ss ≡ Ok ns → AreMadeFrom p declared (transformations ss) ns
nodes-made p declared ss ns are is = go (subst (Gives (AreBehind p declared (transformations ss) [])) is (statements-give (env_over p declared) declared 1 0 [] ss (structures-shaped declared are) tt (λ name. refl)))
  where
    go : AreBehind p declared (transformations ss) [] ns → AreMadeFrom p declared (transformations ss) ns
    go h = subst (AreMadeFrom p declared (transformations ss)) (sym h.1) h.2

pub script-made : (t : TypedScript) → AreStructures t.declared → IsTyped t → AreMadeFrom t.settings t.declared (transformations (tree_of t)) (nodes_of t)
script-made t are is = nodes-made t.settings t.declared (tree_of t) (nodes_of t) are is

-- ---- what follows of all nodes
read-from : (p : Settings) (known : Named) (ts : List Transformation) (ns : List NodeTree) → AreMadeFrom p known ts ns → AreReadFrom (keys_of known) ts ns
read-from p known [] [] m = tt
read-from p known [] (n ∷ ns) m = absurd m
read-from p known (t ∷ ts) [] m = absurd m
read-from p known (t ∷ ts) (n ∷ ns) m = (names_known p known n m.1, read-from p ((t.name, structure_of n) ∷ known) ts ns m.2)

pub script-reads : (t : TypedScript) → AreStructures t.declared → IsTyped t → AreReadFrom (keys_of t.declared) (transformations (tree_of t)) (nodes_of t)
script-reads t are is = read-from t.settings t.declared (transformations (tree_of t)) (nodes_of t) (script-made t are is)

abbrev HasStructures : NodeTree → Type 0
HasStructures n = AllByRecursion (λ m. IsShaped (structure_of m)) (nodes_in n)

structures-from : (p : Settings) (known : Named) (ts : List Transformation) (ns : List NodeTree) → AreMadeFrom p known ts ns → AllByRecursion HasStructures ns
structures-from p known ts [] m = tt
structures-from p known [] (n ∷ ns) m = absurd m
structures-from p known (t ∷ ts) (n ∷ ns) m = (inner-shaped p known n m.1, structures-from p ((t.name, structure_of n) ∷ known) ts ns m.2)

pub script-structures : (t : TypedScript) → AreStructures t.declared → IsTyped t → AllByRecursion HasStructures (nodes_of t)
script-structures t are is = structures-from t.settings t.declared (transformations (tree_of t)) (nodes_of t) (script-made t are is)
