-- What typing says of the statements that are run.
use Rattle.std.proofs.Common.{◌≡◌, ℕ, suc, ◌+◌, Bool, true, false, ◌||◌, List, [], ◌∷◌, ◌++◌, length, Result, Ok, Err, refl, subst}
use Rattle.std.specs.List.{AllByRecursion, list_any}
use Rattle.std.specs.Map.{keys_of}
use Rattle.std.proofs.lemmas.List.{map-append}
use Rattle.vtl_syntax.specs.Trees as tree
use Rattle.vtl_syntax.specs.Trees.{Exp, ScriptTree}
use Rattle.vtl_tree.specs.Structure.{same_name}
use Rattle.vtl_tree.specs.Structures.{has_name}
use Rattle.vtl_tree.specs.declared.structure.Structure.{Structure}
use Rattle.vtl_tree.specs.Trees.{NodeTree, structure_of}
use Rattle.vtl_lists.specs.Results.{◌>>=◌}
use Rattle.vtl_lists.proofs.Alls.{all_append, all_back, all_front}
use Rattle.check_faults.specs.Rules.{number_of, ruled}
use Rattle.check_faults.specs.declared.rules.Rule.{Rule}
use Rattle.check_faults.specs.declared.rules.Rule.TheVariants as rule
use Rattle.vtl_check.specs.Checked.{IsTyped, TypedScript, env_over, nodes_of, tree_of}
use Rattle.vtl_check.specs.Count.{count}
use Rattle.vtl_check.specs.Names.{names_in, names_of}
use Rattle.vtl_check.specs.Script.{Standing, assigned, at, is_too_much, statements_typed, value_typed, with_result, with_ruleset}
use Rattle.vtl_check.specs.Transformations.{Transformation, transformations_from}
use Rattle.vtl_scripts.specs.Meaning.{Statement}
use Rattle.vtl_backend.specs.Statements.{statements_of, with_nodes}
use Rattle.vtl_interp.specs.Results.{AreNew}
use Rattle.vtl_interp.proofs.NamesRead.{names_read}

-- ---- the nodes of statements are nodes of the script
pub names_statements : (P : List ℕ → Type 0) (ts : List Transformation) (ns : List NodeTree) → AllByRecursion P (names_of ns) → AllByRecursion P (names_read (with_nodes ts ns))
names_statements P [] ns h = tt
names_statements P (t ∷ ts) [] h = tt
names_statements P (t ∷ ts) (n ∷ ns) h =
    all_append P (names_in n) (names_read (with_nodes ts ns)) (all_front P (names_in n) (names_of ns) h) (names_statements P ts ns (all_back P (names_in n) (names_of ns) h))

-- ---- results have new names
-- a typed assignment's name is none that is known
name_new : (s : Standing) (before : ℕ) (name : List ℕ) (e : Exp) (n : NodeTree) → assigned s before name e ≡ Ok n → has_name name s.known ≡ false
unfolding assigned
name_new s before name e n h = go (has_name name s.known) _ h
  where
    go : (b taken : Bool) → (ruled ((rule.NameTaken, b || taken) ∷ []) (tt {0}) >>= (λ u. value_typed s e >>= (λ n. ruled ((rule.TooManyNodes, is_too_much before (count n)) ∷ []) n))) ≡ Ok n → b ≡ false
    go false taken h = refl
    go true taken h = cc

-- what holds behind a definition that breaks no rule
past : {P : Type 0} (i : ℕ) (r : Result (Unit {0}) Rule) (rest : Unit {0} → Result (List NodeTree) (ℕ × ℕ)) (all : List NodeTree) → ((u : Unit {0}) → rest u ≡ Ok all → P) → at i r rest ≡ Ok all → P
past i (Ok u) rest all f h = f u h
past i (Err broken) rest all f h = absurd (let wrong : Err (i, number_of broken) ≡ Ok all = h in cc)

names_new : (s : Standing) (i before : ℕ) (done : List NodeTree) (ss : ScriptTree) (all ns : List NodeTree) → statements_typed s i before done ss ≡ Ok all → AreNew (keys_of s.known) (with_nodes (transformations_from i ss) ns)
names_new s i before done [] all ns h = tt
names_new s i before done (tree.assignment name kind e ∷ ss) all [] h = tt
names_new s i before done (tree.assignment name kind e ∷ ss) all (n ∷ ns) h =
    go (assigned s before name e) refl (λ m. names_new (with_result s name m) (suc i) (before + count m) (done ++ m ∷ []) ss all ns) h
  where
    rest : NodeTree → Result (List NodeTree) (ℕ × ℕ)
    rest m = statements_typed (with_result s name m) (suc i) (before + count m) (done ++ m ∷ []) ss

    go : (r : Result NodeTree Rule) → assigned s before name e ≡ r → ((m : NodeTree) → rest m ≡ Ok all → AreNew (keys_of (s.known ++ (name, structure_of m) ∷ [])) (with_nodes (transformations_from (suc i) ss) ns))
        → at i r rest ≡ Ok all → (list_any (same_name name) (keys_of s.known) ≡ false) × AreNew (keys_of s.known ++ name ∷ []) (with_nodes (transformations_from (suc i) ss) ns)
    go (Ok m) e ih h =
        (name_new s before name _ m e, subst (λ l. AreNew l (with_nodes (transformations_from (suc i) ss) ns)) (map-append (λ (x : List ℕ × Structure). x.0) s.known ((name, structure_of m) ∷ [])) (ih m h))
    go (Err broken) e ih h = cc
names_new s i before done (tree.datapoint name variables rules last ∷ ss) all ns h =
    past i _ (λ u. statements_typed (with_ruleset s name (tree.datapoint name variables rules last)) (suc i) (before + length rules) done ss) all
    (λ u rest. names_new (with_ruleset s name (tree.datapoint name variables rules last)) (suc i) (before + length rules) done ss all ns rest) h
names_new s i before done (tree.hierarchical name item rules last ∷ ss) all ns h =
    past i _ (λ u. statements_typed (with_ruleset s name (tree.hierarchical name item rules last)) (suc i) (before + length rules) done ss) all
    (λ u rest. names_new (with_ruleset s name (tree.hierarchical name item rules last)) (suc i) (before + length rules) done ss all ns rest) h

pub results_new : (t : TypedScript) → IsTyped t → AreNew (keys_of t.declared) (statements_of t)
results_new t typed = names_new (env_over t.settings t.declared) 1 0 [] (tree_of t) (nodes_of t) (nodes_of t) typed

-- fewer names leave new names new
abbrev IsFewer : (fewer more : List (List ℕ)) → Type 0
IsFewer fewer more = (name : List ℕ) → list_any (same_name name) more ≡ false → list_any (same_name name) fewer ≡ false

-- a name that is none of two lists is none of either
pub none_of_each : (xs ys : List (List ℕ)) (name : List ℕ) → list_any (same_name name) (xs ++ ys) ≡ false → (list_any (same_name name) xs ≡ false) × (list_any (same_name name) ys ≡ false)
none_of_each [] ys name h = (refl, h)
none_of_each (y ∷ xs) ys name h = at (same_name name y) (none_of_each xs ys name) h
  where
    at : (b : Bool) → (list_any (same_name name) (xs ++ ys) ≡ false → (list_any (same_name name) xs ≡ false) × (list_any (same_name name) ys ≡ false))
        → (b || list_any (same_name name) (xs ++ ys)) ≡ false → ((b || list_any (same_name name) xs) ≡ false) × (list_any (same_name name) ys ≡ false)
    at true ih h = cc
    at false ih h = ih h

fewer_push : (fewer more : List (List ℕ)) (x : List ℕ) → IsFewer fewer more → IsFewer (fewer ++ x ∷ []) (more ++ x ∷ [])
fewer_push fewer more x f name h =
    let parts = none_of_each more (x ∷ []) name h in
    none_or fewer (x ∷ []) name (f name parts.0) parts.1
  where
    none_or : (xs ys : List (List ℕ)) (name : List ℕ) → list_any (same_name name) xs ≡ false → list_any (same_name name) ys ≡ false → list_any (same_name name) (xs ++ ys) ≡ false
    none_or [] ys name h k = k
    none_or (y ∷ xs) ys name h k = at (same_name name y) (none_or xs ys name) h
      where
        at : (b : Bool) → (list_any (same_name name) xs ≡ false → list_any (same_name name) ys ≡ false → list_any (same_name name) (xs ++ ys) ≡ false)
            → (b || list_any (same_name name) xs) ≡ false → (b || list_any (same_name name) (xs ++ ys)) ≡ false
        at true ih h = cc
        at false ih h = ih h k

pub new_among_fewer : (fewer more : List (List ℕ)) (ss : List Statement) → IsFewer fewer more → AreNew more ss → AreNew fewer ss
new_among_fewer fewer more [] f h = tt
new_among_fewer fewer more (s ∷ ss) f h = (f s.result h.0, new_among_fewer (fewer ++ s.result ∷ []) (more ++ s.result ∷ []) ss (fewer_push fewer more s.result f) h.1)
