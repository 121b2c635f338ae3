-- The nodes of a typed, written script have its words.
use Rattle.std.proofs.Common.{◌≡◌, ℕ, suc, ◌+◌, true, List, [], ◌∷◌, ◌++◌, length, subst}
use Rattle.std.specs.List.{AllByRecursion}
use Rattle.vtl_lists.specs.Results.{◌>>=◌}
use Rattle.vtl_lists.proofs.Alls.{all_append}
use Rattle.vtl_text.specs.Words.{is_name}
use Rattle.vtl_syntax.specs.Trees as tree
use Rattle.vtl_syntax.specs.Trees.{Exp, ScriptTree, StatementTree}
use Rattle.vtl_syntax.specs.Written.{AreWritten, IsWritten, IsWrittenExp}
use Rattle.vtl_tree.specs.Trees.{NodeTree}
use Rattle.check_faults.specs.Rules.{ruled}
use Rattle.check_faults.specs.declared.rules.Rule.TheVariants as rule
use Rattle.check_operators.specs.declared.places.Place.TheVariants as place
use Rattle.vtl_check.specs.Checked.{IsTyped, TypedScript, env_over, nodes_of, tree_of}
use Rattle.vtl_check.specs.Count.{count}
use Rattle.vtl_check.specs.Script.{Standing, assigned, defined, is_taken, is_too_much, sight_at, statements_typed, value_typed, with_result, with_ruleset}
use Rattle.vtl_check.specs.Transformations.{transformations, transformations_from}
use Rattle.check_rules.specs.Definitions.{datapoint_defined, hierarchical_defined}
use Rattle.check_expressions.specs.Rulesets.{Definitions}
use Rattle.check_expressions.specs.Typing.{typed}
use Rattle.check_laws.specs.Gives.{Gives}
use Rattle.check_laws.proofs.Scripts.{at-then}
use Rattle.check_laws.proofs.Steps.{after, anything, tested, then}
use Rattle.result_laws.proofs.WordedTyping.{worded}
use Rattle.result_laws.proofs.WordedOperators.{dataset_step}
use Rattle.result_laws.proofs.WordedRules.{AreDefinitionsWritten, rulings_worded}
use Rattle.result_laws.proofs.Words.{IsWorded}

assigned_worded : (s : Standing) (before : ℕ) (name : List ℕ) (e : Exp) → AreDefinitionsWritten s.definitions → IsWrittenExp e → Gives (IsWorded s.settings) (assigned s before name e)
unfolding assigned
assigned_worded s before name e d w =
    after (IsWorded s.settings) (ruled ((rule.NameTaken, is_taken s name) ∷ []) (tt {0})) (λ u. value_typed s e >>= λ n. ruled ((rule.TooManyNodes, is_too_much before (count n)) ∷ []) n)
    (λ u. then (IsWorded s.settings) (IsWorded s.settings) (value_typed s e) (λ n. ruled ((rule.TooManyNodes, is_too_much before (count n)) ∷ []) n) (dataset_step s.settings (typed (sight_at s) place.Outside e) (worded (sight_at s) (rulings_worded s.settings s.definitions d) place.Outside e w))
    (λ n h. tested (IsWorded s.settings) ((rule.TooManyNodes, is_too_much before (count n)) ∷ []) n (λ passed. h)))

-- behind one more definition
one_more : (name : List ℕ) (definition : StatementTree) (definitions : Definitions) → AreDefinitionsWritten definitions → IsWritten definition → AreDefinitionsWritten (definitions ++ (name, definition) ∷ [])
one_more name definition definitions d w = all_append (λ e. IsWritten e.1) definitions ((name, definition) ∷ []) d (w, tt)

statements_worded : (s : Standing) (i before : ℕ) (done : List NodeTree) (ss : ScriptTree) → AreDefinitionsWritten s.definitions → AreWritten ss → AllByRecursion (IsWorded s.settings) done → Gives (AllByRecursion (IsWorded s.settings)) (statements_typed s i before done ss)
statements_worded s i before done [] d w h = h
statements_worded s i before done (tree.assignment name kind e ∷ ss) d w h =
    at-then (IsWorded s.settings) (AllByRecursion (IsWorded s.settings)) i (assigned s before name e) (λ n. statements_typed (with_result s name n) (suc i) (before + count n) (done ++ n ∷ []) ss) (assigned_worded s before name e d w.0.parts.1)
    (λ n k. statements_worded (with_result s name n) (suc i) (before + count n) (done ++ n ∷ []) ss d w.1 (all_append (IsWorded s.settings) done (n ∷ []) h (k, tt)))
statements_worded s i before done (tree.datapoint n vs rs b ∷ ss) d w h =
    let fits = defined s before n (length rs) (datapoint_defined s.settings vs rs) in
    let behind = with_ruleset s n (tree.datapoint n vs rs b) in
    at-then (λ u. Unit {0}) (AllByRecursion (IsWorded s.settings)) i fits (λ u. statements_typed behind (suc i) (before + length rs) done ss) (anything fits)
    (λ u k. statements_worded behind (suc i) (before + length rs) done ss (one_more n (tree.datapoint n vs rs b) s.definitions d w.0) w.1 h)
statements_worded s i before done (tree.hierarchical n v rs b ∷ ss) d w h =
    let fits = defined s before n (length rs) (hierarchical_defined s.settings rs) in
    let behind = with_ruleset s n (tree.hierarchical n v rs b) in
    at-then (λ u. Unit {0}) (AllByRecursion (IsWorded s.settings)) i fits (λ u. statements_typed behind (suc i) (before + length rs) done ss) (anything fits)
    (λ u k. statements_worded behind (suc i) (before + length rs) done ss (one_more n (tree.hierarchical n v rs b) s.definitions d w.0) w.1 h)

pub script_worded : (t : TypedScript) → IsTyped t → AreWritten (tree_of t) → AllByRecursion (IsWorded t.settings) (nodes_of t)
script_worded t is written = subst (Gives (AllByRecursion (IsWorded t.settings))) is (statements_worded (env_over t.settings t.declared) 1 0 [] (tree_of t) tt written tt)

-- the names of results
names_from : (i : ℕ) (ss : ScriptTree) → AreWritten ss → AllByRecursion (λ t. is_name t.name ≡ true) (transformations_from i ss)
names_from i [] w = tt
names_from i (tree.assignment name kind e ∷ ss) w = (w.0.parts.0, names_from (suc i) ss w.1)
names_from i (tree.datapoint n vs rs b ∷ ss) w = names_from (suc i) ss w.1
names_from i (tree.hierarchical n v rs b ∷ ss) w = names_from (suc i) ss w.1

pub results_named : (t : TypedScript) → AreWritten (tree_of t) → AllByRecursion (λ r. is_name r.name ≡ true) (transformations (tree_of t))
results_named t written = names_from 1 (tree_of t) written
