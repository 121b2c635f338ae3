-- The nodes of a typed script: no deeper than its deepest statement, and with the rules of its definitions.
use Rattle.std.proofs.Common.{◌≡◌, ◌≤◌, ◌+◌, ℕ, suc, false, List, [], ◌∷◌, ◌++◌, length, Result, subst, arith}
use Rattle.std.specs.List.{AllByRecursion}
use Rattle.std.specs.Prelude.{nat_lt}
use Rattle.vtl_lists.specs.Results.{◌>>=◌}
use Rattle.vtl_lists.proofs.Alls.{all_append}
use Rattle.check_faults.specs.Rules.{ruled}
use Rattle.check_faults.specs.declared.rules.Rule.{Rule}
use Rattle.check_faults.specs.declared.rules.Rule.TheVariants as rule
use Rattle.vtl_syntax.specs.Depth.{deepest, depth_limit, exp_depth, statement_depth}
use Rattle.vtl_syntax.specs.Trees as tree
use Rattle.vtl_syntax.specs.Trees.{Exp, ScriptTree, StatementTree}
use Rattle.vtl_syntax.specs.Written.{AreWritten, IsWritten}
use Rattle.vtl_tree.specs.Trees.{FormTree, NodeTree}
use Rattle.check_operators.specs.declared.places.Place.TheVariants as place
use Rattle.check_rules.specs.Definitions.{datapoint_defined, hierarchical_defined}
use Rattle.check_expressions.specs.Rulesets.{Definitions, rulings_of}
use Rattle.check_expressions.specs.Typing.{typed}
use Rattle.vtl_check.specs.Checked.{IsTyped, TypedScript, env_over, nodes_of, tree_of}
use Rattle.vtl_check.specs.Count.{count}
use Rattle.vtl_check.specs.Script.{Standing, assigned, defined, is_taken, is_too_much, most_nodes, sight_at, statements_typed, value_typed, with_result, with_ruleset}
use Rattle.check_laws.specs.Called.{AreCalls, HasFewRules, HoldsOfCalls}
use Rattle.check_laws.specs.Depths.{IsHeldUpTo, node_depth}
use Rattle.check_laws.specs.Gives.{Gives}
use Rattle.check_laws.proofs.Called.{DefinesFew, calls-of, deep-kept, few-kept}
use Rattle.check_laws.proofs.DepthBounds.{IsNodeUpTo, calls-hold, deepest-below, each-below, node-depth}
use Rattle.check_laws.proofs.DepthSets.{dataset-step}
use Rattle.check_laws.proofs.DepthTyping.{deep}
use Rattle.vtl_meaning.proofs.Lists as lists
use Rattle.check_laws.proofs.Scripts.{at-then}
use Rattle.check_laws.proofs.Steps.{after, tested, then}
use Rattle.check_laws.proofs.Tests.{below}

-- ---- definitions that are few enough
few-enough : (most before rules : ℕ) → nat_lt most (before + rules) ≡ false → rules ≤ most
few-enough most before rules e = omega (arith, below most (before + rules) e)

defined-few : (s : Standing) (before : ℕ) (name : List ℕ) (rules : ℕ) (fits : Result (Unit {0}) Rule) → Gives (λ u. rules ≤ most_nodes) (defined s before name rules fits)
unfolding defined
defined-few s before name rules fits =
    after (λ u. rules ≤ most_nodes) (ruled ((rule.NameTaken, is_taken s name) ∷ []) (tt {0})) (λ u. fits >>= λ u. ruled ((rule.TooManyNodes, is_too_much before rules) ∷ []) (tt {0}))
    (λ u. after (λ u. rules ≤ most_nodes) fits (λ u. ruled ((rule.TooManyNodes, is_too_much before rules) ∷ []) (tt {0})) (λ u. tested (λ u. rules ≤ most_nodes) ((rule.TooManyNodes, is_too_much before rules) ∷ []) tt (λ passed. few-enough most_nodes before rules passed.0)))

-- ---- statements, whose expressions are up to a depth, and whose definitions have what gives this of calls
module _ (P : FormTree → Type 0) (Q : StatementTree → Type 0) (kept : (ds : Definitions) → AllByRecursion (λ d. Q d.1) ds → AreCalls P (rulings_of ds)) (d : ℕ) where
  abbrev Enters : StatementTree → Type 0
  Enters (tree.assignment name kind e) = exp_depth e ≤ d
  Enters (tree.datapoint name variables rules last) = length rules ≤ most_nodes → Q (tree.datapoint name variables rules last)
  Enters (tree.hierarchical name item rules last) = length rules ≤ most_nodes → Q (tree.hierarchical name item rules last)

  abbrev AreGood : Definitions → Type 0
  AreGood ds = AllByRecursion (λ x. Q x.1) ds

  assigned-up : (s : Standing) (before : ℕ) (name : List ℕ) (e : Exp) → exp_depth e ≤ d → AreGood s.definitions → Gives (IsNodeUpTo P d) (assigned s before name e)
  unfolding assigned
  assigned-up s before name e le good =
      after (IsNodeUpTo P d) (ruled ((rule.NameTaken, is_taken s name) ∷ []) (tt {0})) (λ u. value_typed s e >>= λ n. ruled ((rule.TooManyNodes, is_too_much before (count n)) ∷ []) n)
      (λ u. then (IsNodeUpTo P d) (IsNodeUpTo P d) (value_typed s e) (λ n. ruled ((rule.TooManyNodes, is_too_much before (count n)) ∷ []) n) (dataset-step P d (typed (sight_at s) place.Outside e) (deep P (sight_at s) (kept s.definitions good) place.Outside e d le))
      (λ n h. tested (IsNodeUpTo P d) ((rule.TooManyNodes, is_too_much before (count n)) ∷ []) n (λ passed. h)))

  statements-up : (s : Standing) (i before : ℕ) (done : List NodeTree) (ss : ScriptTree) → AreGood s.definitions → AllByRecursion Enters ss → AllByRecursion (IsNodeUpTo P d) done → Gives (AllByRecursion (IsNodeUpTo P d)) (statements_typed s i before done ss)
  statements-up s i before done [] good enter h = h
  statements-up s i before done (tree.assignment name kind e ∷ ss) good enter h =
      at-then (IsNodeUpTo P d) (AllByRecursion (IsNodeUpTo P d)) i (assigned s before name e) (λ n. statements_typed (with_result s name n) (suc i) (before + count n) (done ++ n ∷ []) ss) (assigned-up s before name e enter.0 good)
      (λ n k. statements-up (with_result s name n) (suc i) (before + count n) (done ++ n ∷ []) ss good enter.1 (all_append (IsNodeUpTo P d) done (n ∷ []) h (k, tt)))
  statements-up s i before done (tree.datapoint name variables rules last ∷ ss) good enter h =
      at-then (λ u. length rules ≤ most_nodes) (AllByRecursion (IsNodeUpTo P d)) i (defined s before name (length rules) (datapoint_defined s.settings variables rules)) (λ u. statements_typed (with_ruleset s name (tree.datapoint name variables rules last)) (suc i) (before + length rules) done ss) (defined-few s before name (length rules) (datapoint_defined s.settings variables rules))
      (λ u few. statements-up (with_ruleset s name (tree.datapoint name variables rules last)) (suc i) (before + length rules) done ss (all_append (λ x. Q x.1) s.definitions ((name, tree.datapoint name variables rules last) ∷ []) good (enter.0 few, tt)) enter.1 h)
  statements-up s i before done (tree.hierarchical name item rules last ∷ ss) good enter h =
      at-then (λ u. length rules ≤ most_nodes) (AllByRecursion (IsNodeUpTo P d)) i (defined s before name (length rules) (hierarchical_defined s.settings rules)) (λ u. statements_typed (with_ruleset s name (tree.hierarchical name item rules last)) (suc i) (before + length rules) done ss) (defined-few s before name (length rules) (hierarchical_defined s.settings rules))
      (λ u few. statements-up (with_ruleset s name (tree.hierarchical name item rules last)) (suc i) (before + length rules) done ss (all_append (λ x. Q x.1) s.definitions ((name, tree.hierarchical name item rules last) ∷ []) good (enter.0 few, tt)) enter.1 h)

  script-up : (t : TypedScript) → AllByRecursion Enters (tree_of t) → IsTyped t → AllByRecursion (IsNodeUpTo P d) (nodes_of t)
  script-up t enter is = subst (Gives (AllByRecursion (IsNodeUpTo P d))) is (statements-up (env_over t.settings t.declared) 1 0 [] (tree_of t) tt enter tt)

-- ---- depth
abbrev IsShallow : ℕ → StatementTree → Type 0
IsShallow d s = statement_depth s ≤ d

shallow-calls : (d : ℕ) (ds : Definitions) → AllByRecursion (λ x. IsShallow d x.1) ds → AreCalls (IsHeldUpTo d) (rulings_of ds)
shallow-calls d = calls-of (IsHeldUpTo d) (IsShallow d) _ (deep-kept d)

pub script-below : (t : TypedScript) (d : ℕ) → deepest statement_depth (tree_of t) ≤ d → IsTyped t → AllByRecursion (λ n. node_depth n ≤ d) (nodes_of t)
script-below t d le is =
    lists.weaker (IsNodeUpTo (IsHeldUpTo d) d) (λ n. node_depth n ≤ d) (nodes_of t) (λ n h. omega (arith, node-depth d d n h))
    (script-up (IsHeldUpTo d) (IsShallow d) (shallow-calls d) d t (lists.weaker (IsShallow d) (Enters (IsHeldUpTo d) (IsShallow d) (shallow-calls d) d) (tree_of t) enter (each-below statement_depth d (tree_of t) le)) is)
  where
    enter : (s : StatementTree) → IsShallow d s → Enters (IsHeldUpTo d) (IsShallow d) (shallow-calls d) d s
    enter (tree.assignment name kind e) h = h
    enter (tree.datapoint name variables rules last) h = λ few. h
    enter (tree.hierarchical name item rules last) h = λ few. h

pub script-depth : (t : TypedScript) → IsTyped t → AllByRecursion (λ n. node_depth n ≤ deepest statement_depth (tree_of t)) (nodes_of t)
script-depth t is = script-below t (deepest statement_depth (tree_of t)) (omega arith) is

pub written-depth : (t : TypedScript) → IsTyped t → AreWritten (tree_of t) → AllByRecursion (λ n. node_depth n ≤ depth_limit) (nodes_of t)
written-depth t is written = script-below t depth_limit (deepest-below statement_depth depth_limit (tree_of t) (lists.weaker IsWritten (λ s. statement_depth s ≤ depth_limit) (tree_of t) (λ s w. w.shallow) written)) is

-- ---- rules
few-calls : (ds : Definitions) → AllByRecursion (λ x. DefinesFew x.1) ds → AreCalls HasFewRules (rulings_of ds)
few-calls = calls-of HasFewRules DefinesFew _ few-kept

pub script-rules : (t : TypedScript) → IsTyped t → AreWritten (tree_of t) → AllByRecursion (HoldsOfCalls HasFewRules) (nodes_of t)
script-rules t is written =
    lists.weaker (IsNodeUpTo HasFewRules depth_limit) (HoldsOfCalls HasFewRules) (nodes_of t) (calls-hold HasFewRules depth_limit)
    (script-up HasFewRules DefinesFew few-calls depth_limit t (lists.weaker IsWritten (Enters HasFewRules DefinesFew few-calls depth_limit) (tree_of t) enter written) is)
  where
    enter : (s : StatementTree) → IsWritten s → Enters HasFewRules DefinesFew few-calls depth_limit s
    enter (tree.assignment name kind e) w = w.shallow
    enter (tree.datapoint name variables rules last) w = λ few. (w.parts.2.0, few)
    enter (tree.hierarchical name item rules last) w = λ few. (w.parts.2.0, few)
