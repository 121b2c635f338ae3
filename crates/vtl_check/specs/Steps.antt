-- The typing of one statement, and where a script stands behind it.
use Rattle.std.specs.Prelude.{ℕ, ◌+◌, List, [], ◌∷◌, ◌++◌, length, map, Result, Ok}
use Rattle.vtl_lists.specs.Results.{◌>>=◌}
use Rattle.vtl_syntax.specs.Trees as tree
use Rattle.vtl_syntax.specs.Trees.{Exp, StatementTree}
use Rattle.vtl_tree.specs.NodeView.{node_tree}
use Rattle.vtl_tree.specs.Trees.{NodeTree}
use Rattle.check_faults.specs.Rules.{ruled}
use Rattle.check_faults.specs.declared.rules.Rule.{Rule}
use Rattle.check_faults.specs.declared.rules.Rule.TheVariants as rule
use Rattle.check_operators.specs.declared.scope.Scope.{Scope}
use Rattle.check_rules.specs.Definitions.{datapoint_defined, hierarchical_defined}
use Rattle.check_expressions.specs.Defined.{definitions_of}
use Rattle.check_expressions.specs.declared.defined.Defined.{Defined}
use Rattle.vtl_check.specs.Count.{count}
use Rattle.vtl_check.specs.Script.{Standing, assigned, defined, is_too_much, with_result, with_ruleset}
use Rattle.vtl_check.specs.declared.script.Walk.{Walk}

-- a script behind some of its statements: what is known, how many nodes and rules there are, and the nodes
pub record Walked : Type 0 where
  pub standing : Standing
  pub before : ℕ
  pub nodes : List NodeTree

abbrev pub behind_result : Walked → List ℕ → NodeTree → Walked
behind_result w name n = record { standing = with_result w.standing name n; before = w.before + count n; nodes = w.nodes ++ n ∷ [] }

abbrev pub result_typed : Walked → List ℕ → Exp → Result Walked Rule
result_typed w name e = assigned w.standing w.before name e >>= λ n. Ok (behind_result w name n)

abbrev pub behind_ruleset : Walked → List ℕ → (rules : ℕ) → StatementTree → Walked
behind_ruleset w name rules definition = record { standing = with_ruleset w.standing name definition; before = w.before + rules; nodes = w.nodes }

-- a ruleset of so many rules, where these are few enough
abbrev pub counted_ruleset : Walked → List ℕ → (rules : ℕ) → StatementTree → Result Walked Rule
counted_ruleset w name rules definition = ruled ((rule.TooManyNodes, is_too_much w.before rules) ∷ []) (tt {0}) >>= λ u. Ok (behind_ruleset w name rules definition)

abbrev pub ruleset_typed : Walked → List ℕ → (rules : ℕ) → (fits : Result (Unit {0}) Rule) → StatementTree → Result Walked Rule
ruleset_typed w name rules fits definition = defined w.standing w.before name rules fits >>= λ u. Ok (behind_ruleset w name rules definition)

-- one more statement
abbrev pub statement_typed : Walked → StatementTree → Result Walked Rule
statement_typed w (tree.assignment name kind e) = result_typed w name e
statement_typed w (tree.datapoint name variables rules last) =
    ruleset_typed w name (length rules) (datapoint_defined w.standing.settings variables rules) (tree.datapoint name variables rules last)
statement_typed w (tree.hierarchical name item rules last) =
    ruleset_typed w name (length rules) (hierarchical_defined w.standing.settings rules) (tree.hierarchical name item rules last)

-- ---- as the program holds them
abbrev pub standing_in : Scope → Defined → Standing
standing_in scope rulesets = record { settings = scope.profile; known = scope.known; definitions = definitions_of rulesets }

abbrev pub walked : Walk → Walked
walked w = record { standing = standing_in w.scope w.rulesets; before = w.before; nodes = map node_tree w.nodes.items }
