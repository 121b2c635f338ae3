-- The typing of scripts: statements in order, each over the declared data sets, and the results and rulesets before it.
use Rattle.std.specs.Prelude.{◌≡◌, ℕ, suc, nat_lt, ◌+◌, Bool, ◌||◌, List, [], ◌∷◌, ◌++◌, length, Result, Ok, Err}
use Rattle.vtl_decimal.specs.Settings.{Settings}
use Rattle.vtl_syntax.specs.Trees as tree
use Rattle.vtl_syntax.specs.Trees.{Exp, ScriptTree, StatementTree}
use Rattle.vtl_tree.specs.Structures.{Named, has_name}
use Rattle.vtl_tree.specs.Trees.{NodeTree, structure_of}
use Rattle.vtl_lists.specs.Results.{◌>>=◌}
use Rattle.check_faults.specs.Rules.{number_of, ruled}
use Rattle.check_faults.specs.declared.error.TypeErr.{TypeErr}
use Rattle.check_faults.specs.declared.error.TypeErr.TheVariants as type
use Rattle.check_faults.specs.declared.rules.Rule.{Rule}
use Rattle.check_faults.specs.declared.rules.Rule.TheVariants as rule
use Rattle.check_operators.specs.Places.{Env}
use Rattle.check_operators.specs.Typed.{dataset_in}
use Rattle.check_operators.specs.declared.places.Place.TheVariants as place
use Rattle.check_rules.specs.Definitions.{datapoint_defined, hierarchical_defined}
use Rattle.check_expressions.specs.Rulesets.{Definitions, is_defined, rulings_of}
use Rattle.check_expressions.specs.Rulings.{Sight, sight_of}
use Rattle.check_expressions.specs.Typing.{typed}
use Rattle.vtl_check.specs.Count.{count}
use Rattle.vtl_check.specs.declared.error.CheckErr.{CheckErr}
use Rattle.vtl_check.specs.declared.error.CheckErr.TheVariants as err

-- What a statement is typed by: how numbers are read, the data sets that are known, declared ones and earlier results, and the
-- rulesets that are defined.
pub record Standing : Type 0 where
  pub settings : Settings
  pub known : Named
  pub definitions : Definitions

-- without rulesets
abbrev pub env_at : Standing → Env
env_at s = record { settings = s.settings; known = s.known }

-- what its expressions are typed by
abbrev pub sight_at : Standing → Sight
sight_at s = sight_of (env_at s) (rulings_of s.definitions)

-- a data set or a ruleset has this name
abbrev pub is_taken : Standing → List ℕ → Bool
is_taken s name = has_name name s.known || is_defined name s.definitions

-- the most nodes and rules of a script
abbrev pub most_nodes : ℕ
most_nodes = 4096

-- the nodes and rules so far and these are more
abbrev pub is_too_much : (before these : ℕ) → Bool
is_too_much before these = nat_lt most_nodes (before + these)

-- ---- one statement
-- the value of an assignment: a data set
abbrev pub value_typed : Standing → Exp → Result NodeTree Rule
value_typed s e = typed (sight_at s) place.Outside e >>= dataset_in

-- an assignment behind so many nodes and rules: its name is new, its value a data set, and its nodes are few enough
unfoldable pub assigned : Standing → (before : ℕ) → List ℕ → Exp → Result NodeTree Rule
assigned s before name e =
    ruled ((rule.NameTaken, is_taken s name) ∷ []) (tt {0}) >>= λ u. value_typed s e
    >>= λ n. ruled ((rule.TooManyNodes, is_too_much before (count n)) ∷ []) n

-- a definition behind so many nodes and rules: its name is new, it is what a ruleset has to be, and its rules are few enough. Rules
-- count here, and at no call.
unfoldable pub defined : Standing → (before : ℕ) → List ℕ → (rules : ℕ) → (fits : Result (Unit {0}) Rule) → Result (Unit {0}) Rule
defined s before name rules fits =
    ruled ((rule.NameTaken, is_taken s name) ∷ []) (tt {0}) >>= λ u. fits
    >>= λ u. ruled ((rule.TooManyNodes, is_too_much before rules) ∷ []) (tt {0})

-- what stands behind an assignment, and behind a definition
abbrev pub with_result : Standing → List ℕ → NodeTree → Standing
with_result s name n = record s { known = s.known ++ (name, structure_of n) ∷ [] }

abbrev pub with_ruleset : Standing → List ℕ → StatementTree → Standing
with_ruleset s name definition = record s { definitions = s.definitions ++ (name, definition) ∷ [] }

-- ---- statements in order
-- a fault as the numbers of its statement and of the rule
abbrev pub at : {A B : Type 0} → ℕ → Result A Rule → (A → Result B (ℕ × ℕ)) → Result B (ℕ × ℕ)
at i (Ok x) f = f x
at i (Err broken) f = Err (i, number_of broken)

-- The nodes so far with those of the statements that are left, of which the first has this number, or the first fault: the numbers of
-- its statement and of the rule.
abbrev pub statements_typed : Standing → (number before : ℕ) → List NodeTree → ScriptTree → Result (List NodeTree) (ℕ × ℕ)
statements_typed s i before done [] = Ok done
statements_typed s i before done (tree.assignment name kind e ∷ ss) =
    at i (assigned s before name e) (λ n. statements_typed (with_result s name n) (suc i) (before + count n) (done ++ n ∷ []) ss)
statements_typed s i before done (tree.datapoint name variables rules last ∷ ss) =
    at i (defined s before name (length rules) (datapoint_defined s.settings variables rules))
    (λ u. statements_typed (with_ruleset s name (tree.datapoint name variables rules last)) (suc i) (before + length rules) done ss)
statements_typed s i before done (tree.hierarchical name item rules last ∷ ss) =
    at i (defined s before name (length rules) (hierarchical_defined s.settings rules))
    (λ u. statements_typed (with_ruleset s name (tree.hierarchical name item rules last)) (suc i) (before + length rules) done ss)

-- the nodes of a script, one for each assignment, in order, or its first fault
abbrev pub script_typed : Standing → ScriptTree → Result (List NodeTree) (ℕ × ℕ)
script_typed s script = statements_typed s 1 0 [] script

-- the answer is the typing, or the first fault; or it tells of want of memory
abbrev pub Checks : {A B : Type 0} → (A → B) → Result A CheckErr → Result B (ℕ × ℕ) → Type 0
Checks view (Ok x) typing = typing ≡ Ok (view x)
Checks view (Err (err.Mistyped i number)) typing = typing ≡ Err (i, number)
Checks view (Err err.OutOfMemory) typing = Unit {0}

-- whether a script is typed, without its nodes
abbrev pub verdict : {A : Type 0} → Result A (ℕ × ℕ) → Result (Unit {0}) (ℕ × ℕ)
verdict (Ok x) = Ok tt
verdict (Err fault) = Err fault

abbrev pub fault_at : ℕ → TypeErr → CheckErr
fault_at i (type.Broken broken) = err.Mistyped i (number_of broken)
fault_at i type.OutOfMemory = err.OutOfMemory
