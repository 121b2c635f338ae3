-- Nodes that calls of rulesets give, and what holds of their rules.
use Rattle.std.specs.Prelude.{◌≡◌, ◌≤◌, ℕ, List, Option, length}
use Rattle.std.specs.List.{AllByRecursion}
use Rattle.vtl_syntax.specs.declared.parts.Comp.{Comp}
use Rattle.vtl_syntax.specs.declared.word_groups.CheckOut.{CheckOut}
use Rattle.vtl_syntax.specs.declared.word_groups.HierInput.{HierInput}
use Rattle.vtl_syntax.specs.declared.word_groups.HierOut.{HierOut}
use Rattle.vtl_syntax.specs.declared.word_groups.Mode.{Mode}
use Rattle.vtl_tree.specs.Nodes.{form_nodes, nodes_in}
use Rattle.vtl_tree.specs.Trees as nodes
use Rattle.vtl_tree.specs.Trees.{FormTree, NodeTree}
use Rattle.check_operators.specs.Places.{Env}
use Rattle.check_operators.specs.Typed.{TypedTree, dataset}
use Rattle.check_expressions.specs.Rulings.{Rulings}
use Rattle.vtl_check.specs.Script.{most_nodes}
use Rattle.check_laws.specs.Gives.{Gives}

-- ---- forms of calls
-- this holds of the form, where it is that of a call
abbrev pub HoldsOfCall : (FormTree → Type 0) → FormTree → Type 0
HoldsOfCall P (nodes.check_datapoint a rules out) = P (nodes.check_datapoint a rules out)
HoldsOfCall P (nodes.check_hierarchy a rules m out) = P (nodes.check_hierarchy a rules m out)
HoldsOfCall P (nodes.hierarchy a rules m i out) = P (nodes.hierarchy a rules m i out)
HoldsOfCall P form = Unit {0}

abbrev pub HoldsAt : (FormTree → Type 0) → NodeTree → Type 0
HoldsAt P (nodes.node s form) = HoldsOfCall P form

-- of all calls in an expression on data sets
abbrev pub HoldsOfCalls : (FormTree → Type 0) → NodeTree → Type 0
HoldsOfCalls P n = AllByRecursion (HoldsAt P) (nodes_in n)

-- ---- what calls give
-- the form is that of a call, and this holds of it
abbrev pub IsCallForm : (FormTree → Type 0) → FormTree → Type 0
IsCallForm P (nodes.check_datapoint a rules out) = P (nodes.check_datapoint a rules out)
IsCallForm P (nodes.check_hierarchy a rules m out) = P (nodes.check_hierarchy a rules m out)
IsCallForm P (nodes.hierarchy a rules m i out) = P (nodes.hierarchy a rules m i out)
IsCallForm P form = ⊥

-- a call stands over its operand, a data set
abbrev pub IsCallOver : (FormTree → Type 0) → (operand : TypedTree) → TypedTree → Type 0
IsCallOver P (dataset a) (dataset (nodes.node s form)) = IsCallForm P form × (form_nodes form ≡ nodes_in a)
IsCallOver P x y = ⊥

pub record AreCalls (P : FormTree → Type 0) (called : Rulings) : Type 0 where
  pub datapoint : (env : Env) (name : List ℕ) (o : Option CheckOut) (x : TypedTree) → Gives (IsCallOver P x) (called.datapoint env name o x)
  pub check_hierarchy : (name : List ℕ) (r : Option Comp) (m : Option Mode) (o : Option CheckOut) (x : TypedTree) → Gives (IsCallOver P x) (called.check_hierarchy name r m o x)
  pub hierarchy : (name : List ℕ) (r : Option Comp) (m : Option Mode) (i : Option HierInput) (o : Option HierOut) (x : TypedTree) → Gives (IsCallOver P x) (called.hierarchy name r m i o x)

-- ---- the rules of calls
-- a rule at least, and no more than a script may have
abbrev pub AreFew : {X : Type 0} → List X → Type 0
AreFew rules = (1 ≤ length rules) × (length rules ≤ most_nodes)

abbrev pub HasFewRules : FormTree → Type 0
HasFewRules (nodes.check_datapoint a rules out) = AreFew rules.rules
HasFewRules (nodes.check_hierarchy a rules m out) = AreFew rules.rules
HasFewRules (nodes.hierarchy a rules m i out) = AreFew rules.rules
HasFewRules form = Unit {0}
