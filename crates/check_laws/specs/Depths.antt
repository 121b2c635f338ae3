-- How deep typed expressions on data sets are: the deepest of the component expressions by which their points are made.
use Rattle.std.specs.Prelude.{◌≤◌, ℕ, List, [], ◌∷◌, ◌++◌, option_to_list}
use Rattle.std.specs.List.{AllByRecursion, flat_map}
use Rattle.vtl_syntax.specs.Depth.{deepest}
use Rattle.vtl_tree.specs.CompExp.{CompExp}
use Rattle.vtl_tree.specs.Depths.{comp_depth}
use Rattle.vtl_tree.specs.declared.structure.Structure.{Structure}
use Rattle.vtl_tree.specs.Nodes.{nodes_in}
use Rattle.vtl_tree.specs.Trees as nodes
use Rattle.vtl_tree.specs.Trees.{AnalyticTree, FormTree, ItemTree, NodeTree, PointRuleTree, ValueTree, structure_of}
use Rattle.vtl_meaning.specs.Operators.{calculated_exps, measured_exps, pair_exps}

-- ---- the component expressions of a node
-- an analytic call is none
abbrev pub value_exps : ValueTree → List CompExp
value_exps (nodes.scalar e) = e ∷ []
value_exps (nodes.analytic windowed) = []

abbrev pub item_exps : ItemTree → List CompExp
item_exps i = value_exps i.value

abbrev pub analytic_exps : AnalyticTree → List CompExp
analytic_exps (nodes.of_measures o window) = []
analytic_exps (nodes.of_items items) = flat_map item_exps items

abbrev pub rule_exps : PointRuleTree → List CompExp
rule_exps r = option_to_list r.antecedent ++ r.condition ∷ []

-- those that a form holds
abbrev pub held_exps : FormTree → List CompExp
held_exps (nodes.measures m a) = m.before ++ m.after
held_exps (nodes.filter a e) = e ∷ []
held_exps (nodes.calc a items) = flat_map item_exps items
held_exps (nodes.aggregate a spec) = option_to_list spec.having
held_exps (nodes.analytic_of a spec) = analytic_exps spec
held_exps (nodes.check_datapoint a rules out) = flat_map rule_exps rules.rules
held_exps form = []

-- those that a form makes of its operands' columns, one for each column of its structure
abbrev pub made_exps : Structure → FormTree → List CompExp
made_exps s (nodes.measures m a) = measured_exps m (structure_of a) s
made_exps s (nodes.pair o a b) = pair_exps o (structure_of a) (structure_of b) s
made_exps s (nodes.calc a items) = calculated_exps items (structure_of a) s
made_exps s form = []

abbrev pub exps_in : NodeTree → List CompExp
exps_in (nodes.node s form) = held_exps form ++ made_exps s form

-- the depth of the deepest component expression of an expression on data sets and of all its operands
abbrev pub node_depth : NodeTree → ℕ
node_depth n = deepest comp_depth (flat_map exps_in (nodes_in n))

-- the expressions that a form holds are at most so deep
abbrev pub IsHeldUpTo : ℕ → FormTree → Type 0
IsHeldUpTo b form = AllByRecursion (λ e. comp_depth e ≤ b) (held_exps form)
