-- The trees that the program's typed trees stand for.
use Rattle.std.specs.Prelude.{map, Option, Box}
use Rattle.std.specs.Option.{option_map}
use Rattle.std.specs.declared.alloc.Global.{Global}
use Rattle.vtl_tree.specs.View.{comp_exp_of}
use Rattle.vtl_tree.specs.Trees as tree
use Rattle.vtl_tree.specs.Trees.{AggTree, AnalyticTree, FormTree, ItemTree, MaybeNode, MeasureTree, NodeTree, OperandTree, PointRuleTree, PointRulesTree, ValueTree, maybe_node, nodes_of, operands_of}
use Rattle.vtl_tree.specs.declared.clauses.CalcItem.{CalcItem}
use Rattle.vtl_tree.specs.declared.clauses.CalcValue.{CalcValue}
use Rattle.vtl_tree.specs.declared.clauses.CalcValue.TheVariants as value
use Rattle.vtl_tree.specs.declared.nodes.JoinOperand.{JoinOperand, fold-JoinOperand}
use Rattle.vtl_tree.specs.declared.nodes.MeasureOp.{MeasureOp}
use Rattle.vtl_tree.specs.declared.nodes.Node.{Node, fold-Node}
use Rattle.vtl_tree.specs.declared.nodes.NodeForm.{NodeForm, fold-NodeForm}
use Rattle.vtl_tree.specs.declared.nodes.NodeForm.TheOpen.{NodeForm-F, Node-F, JoinOperand-F}
use Rattle.vtl_tree.specs.declared.rules.DatapointRule.{DatapointRule}
use Rattle.vtl_tree.specs.declared.rules.DatapointRules.{DatapointRules}
use Rattle.vtl_tree.specs.declared.specifications.AggSpec.{AggSpec}
use Rattle.vtl_tree.specs.declared.specifications.AnalyticSpec.{AnalyticSpec}
use Rattle.vtl_tree.specs.declared.specifications.AnalyticSpec.TheVariants as analytic

abbrev pub measure_tree : MeasureOp → MeasureTree
measure_tree m = record { op = m.op; before = map comp_exp_of m.before; after = map comp_exp_of m.after }

abbrev pub value_tree : CalcValue → ValueTree
value_tree (value.Scalar e) = tree.scalar (comp_exp_of e)
value_tree (value.Analytic call) = tree.analytic call

abbrev pub item_tree : CalcItem → ItemTree
item_tree i = record { role = i.role; target = i.target; value = value_tree i.value }

abbrev pub agg_tree : AggSpec → AggTree
agg_tree s = record { items = s.items; grouping = s.grouping; having = option_map comp_exp_of s.having }

abbrev pub analytic_tree : AnalyticSpec → AnalyticTree
analytic_tree (analytic.Measures op window) = tree.of_measures op window
analytic_tree (analytic.Calc items) = tree.of_items (map item_tree items)

abbrev pub point_rule_tree : DatapointRule → PointRuleTree
point_rule_tree r = record { name = r.name; antecedent = option_map comp_exp_of r.antecedent; condition = comp_exp_of r.condition; errorcode = r.errorcode; errorlevel = r.errorlevel }

abbrev pub point_rules_tree : DatapointRules → PointRulesTree
point_rules_tree r = record { variables = r.variables; rules = map point_rule_tree r.rules }

-- a node in a box that may be absent
abbrev pub boxed : Option (Box NodeTree Global) → MaybeNode
boxed b = maybe_node (option_map (λ x. x.value) b)

-- one level of each type, with each part already seen as its tree
abbrev pub form_step : NodeForm-F FormTree OperandTree NodeTree → FormTree
form_step (NodeForm-F.Named x) = tree.named x
form_step (NodeForm-F.Measures op a) = tree.measures (measure_tree op) a.value
form_step (NodeForm-F.Pair op a b) = tree.pair op a.value b.value
form_step (NodeForm-F.Choose c a b) = tree.choose c.value a.value b.value
form_step (NodeForm-F.Member a m) = tree.member a.value m
form_step (NodeForm-F.Filter a c) = tree.filter a.value (comp_exp_of c)
form_step (NodeForm-F.Calc a items) = tree.calc a.value (map item_tree items)
form_step (NodeForm-F.Keep a names) = tree.keep a.value names
form_step (NodeForm-F.DropNamed a names) = tree.drop_named a.value names
form_step (NodeForm-F.Rename a pairs) = tree.rename a.value pairs
form_step (NodeForm-F.Sub a values) = tree.sub a.value values
form_step (NodeForm-F.Pivot a id m) = tree.pivot a.value id m
form_step (NodeForm-F.Unpivot a id m) = tree.unpivot a.value id m
form_step (NodeForm-F.Join os spec) = tree.join (operands_of os.items) spec
form_step (NodeForm-F.Union ns) = tree.union (nodes_of ns.items)
form_step (NodeForm-F.Intersect ns) = tree.intersect (nodes_of ns.items)
form_step (NodeForm-F.SetDiff a b) = tree.set_diff a.value b.value
form_step (NodeForm-F.SymDiff a b) = tree.sym_diff a.value b.value
form_step (NodeForm-F.ExistsIn a b retain) = tree.exists_in a.value b.value retain
form_step (NodeForm-F.Aggregate a spec) = tree.aggregate a.value (agg_tree spec)
form_step (NodeForm-F.Analytic a spec) = tree.analytic_of a.value (analytic_tree spec)
form_step (NodeForm-F.Time a op) = tree.time a.value op
form_step (NodeForm-F.Check a imbalance spec) = tree.check a.value (boxed imbalance) spec
form_step (NodeForm-F.CheckDatapoint a rules out) = tree.check_datapoint a.value (point_rules_tree rules) out
form_step (NodeForm-F.CheckHierarchy a rules mode out) = tree.check_hierarchy a.value rules mode out
form_step (NodeForm-F.Hierarchy a rules mode input out) = tree.hierarchy a.value rules mode input out

abbrev pub operand_step : JoinOperand-F FormTree OperandTree NodeTree → OperandTree
operand_step o = record { node = o.node; alias = o.alias }

abbrev pub node_step : Node-F FormTree OperandTree NodeTree → NodeTree
node_step n = tree.node n.structure n.form

abbrev pub form_tree : NodeForm → FormTree
form_tree = fold-NodeForm FormTree OperandTree NodeTree form_step operand_step node_step

abbrev pub operand_tree : JoinOperand → OperandTree
operand_tree = fold-JoinOperand FormTree OperandTree NodeTree form_step operand_step node_step

abbrev pub node_tree : Node → NodeTree
node_tree = fold-Node FormTree OperandTree NodeTree form_step operand_step node_step
