-- What is asked of an accepted script so that it is translated: its constants are values that a program holds, and its tables can be
-- numbered.
use Rattle.std.specs.Prelude.{◌+◌, ◌<◌, ◌^◌, List, length}
use Rattle.std.specs.List.{AllByRecursion}
use Rattle.std.specs.Option.{IfSome}
use Rattle.vtl_cell.specs.Held.{IsHeld}
use Rattle.vtl_cell.specs.declared.cell.Cell.TheVariants as c
use Rattle.vtl_decimal.specs.Settings.{Settings}
use Rattle.vtl_syntax.specs.declared.statements.HierRule.{HierRule}
use Rattle.vtl_tree.specs.CompExp.{CompExp}
use Rattle.vtl_tree.specs.RuleItems.{items_of}
use Rattle.vtl_tree.specs.declared.structure.Structure.{Structure}
use Rattle.vtl_scripts.specs.Made.{operands_in}
use Rattle.vtl_scripts.specs.Meaning.{Statement}
use Rattle.vtl_meaning.specs.Operators.{calculated_exps, measured_exps, pair_exps}
use Rattle.vtl_tree.specs.Trees as nodes
use Rattle.vtl_tree.specs.Trees.{AnalyticTree, FormTree, MaybeNode, NodeTree, NodeTrees, OperandTrees, PointRuleTree, ValueTree, structure_of}
use Rattle.vtl_tree.specs.declared.calls.AnalyticOp.{AnalyticOp}
use Rattle.vtl_meaning.specs.AnalyticShapes.{default_in}
use Rattle.expressions_to_sql.specs.Held.{HoldsValues}
use Rattle.rules_to_sql.specs.Writable.{AreErrorsHeld}
use Rattle.vtl_to_sql.specs.Conditions.{HasFewTables}

-- ---- what a program holds: constants in the expressions that queries take, values of `sub`, texts of rules, and joins and rulesets
-- whose operands and rules can be numbered
abbrev pub AllHoldValues : List CompExp → Type 0
AllHoldValues es = AllByRecursion HoldsValues es

-- the default of `lag` and `lead` is held too
abbrev pub OperatorHoldsValue : AnalyticOp → Type 0
OperatorHoldsValue o = IsHeld (default_in o)

abbrev pub MadeHoldsValues : ValueTree → Type 0
MadeHoldsValues (nodes.scalar e) = HoldsValues e
MadeHoldsValues (nodes.analytic x) = OperatorHoldsValue x.op

abbrev pub AnalyticHoldsValues : AnalyticTree → Type 0
AnalyticHoldsValues (nodes.of_measures o w) = OperatorHoldsValue o
AnalyticHoldsValues (nodes.of_items items) = AllByRecursion (λ i. MadeHoldsValues i.value) items

-- the texts of a rule, its level and its conditions
pub record RuleHoldsValues (r : PointRuleTree) : Type 0 where
  pub name : IfSome r.name (λ text. IsHeld (c.Text text))
  pub antecedent : IfSome r.antecedent HoldsValues
  pub condition : HoldsValues r.condition
  pub errors : AreErrorsHeld r.errorcode r.errorlevel

-- the texts of a hierarchical rule
pub record SidesHoldTexts (r : HierRule) : Type 0 where
  pub name : IfSome r.name (λ text. IsHeld (c.Text text))
  pub items : AllByRecursion (λ item. IsHeld (c.Text item)) (items_of r)
  pub code : IfSome r.error.code (λ text. IsHeld (c.Text text))

-- those of all rules of a hierarchical ruleset
pub record RulesHoldTexts (rules : List HierRule) : Type 0 where
  pub texts : AllByRecursion SidesHoldTexts rules
  pub few : length rules < 2 ^ 64

abbrev mutual
  pub HoldsParts : NodeTree → Type 0
  HoldsParts (nodes.node s form) = FormHoldsParts s form

  pub FormHoldsParts : Structure → FormTree → Type 0
  FormHoldsParts s (nodes.named name) = Unit {0}
  FormHoldsParts s (nodes.measures m a) = HoldsParts a × AllHoldValues (measured_exps m (structure_of a) s)
  FormHoldsParts s (nodes.pair o a b) = HoldsParts a × HoldsParts b × AllHoldValues (pair_exps o (structure_of a) (structure_of b) s)
  FormHoldsParts s (nodes.choose t a b) = HoldsParts t × HoldsParts a × HoldsParts b
  FormHoldsParts s (nodes.member a m) = HoldsParts a
  FormHoldsParts s (nodes.filter a e) = HoldsParts a × HoldsValues e
  FormHoldsParts s (nodes.calc a items) = HoldsParts a × AllHoldValues (calculated_exps items (structure_of a) s)
  FormHoldsParts s (nodes.keep a names) = HoldsParts a
  FormHoldsParts s (nodes.drop_named a names) = HoldsParts a
  FormHoldsParts s (nodes.rename a pairs) = HoldsParts a
  FormHoldsParts s (nodes.sub a items) = HoldsParts a × AllByRecursion (λ i. IsHeld i.value) items
  FormHoldsParts s (nodes.pivot a id m) = HoldsParts a
  FormHoldsParts s (nodes.unpivot a id m) = HoldsParts a
  FormHoldsParts s (nodes.time a o) = HoldsParts a
  FormHoldsParts s (nodes.analytic_of a spec) = HoldsParts a × AnalyticHoldsValues spec
  FormHoldsParts s (nodes.aggregate a spec) = HoldsParts a × IfSome spec.having HoldsValues
  FormHoldsParts s (nodes.join os spec) = OperandsHoldParts os × (1 + length (operands_in os) < 2 ^ 64)
  FormHoldsParts s (nodes.union ns) = NodesHoldParts ns
  FormHoldsParts s (nodes.intersect ns) = NodesHoldParts ns
  FormHoldsParts s (nodes.set_diff a b) = HoldsParts a × HoldsParts b
  FormHoldsParts s (nodes.sym_diff a b) = HoldsParts a × HoldsParts b
  FormHoldsParts s (nodes.exists_in a b r) = HoldsParts a × HoldsParts b
  FormHoldsParts s (nodes.check a i spec) = HoldsParts a × MaybeHoldsParts i × AreErrorsHeld spec.errorcode spec.errorlevel
  FormHoldsParts s (nodes.check_datapoint a rules out) = HoldsParts a × AllByRecursion RuleHoldsValues rules.rules × (length rules.rules < 2 ^ 64)
  FormHoldsParts s (nodes.check_hierarchy a rules m out) = HoldsParts a × RulesHoldTexts rules.rules
  FormHoldsParts s (nodes.hierarchy a rules m i out) = HoldsParts a × RulesHoldTexts rules.rules

  pub NodesHoldParts : NodeTrees → Type 0
  NodesHoldParts nodes.no_nodes = Unit {0}
  NodesHoldParts (nodes.and_node n ns) = HoldsParts n × NodesHoldParts ns

  pub MaybeHoldsParts : MaybeNode → Type 0
  MaybeHoldsParts nodes.no_node = Unit {0}
  MaybeHoldsParts (nodes.some_node n) = HoldsParts n

  pub OperandsHoldParts : OperandTrees → Type 0
  OperandsHoldParts nodes.no_operands = Unit {0}
  OperandsHoldParts (nodes.operand n alias os) = HoldsParts n × OperandsHoldParts os

abbrev pub AreHeld : List NodeTree → Type 0
AreHeld ns = AllByRecursion HoldsParts ns

-- ---- few tables are made for each statement
abbrev pub AreFew : Settings → List Statement → Type 0
AreFew p ss = AllByRecursion (HasFewTables p) ss
