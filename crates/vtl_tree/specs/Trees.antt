-- Typed trees without the places where their parts lie in memory. Parts that hold no expression are the program's own.
use Rattle.std.specs.Prelude.{ℕ, ℤ, List, [], ◌∷◌, Option, None, Some}
use Rattle.vtl_cell.specs.declared.operator.ScalarOp.{ScalarOp}
use Rattle.vtl_syntax.specs.declared.word_groups.CheckOut.{CheckOut}
use Rattle.vtl_syntax.specs.declared.word_groups.HierInput.{HierInput}
use Rattle.vtl_syntax.specs.declared.word_groups.HierOut.{HierOut}
use Rattle.vtl_syntax.specs.declared.word_groups.Mode.{Mode}
use Rattle.vtl_syntax.specs.declared.word_groups.Retain.{Retain}
use Rattle.vtl_tree.specs.CompExp.{CompExp}
use Rattle.vtl_tree.specs.declared.structure.Role.{Role}
use Rattle.vtl_tree.specs.declared.structure.Structure.{Structure}
use Rattle.vtl_tree.specs.declared.calls.AnalyticCall.{AnalyticCall}
use Rattle.vtl_tree.specs.declared.calls.AnalyticOp.{AnalyticOp}
use Rattle.vtl_tree.specs.declared.calls.TimeOp.{TimeOp}
use Rattle.vtl_tree.specs.declared.calls.Window.{Window}
use Rattle.vtl_tree.specs.declared.renaming.Renaming.{Renaming}
use Rattle.vtl_tree.specs.declared.clauses.SubItem.{SubItem}
use Rattle.vtl_tree.specs.declared.rules.HierRules.{HierRules}
use Rattle.vtl_tree.specs.declared.specifications.AggItems.{AggItems}
use Rattle.vtl_tree.specs.declared.specifications.CheckSpec.{CheckSpec}
use Rattle.vtl_tree.specs.declared.specifications.JoinSpec.{JoinSpec}

-- an operator on each measure, with the values before and behind the measure
pub record MeasureTree : Type 0 where
  pub op : ScalarOp
  pub before : List CompExp
  pub after : List CompExp

-- the value of a target of `calc`
pub data ValueTree : Type 0 where
  scalar : CompExp → ValueTree
  analytic : AnalyticCall → ValueTree

-- a target of `calc`
pub record ItemTree : Type 0 where
  pub role : Option Role
  pub target : List ℕ
  pub value : ValueTree

-- what an aggregate operator makes of each group
pub record AggTree : Type 0 where
  pub items : AggItems
  pub grouping : List (List ℕ)
  pub having : Option CompExp

-- what an analytic operator makes of each point
pub data AnalyticTree : Type 0 where
  of_measures : AnalyticOp → Window → AnalyticTree
  of_items : List ItemTree → AnalyticTree

-- a rule of a datapoint ruleset
pub record PointRuleTree : Type 0 where
  pub name : Option (List ℕ)
  pub antecedent : Option CompExp
  pub condition : CompExp
  pub errorcode : Option (List ℕ)
  pub errorlevel : Option ℤ

-- a datapoint ruleset
pub record PointRulesTree : Type 0 where
  pub variables : List (List ℕ)
  pub rules : List PointRuleTree

mutual
  -- an expression with its structure
  pub data NodeTree : Type 0 where
    node : Structure → FormTree → NodeTree

  pub data FormTree : Type 0 where
    named : List ℕ → FormTree
    measures : MeasureTree → NodeTree → FormTree
    pair : ScalarOp → NodeTree → NodeTree → FormTree
    choose : NodeTree → NodeTree → NodeTree → FormTree
    member : NodeTree → List ℕ → FormTree
    filter : NodeTree → CompExp → FormTree
    calc : NodeTree → List ItemTree → FormTree
    keep : NodeTree → List (List ℕ) → FormTree
    drop_named : NodeTree → List (List ℕ) → FormTree
    rename : NodeTree → List Renaming → FormTree
    sub : NodeTree → List SubItem → FormTree
    pivot : NodeTree → List ℕ → List ℕ → FormTree
    unpivot : NodeTree → List ℕ → List ℕ → FormTree
    join : OperandTrees → JoinSpec → FormTree
    union : NodeTrees → FormTree
    intersect : NodeTrees → FormTree
    set_diff : NodeTree → NodeTree → FormTree
    sym_diff : NodeTree → NodeTree → FormTree
    exists_in : NodeTree → NodeTree → Retain → FormTree
    aggregate : NodeTree → AggTree → FormTree
    analytic_of : NodeTree → AnalyticTree → FormTree
    time : NodeTree → TimeOp → FormTree
    check : NodeTree → MaybeNode → CheckSpec → FormTree
    check_datapoint : NodeTree → PointRulesTree → CheckOut → FormTree
    check_hierarchy : NodeTree → HierRules → Mode → CheckOut → FormTree
    hierarchy : NodeTree → HierRules → Mode → HierInput → HierOut → FormTree

  pub data NodeTrees : Type 0 where
    no_nodes : NodeTrees
    and_node : NodeTree → NodeTrees → NodeTrees

  pub data MaybeNode : Type 0 where
    no_node : MaybeNode
    some_node : NodeTree → MaybeNode

  -- the operands of a join, each with its alias
  pub data OperandTrees : Type 0 where
    no_operands : OperandTrees
    operand : NodeTree → List ℕ → OperandTrees → OperandTrees

-- an operand of a join alone
pub record OperandTree : Type 0 where
  pub node : NodeTree
  pub alias : List ℕ

-- lists and choices of trees, as trees hold them
abbrev pub nodes_of : List NodeTree → NodeTrees
nodes_of [] = no_nodes
nodes_of (n ∷ ns) = and_node n (nodes_of ns)

abbrev pub operands_of : List OperandTree → OperandTrees
operands_of [] = no_operands
operands_of (o ∷ os) = operand o.node o.alias (operands_of os)

abbrev pub maybe_node : Option NodeTree → MaybeNode
maybe_node None = no_node
maybe_node (Some n) = some_node n

-- the structure of an expression's data set
abbrev pub structure_of : NodeTree → Structure
structure_of (node s form) = s
