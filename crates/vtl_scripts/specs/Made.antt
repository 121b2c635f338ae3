-- What typing gives of expressions and statements: each node fits its operands, and each name is known with its structure.
use Rattle.std.specs.Prelude.{◌≡◌, List, [], ◌∷◌, Option, None, Some}
use Rattle.std.specs.Map.{lookup}
use Rattle.vtl_decimal.specs.Settings.{Settings}
use Rattle.vtl_tree.specs.Structure.{same_name}
use Rattle.vtl_tree.specs.Structures.{Named}
use Rattle.vtl_tree.specs.declared.structure.Structure.{Structure}
use Rattle.vtl_tree.specs.Joins as joins
use Rattle.vtl_tree.specs.declared.joins.Operand.{Operand}
use Rattle.vtl_tree.specs.Trees as nodes
use Rattle.vtl_tree.specs.Trees.{FormTree, MaybeNode, NodeTree, NodeTrees, OperandTrees, structure_of}
use Rattle.vtl_tree.specs.declared.choices.Choice.TheVariants as choice
use Rattle.vtl_tree.specs.declared.names.Wanted.TheVariants as wanted
use Rattle.vtl_meaning.specs.Made.{AreCombined, IsCalculated, IsChoice, IsCombined, IsExistence, IsFiltered, IsGrouped, IsJoined, IsLeft, IsMeasured, IsPaired, IsPivoted, IsRenamed, IsSub, IsUnpivoted, IsWindowed}
use Rattle.vtl_meaning.specs.Reaches.{AreNear}
use Rattle.vtl_meaning.specs.Shapes.{IsChosen, IsJoinedFrom, IsRenamedBy, IsShaped}
use Rattle.vtl_rulings.specs.HierarchyChecks.{ruled_by}
use Rattle.vtl_rulings.specs.HierarchyShapes.{IsHierarchyChecked, IsHierarchyMade}
use Rattle.vtl_rulings.specs.Ordered.{HasOrder}
use Rattle.vtl_rulings.specs.Shaped.{IsChecked, IsPointChecked}
use Rattle.vtl_timing.specs.Timed.{IsTimed}
use Rattle.vtl_scripts.specs.Meaning.{Statement}

-- ---- operands
abbrev pub operands_in : OperandTrees → List Operand
operands_in nodes.no_operands = []
operands_in (nodes.operand n alias os) = record { alias = alias; structure = structure_of n } ∷ operands_in os

abbrev pub node_structures : NodeTrees → List Structure
node_structures nodes.no_nodes = []
node_structures (nodes.and_node n ns) = structure_of n ∷ node_structures ns

abbrev pub maybe_structure : MaybeNode → Option Structure
maybe_structure nodes.no_node = None
maybe_structure (nodes.some_node n) = Some (structure_of n)

-- ---- nodes
-- Each node has a structure whose components have kinds and which fits its operands, and each name is known with its structure.
-- Of analytic calls it is told too how far they reach, and of hierarchies in which order their rules are run.
abbrev mutual
  pub IsMade : Settings → Named → NodeTree → Type 0
  IsMade p known (nodes.node s form) = IsShaped s × IsMadeForm p known s form

  pub IsMadeForm : Settings → Named → Structure → FormTree → Type 0
  IsMadeForm p known s (nodes.named name) = lookup (same_name name) known ≡ Some s
  IsMadeForm p known s (nodes.measures m a) = IsMade p known a × IsMeasured p m (structure_of a) s
  IsMadeForm p known s (nodes.pair o a b) = IsMade p known a × IsMade p known b × IsPaired p o (structure_of a) (structure_of b) s
  IsMadeForm p known s (nodes.choose t a b) = IsMade p known t × IsMade p known a × IsMade p known b × IsChoice (structure_of t) (structure_of a) (structure_of b) s
  IsMadeForm p known s (nodes.member a m) = IsMade p known a × IsLeft (structure_of a) s × IsChosen wanted.Measure choice.Keep (m ∷ []) (structure_of a) s
  IsMadeForm p known s (nodes.filter a e) = IsMade p known a × IsFiltered p e (structure_of a) s
  IsMadeForm p known s (nodes.calc a items) = IsMade p known a × IsCalculated p items (structure_of a) s
  IsMadeForm p known s (nodes.keep a names) = IsMade p known a × IsLeft (structure_of a) s × IsChosen wanted.Value choice.Keep names (structure_of a) s
  IsMadeForm p known s (nodes.drop_named a names) = IsMade p known a × IsLeft (structure_of a) s × IsChosen wanted.Value choice.Drop names (structure_of a) s
  IsMadeForm p known s (nodes.rename a pairs) = IsMade p known a × IsRenamed (structure_of a) s × IsRenamedBy pairs (structure_of a) s
  IsMadeForm p known s (nodes.sub a items) = IsMade p known a × IsSub items (structure_of a) s
  IsMadeForm p known s (nodes.pivot a id m) = IsMade p known a × IsPivoted id m (structure_of a) s
  IsMadeForm p known s (nodes.unpivot a id m) = IsMade p known a × IsUnpivoted id m (structure_of a) s
  IsMadeForm p known s (nodes.join os spec) = AreMadeOperands p known os × IsJoined spec.kind (joins.structures_of (operands_in os)) s × IsJoinedFrom spec.kind (operands_in os) s
  IsMadeForm p known s (nodes.union ns) = AreMade p known ns × AreCombined (node_structures ns) s
  IsMadeForm p known s (nodes.intersect ns) = AreMade p known ns × AreCombined (node_structures ns) s
  IsMadeForm p known s (nodes.set_diff a b) = IsMade p known a × IsMade p known b × IsCombined (structure_of a) (structure_of b ∷ []) s
  IsMadeForm p known s (nodes.sym_diff a b) = IsMade p known a × IsMade p known b × IsCombined (structure_of a) (structure_of b ∷ []) s
  IsMadeForm p known s (nodes.exists_in a b r) = IsMade p known a × IsMade p known b × IsExistence (structure_of a) (structure_of b) s
  IsMadeForm p known s (nodes.aggregate a spec) = IsMade p known a × IsGrouped p spec (structure_of a) s
  IsMadeForm p known s (nodes.analytic_of a spec) = IsMade p known a × IsWindowed p spec (structure_of a) s × AreNear spec
  IsMadeForm p known s (nodes.time a o) = IsMade p known a × IsTimed o (structure_of a) s
  IsMadeForm p known s (nodes.check a i spec) = IsMade p known a × IsMadeMaybe p known i × IsChecked p spec (maybe_structure i) (structure_of a) s
  IsMadeForm p known s (nodes.check_datapoint a rules out) = IsMade p known a × IsPointChecked p out rules.rules (structure_of a) s
  IsMadeForm p known s (nodes.check_hierarchy a rules m out) = IsMade p known a × IsHierarchyChecked out (ruled_by rules (structure_of a)) rules.rules (structure_of a) s
  IsMadeForm p known s (nodes.hierarchy a rules m i out) = IsMade p known a × IsHierarchyMade (ruled_by rules (structure_of a)) rules.rules (structure_of a) s × HasOrder rules.rules rules.order

  pub AreMade : Settings → Named → NodeTrees → Type 0
  AreMade p known nodes.no_nodes = Unit {0}
  AreMade p known (nodes.and_node n ns) = IsMade p known n × AreMade p known ns

  pub IsMadeMaybe : Settings → Named → MaybeNode → Type 0
  IsMadeMaybe p known nodes.no_node = Unit {0}
  IsMadeMaybe p known (nodes.some_node n) = IsMade p known n

  pub AreMadeOperands : Settings → Named → OperandTrees → Type 0
  AreMadeOperands p known nodes.no_operands = Unit {0}
  AreMadeOperands p known (nodes.operand n alias os) = IsMade p known n × AreMadeOperands p known os

-- ---- statements
-- each expression is made over what is known there: what was known before, and the results of earlier statements
abbrev pub AreMadeStatements : Settings → Named → List Statement → Type 0
AreMadeStatements p known [] = Unit {0}
AreMadeStatements p known (s ∷ rest) = IsMade p known s.node × AreMadeStatements p ((s.result, structure_of s.node) ∷ known) rest
