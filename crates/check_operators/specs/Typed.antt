-- Typed expressions: values and data sets.
use Rattle.std.specs.Prelude.{not, List, [], ◌∷◌, Result, Ok, Err, Box, Vec, map}
use Rattle.std.specs.declared.alloc.Global.{Global}
use Rattle.vtl_cell.specs.ScalarKinds.{meets}
use Rattle.vtl_cell.specs.declared.kind.Kind.{Kind}
use Rattle.vtl_cell.specs.declared.kind.Kind.TheVariants as k
use Rattle.vtl_tree.specs.CompExp.{CompExp}
use Rattle.vtl_tree.specs.View.{comp_exp_of}
use Rattle.vtl_tree.specs.declared.structure.Component.{Component}
use Rattle.vtl_tree.specs.declared.structure.Structure.{Structure}
use Rattle.vtl_tree.specs.Trees.{FormTree, NodeTree, node, structure_of}
use Rattle.vtl_tree.specs.NodeView.{node_tree}
use Rattle.vtl_tree.specs.declared.nodes.Node.{Node}
use Rattle.vtl_lists.specs.Results.{◌>>=◌}
use Rattle.check_faults.specs.Rules.{ruled}
use Rattle.check_faults.specs.declared.rules.Rule.{Rule}
use Rattle.check_faults.specs.declared.rules.Rule.TheVariants as rule
use Rattle.vtl_tree.specs.Measures.{measures}
use Rattle.vtl_tree.specs.Kinds.{exp_kind}
use Rattle.check_operators.specs.declared.typed.Typed.{Typed}
use Rattle.check_operators.specs.declared.typed.Typed.TheVariants as typed

-- a typed expression: a value, at each point or on its own, or a data set
pub data TypedTree : Type 0 where
  value : CompExp → TypedTree
  dataset : NodeTree → TypedTree

abbrev pub typed_tree : Typed → TypedTree
typed_tree (typed.Value e) = value (comp_exp_of e)
typed_tree (typed.Dataset n) = dataset (node_tree n.value)

abbrev pub boxed_tree : Box Node Global → NodeTree
boxed_tree b = node_tree b.value

abbrev pub typed_trees : Vec Typed Global → List TypedTree
typed_trees v = map typed_tree v.items

abbrev pub components_in : NodeTree → List Component
components_in n = (structure_of n).components

-- where a value is needed a data set breaks `DatasetOrValue`, and where a data set is needed a value does
abbrev pub value_in : TypedTree → Result CompExp Rule
value_in (value e) = Ok e
value_in (dataset n) = Err rule.DatasetOrValue

abbrev pub dataset_in : TypedTree → Result NodeTree Rule
dataset_in (value e) = Err rule.DatasetOrValue
dataset_in (dataset n) = Ok n

-- a condition is a boolean value
abbrev pub condition_in : TypedTree → Result CompExp Rule
condition_in x = value_in x >>= λ e. ruled ((rule.WrongKind, not (meets k.Bool (exp_kind e))) ∷ []) e

-- the kinds of which literals beside an operand have to be: that of the value, or those of all measures
abbrev pub measure_kinds : List Component → List Kind
measure_kinds xs = map (λ x. x.kind) (measures xs)

abbrev pub beside_kinds : TypedTree → List Kind
beside_kinds (value e) = exp_kind e ∷ []
beside_kinds (dataset n) = measure_kinds (components_in n)

-- a data set of this structure, made so
abbrev pub made_of : FormTree → Structure → Result TypedTree Rule
made_of form s = Ok (dataset (node s form))

abbrev pub of_value : CompExp → Result TypedTree Rule
of_value e = Ok (value e)
