-- The meaning of typed expressions and of statements over an environment of data sets.
use Rattle.std.specs.Prelude.{ℕ, Bool, cond, List, [], ◌∷◌, Option, None, Some, Result, Ok, Err}
use Rattle.std.specs.List.{AllByRecursion}
use Rattle.vtl_decimal.specs.Settings.{Settings}
use Rattle.vtl_cell.specs.Row.{Row}
use Rattle.vtl_decimal.specs.declared.number.Fault.{Fault}
use Rattle.vtl_cell.specs.Outcome.{Outcome, after}
use Rattle.vtl_tree.specs.Clauses.{filter_of}
use Rattle.vtl_tree.specs.DataSet.{IsDataSet}
use Rattle.vtl_tree.specs.Environment.{DataSet, Environment, points_named}
use Rattle.vtl_tree.specs.declared.structure.Structure.{Structure}
use Rattle.vtl_tree.specs.Trees as nodes
use Rattle.vtl_tree.specs.Trees.{FormTree, MaybeNode, NodeTree, NodeTrees, OperandTrees, structure_of}
use Rattle.vtl_meaning.specs.Aggregates.{aggregate_of}
use Rattle.vtl_meaning.specs.Analytics.{analytic_of}
use Rattle.vtl_meaning.specs.Joined.{join_of}
use Rattle.vtl_meaning.specs.Operators.{calculated_of, choice_of, left_of, measured_of, pair_of, sub_of}
use Rattle.vtl_meaning.specs.Points.{with_points}
use Rattle.vtl_meaning.specs.Sets.{difference_of, existence_of, intersection_of, symmetric_difference_of, union_of}
use Rattle.vtl_meaning.specs.Turned.{pivot_of, unpivot_of}
use Rattle.vtl_rulings.specs.Hierarchies.{hierarchy_of}
use Rattle.vtl_rulings.specs.HierarchyChecks.{check_hierarchy_of, ruled_by}
use Rattle.vtl_rulings.specs.PointChecks.{check_of, datapoint_of}
use Rattle.vtl_timing.specs.Timed.{timed_of}

-- each data set of an environment is one
abbrev pub AreDataSets : Environment → Type 0
AreDataSets env = AllByRecursion (λ d. IsDataSet d.1.structure d.1.points) env

-- what comes of the data set that an operand gives, or its fault
abbrev pub with_operand : NodeTree → Outcome (List Row) → (DataSet → Outcome (List Row)) → Outcome (List Row)
with_operand a m f = after m (λ points. f (with_points (structure_of a) points))

-- the data set that the first of several operands gives, and those of the others, or the first fault
abbrev pub with_first : NodeTree → Outcome (List Row) → Outcome (List DataSet) → Outcome (List DataSet)
with_first a m rest = after m (λ points. after rest (λ ds. Ok (with_points (structure_of a) points ∷ ds)))

-- The points of an expression, or the fault of the first of its parts that has one: operands before operators, from left to right.
-- Each form has its line, so that no new one is passed over.
abbrev mutual
  pub node_value : Settings → Environment → NodeTree → Outcome (List Row)
  node_value p env (nodes.node s form) = form_value p env s form

  pub form_value : Settings → Environment → Structure → FormTree → Outcome (List Row)
  form_value p env s (nodes.named name) = Ok (points_named name env)
  form_value p env s (nodes.measures m a) = with_operand a (node_value p env a) (λ d. measured_of p m d s)
  form_value p env s (nodes.pair o a b) = with_operand a (node_value p env a) (λ d. with_operand b (node_value p env b) (λ e. pair_of p o d e s))
  form_value p env s (nodes.choose t a b) = with_operand t (node_value p env t) (λ tests. with_operand a (node_value p env a) (λ d. with_operand b (node_value p env b) (λ e. Ok (choice_of tests d e s))))
  form_value p env s (nodes.member a m) = with_operand a (node_value p env a) (λ d. Ok (left_of d s))
  form_value p env s (nodes.filter a e) = after (node_value p env a) (filter_of p e)
  form_value p env s (nodes.calc a items) = with_operand a (node_value p env a) (λ d. calculated_of p items d s)
  form_value p env s (nodes.keep a names) = with_operand a (node_value p env a) (λ d. Ok (left_of d s))
  form_value p env s (nodes.drop_named a names) = with_operand a (node_value p env a) (λ d. Ok (left_of d s))
  form_value p env s (nodes.rename a pairs) = node_value p env a
  form_value p env s (nodes.sub a items) = with_operand a (node_value p env a) (λ d. Ok (sub_of items d s))
  form_value p env s (nodes.pivot a id m) = with_operand a (node_value p env a) (λ d. Ok (pivot_of d id m))
  form_value p env s (nodes.unpivot a id m) = with_operand a (node_value p env a) (λ d. Ok (unpivot_of d))
  form_value p env s (nodes.join os spec) = after (operands_value p env os) (λ ds. Ok (join_of spec.kind ds))
  form_value p env s (nodes.union ns) = after (nodes_value p env ns) (λ ds. Ok (union_of ds s))
  form_value p env s (nodes.intersect ns) = after (nodes_value p env ns) (λ ds. Ok (intersection_of ds s))
  form_value p env s (nodes.set_diff a b) = with_operand a (node_value p env a) (λ d. with_operand b (node_value p env b) (λ e. Ok (difference_of d e s)))
  form_value p env s (nodes.sym_diff a b) = with_operand a (node_value p env a) (λ d. with_operand b (node_value p env b) (λ e. Ok (symmetric_difference_of d e s)))
  form_value p env s (nodes.exists_in a b r) = with_operand a (node_value p env a) (λ d. with_operand b (node_value p env b) (λ e. Ok (existence_of d e r)))
  form_value p env s (nodes.aggregate a spec) = with_operand a (node_value p env a) (λ d. aggregate_of p spec d s)
  form_value p env s (nodes.analytic_of a spec) = with_operand a (node_value p env a) (λ d. analytic_of p spec d s)
  form_value p env s (nodes.time a o) = with_operand a (node_value p env a) (λ d. timed_of p o d s)
  form_value p env s (nodes.check a i spec) = with_operand a (node_value p env a) (λ d. after (maybe_value p env i) (λ e. Ok (check_of p spec d e)))
  form_value p env s (nodes.check_datapoint a rules out) = with_operand a (node_value p env a) (λ d. datapoint_of p out rules.rules d)
  form_value p env s (nodes.check_hierarchy a rules m out) = with_operand a (node_value p env a) (λ d. check_hierarchy_of p out (ruled_by rules (structure_of a)) m d rules.rules)
  form_value p env s (nodes.hierarchy a rules m i out) = with_operand a (node_value p env a) (λ d. hierarchy_of p (ruled_by rules (structure_of a)) m i rules.rules d out s)

  -- the data sets of several expressions, or the fault of the first that has one
  pub nodes_value : Settings → Environment → NodeTrees → Outcome (List DataSet)
  nodes_value p env nodes.no_nodes = Ok []
  nodes_value p env (nodes.and_node n ns) = with_first n (node_value p env n) (nodes_value p env ns)

  -- the data set of an expression that may be left out
  pub maybe_value : Settings → Environment → MaybeNode → Outcome (Option DataSet)
  maybe_value p env nodes.no_node = Ok None
  maybe_value p env (nodes.some_node n) = after (node_value p env n) (λ points. Ok (Some (with_points (structure_of n) points)))

  pub operands_value : Settings → Environment → OperandTrees → Outcome (List DataSet)
  operands_value p env nodes.no_operands = Ok []
  operands_value p env (nodes.operand n alias os) = with_first n (node_value p env n) (operands_value p env os)

-- the data set of an expression, or its fault
abbrev pub data_set_of : Settings → Environment → NodeTree → Outcome DataSet
data_set_of p env n = after (node_value p env n) (λ points. Ok (with_points (structure_of n) points))

-- a statement: the name of its result, whether the result is written, and what it is
pub record Statement : Type 0 where
  pub result : List ℕ
  pub persistent : Bool
  pub node : NodeTree

-- results by name, in order
abbrev pub Outputs : Type 0
Outputs = List (List ℕ × DataSet)

abbrev pub with_output : List ℕ → DataSet → Result Outputs (Fault × List ℕ) → Result Outputs (Fault × List ℕ)
with_output name d (Ok out) = Ok ((name, d) ∷ out)
with_output name d (Err f) = Err f

-- a result among the outputs, where it is written
abbrev pub kept_output : Statement → DataSet → Result Outputs (Fault × List ℕ) → Result Outputs (Fault × List ℕ)
kept_output s d rest = cond s.persistent (with_output s.result d rest) rest

-- how a statement's value goes into the results: the fault with the result's name, or what follows with one more data set
abbrev pub stated : Statement → Outcome DataSet → (DataSet → Result Outputs (Fault × List ℕ)) → Result Outputs (Fault × List ℕ)
stated s (Ok d) rest = kept_output s d (rest d)
stated s (Err f) rest = Err (f, s.result)

-- The results that are written, in order, or the first fault with the name of its statement's result. All statements are evaluated.
abbrev pub meaning : Settings → List Statement → Environment → Result Outputs (Fault × List ℕ)
meaning p [] env = Ok []
meaning p (s ∷ rest) env = stated s (data_set_of p env s.node) (λ d. meaning p rest ((s.result, d) ∷ env))
