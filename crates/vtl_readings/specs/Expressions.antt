-- What an expression gives: the points of its operands, from left to right, and then those of its operator. The first part that has a
-- fault gives it to the whole.
use Rattle.std.specs.Prelude.{List, [], ◌∷◌, Option, None, Some, Ok, Err}
use Rattle.vtl_decimal.specs.Settings.{Settings}
use Rattle.vtl_cell.specs.Outcome.{Outcome}
use Rattle.vtl_cell.specs.Row.{Row}
use Rattle.vtl_tree.specs.Clauses.{filter_of}
use Rattle.vtl_tree.specs.Environment.{DataSet, Environment, points_named}
use Rattle.vtl_tree.specs.declared.structure.Structure.{Structure}
use Rattle.vtl_tree.specs.Trees as nodes
use Rattle.vtl_tree.specs.Trees.{FormTree, MaybeNode, NodeTree, NodeTrees, OperandTrees}
use Rattle.vtl_meaning.specs.Aggregates.{aggregate_of}
use Rattle.vtl_meaning.specs.Analytics.{analytic_of}
use Rattle.vtl_meaning.specs.Joined.{join_of}
use Rattle.vtl_meaning.specs.Operators.{calculated_of, choice_of, left_of, measured_of, pair_of, sub_of}
use Rattle.vtl_meaning.specs.Points.{with_points}
use Rattle.vtl_meaning.specs.Sets.{difference_of, existence_of, intersection_of, symmetric_difference_of, union_of}
use Rattle.vtl_meaning.specs.Turned.{pivot_of, unpivot_of}
use Rattle.vtl_rulings.specs.Hierarchies.{hierarchy_of}
use Rattle.vtl_rulings.specs.HierarchyChecks.{check_hierarchy_of, ruled_by}
use Rattle.vtl_rulings.specs.PointChecks.{check_of, datapoint_of}
use Rattle.vtl_timing.specs.Timed.{timed_of}

-- ---- operands before operators
-- what an operator gives of one data set, of both, of three or of all, unless one of them has a fault
abbrev pub one : Outcome DataSet → (DataSet → Outcome (List Row)) → Outcome (List Row)
one (Ok d) points = points d
one (Err f) points = Err f

abbrev pub both : Outcome DataSet → Outcome DataSet → (DataSet → DataSet → Outcome (List Row)) → Outcome (List Row)
both (Ok d) e points = one e (points d)
both (Err f) e points = Err f

abbrev pub three : (condition first second : Outcome DataSet) → (DataSet → DataSet → DataSet → Outcome (List Row)) → Outcome (List Row)
three (Ok t) d e points = both d e (points t)
three (Err f) d e points = Err f

abbrev pub all : Outcome (List DataSet) → (List DataSet → Outcome (List Row)) → Outcome (List Row)
all (Ok ds) points = points ds
all (Err f) points = Err f

-- what it gives of a data set and of another one, which may be left out
abbrev pub there : Outcome DataSet → Outcome (Option DataSet)
there (Ok d) = Ok (Some d)
there (Err f) = Err f

abbrev pub with_other : Outcome DataSet → Outcome (Option DataSet) → (DataSet → Option DataSet → Outcome (List Row)) → Outcome (List Row)
with_other (Ok d) (Ok e) points = points d e
with_other (Ok d) (Err f) points = Err f
with_other (Err f) e points = Err f

-- a data set and those behind it, or the first fault
abbrev pub followed_by : Outcome DataSet → Outcome (List DataSet) → Outcome (List DataSet)
followed_by (Ok d) (Ok ds) = Ok (d ∷ ds)
followed_by (Ok d) (Err f) = Err f
followed_by (Err f) rest = Err f

-- the data set of these points
abbrev pub of_structure : Structure → Outcome (List Row) → Outcome DataSet
of_structure s (Ok points) = Ok (with_points s points)
of_structure s (Err f) = Err f

-- ---- expressions
abbrev mutual
  -- the data set that an expression gives
  pub given : Settings → Environment → NodeTree → Outcome DataSet
  given p env (nodes.node s form) = of_structure s (points_of p env s form)

  -- its points, where `s` is its structure
  pub points_of : Settings → Environment → Structure → FormTree → Outcome (List Row)
  points_of p env s (nodes.named name) = Ok (points_named name env)
  points_of p env s (nodes.measures m a) = one (given p env a) (λ d. measured_of p m d s)
  points_of p env s (nodes.pair o a b) = both (given p env a) (given p env b) (λ d e. pair_of p o d e s)
  points_of p env s (nodes.choose t a b) = three (given p env t) (given p env a) (given p env b) (λ tests d e. Ok (choice_of tests d e s))
  points_of p env s (nodes.member a m) = one (given p env a) (λ d. Ok (left_of d s))
  points_of p env s (nodes.filter a condition) = one (given p env a) (λ d. filter_of p condition d.points)
  points_of p env s (nodes.calc a items) = one (given p env a) (λ d. calculated_of p items d s)
  points_of p env s (nodes.keep a names) = one (given p env a) (λ d. Ok (left_of d s))
  points_of p env s (nodes.drop_named a names) = one (given p env a) (λ d. Ok (left_of d s))
  points_of p env s (nodes.rename a pairs) = one (given p env a) (λ d. Ok d.points)
  points_of p env s (nodes.sub a items) = one (given p env a) (λ d. Ok (sub_of items d s))
  points_of p env s (nodes.pivot a id m) = one (given p env a) (λ d. Ok (pivot_of d id m))
  points_of p env s (nodes.unpivot a id m) = one (given p env a) (λ d. Ok (unpivot_of d))
  points_of p env s (nodes.join os spec) = all (given_operands p env os) (λ ds. Ok (join_of spec.kind ds))
  points_of p env s (nodes.union ns) = all (given_each p env ns) (λ ds. Ok (union_of ds s))
  points_of p env s (nodes.intersect ns) = all (given_each p env ns) (λ ds. Ok (intersection_of ds s))
  points_of p env s (nodes.set_diff a b) = both (given p env a) (given p env b) (λ d e. Ok (difference_of d e s))
  points_of p env s (nodes.sym_diff a b) = both (given p env a) (given p env b) (λ d e. Ok (symmetric_difference_of d e s))
  points_of p env s (nodes.exists_in a b retain) = both (given p env a) (given p env b) (λ d e. Ok (existence_of d e retain))
  points_of p env s (nodes.aggregate a spec) = one (given p env a) (λ d. aggregate_of p spec d s)
  points_of p env s (nodes.analytic_of a spec) = one (given p env a) (λ d. analytic_of p spec d s)
  points_of p env s (nodes.time a o) = one (given p env a) (λ d. timed_of p o d s)
  points_of p env s (nodes.check a imbalance spec) = with_other (given p env a) (given_maybe p env imbalance) (λ d e. Ok (check_of p spec d e))
  points_of p env s (nodes.check_datapoint a rules output) = one (given p env a) (λ d. datapoint_of p output rules.rules d)
  points_of p env s (nodes.check_hierarchy a rules mode output) = one (given p env a) (λ d. check_hierarchy_of p output (ruled_by rules d.structure) mode d rules.rules)
  points_of p env s (nodes.hierarchy a rules mode input output) = one (given p env a) (λ d. hierarchy_of p (ruled_by rules d.structure) mode input rules.rules d output s)

  -- the data set of an expression that may be left out
  pub given_maybe : Settings → Environment → MaybeNode → Outcome (Option DataSet)
  given_maybe p env nodes.no_node = Ok None
  given_maybe p env (nodes.some_node n) = there (given p env n)

  -- those that several expressions give
  pub given_each : Settings → Environment → NodeTrees → Outcome (List DataSet)
  given_each p env nodes.no_nodes = Ok []
  given_each p env (nodes.and_node n ns) = followed_by (given p env n) (given_each p env ns)

  pub given_operands : Settings → Environment → OperandTrees → Outcome (List DataSet)
  given_operands p env nodes.no_operands = Ok []
  given_operands p env (nodes.operand n alias os) = followed_by (given p env n) (given_operands p env os)
