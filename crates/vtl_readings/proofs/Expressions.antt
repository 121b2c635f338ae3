-- What an expression gives by its operands is its value.
use Rattle.std.proofs.Common.{◌≡◌, List, Option, Some, Ok, Err, refl, ap, ◌∙◌}
use Rattle.vtl_decimal.specs.Settings.{Settings}
use Rattle.vtl_cell.specs.Outcome.{Outcome, after}
use Rattle.vtl_cell.specs.Row.{Row}
use Rattle.vtl_tree.specs.Clauses.{filter_of}
use Rattle.vtl_tree.specs.Environment.{DataSet, Environment}
use Rattle.vtl_tree.specs.declared.structure.Structure.{Structure}
use Rattle.vtl_tree.specs.Trees as nodes
use Rattle.vtl_tree.specs.Trees.{FormTree, MaybeNode, NodeTree, NodeTrees, OperandTrees, structure_of}
use Rattle.vtl_meaning.specs.Aggregates.{aggregate_of}
use Rattle.vtl_meaning.specs.Analytics.{analytic_of}
use Rattle.vtl_meaning.specs.Joined.{join_of}
use Rattle.vtl_scripts.specs.Meaning.{data_set_of, form_value, maybe_value, node_value, nodes_value, operands_value, with_first, with_operand}
use Rattle.vtl_meaning.specs.Operators.{calculated_of, choice_of, left_of, measured_of, pair_of, sub_of}
use Rattle.vtl_meaning.specs.Points.{with_points}
use Rattle.vtl_meaning.specs.Sets.{difference_of, existence_of, intersection_of, symmetric_difference_of, union_of}
use Rattle.vtl_meaning.specs.Turned.{pivot_of, unpivot_of}
use Rattle.vtl_rulings.specs.Hierarchies.{hierarchy_of}
use Rattle.vtl_rulings.specs.HierarchyChecks.{check_hierarchy_of, ruled_by}
use Rattle.vtl_rulings.specs.PointChecks.{check_of, datapoint_of}
use Rattle.vtl_timing.specs.Timed.{timed_of}
use Rattle.vtl_readings.specs.Expressions.{all, both, followed_by, given, given_each, given_maybe, given_operands, of_structure, one, points_of, there, three, with_other}

-- the data set of an operand whose points are given
abbrev Operand : NodeTree → Outcome (List Row) → Outcome DataSet
Operand a m = after m (λ points. Ok (with_points (structure_of a) points))

structured : (s : Structure) (m : Outcome (List Row)) → of_structure s m ≡ after m (λ points. Ok (with_points s points))
structured s (Ok points) = refl
structured s (Err f) = refl

-- ---- an operator on operands
of_one : (a : NodeTree) (m : Outcome (List Row)) (f : DataSet → Outcome (List Row)) → one (Operand a m) f ≡ with_operand a m f
of_one a (Ok points) f = refl
of_one a (Err e) f = refl

of_both : (a b : NodeTree) (m n : Outcome (List Row)) (f : DataSet → DataSet → Outcome (List Row)) → both (Operand a m) (Operand b n) f ≡ with_operand a m (λ d. with_operand b n (f d))
of_both a b (Ok points) n f = of_one b n (f (with_points (structure_of a) points))
of_both a b (Err e) n f = refl

of_three : (t a b : NodeTree) (k m n : Outcome (List Row)) (f : DataSet → DataSet → DataSet → Outcome (List Row)) → three (Operand t k) (Operand a m) (Operand b n) f ≡ with_operand t k (λ tests. with_operand a m (λ d. with_operand b n (f tests d)))
of_three t a b (Ok points) m n f = of_both a b m n (f (with_points (structure_of t) points))
of_three t a b (Err e) m n f = refl

of_all : (m : Outcome (List DataSet)) (f : List DataSet → Outcome (List Row)) → all m f ≡ after m f
of_all (Ok ds) f = refl
of_all (Err e) f = refl

of_first : (a : NodeTree) (m : Outcome (List Row)) (rest : Outcome (List DataSet)) → followed_by (Operand a m) rest ≡ with_first a m rest
of_first a (Ok points) (Ok ds) = refl
of_first a (Ok points) (Err e) = refl
of_first a (Err e) rest = refl

of_there : (a : NodeTree) (m : Outcome (List Row)) → there (Operand a m) ≡ after m (λ points. Ok (Some (with_points (structure_of a) points)))
of_there a (Ok points) = refl
of_there a (Err e) = refl

of_other : (a : NodeTree) (m : Outcome (List Row)) (n : Outcome (Option DataSet)) (f : DataSet → Option DataSet → Outcome (List Row)) → with_other (Operand a m) n f ≡ with_operand a m (λ d. after n (f d))
of_other a (Ok points) (Ok q) f = refl
of_other a (Ok points) (Err e) f = refl
of_other a (Err e) n f = refl

renamed : (a : NodeTree) (m : Outcome (List Row)) → one (Operand a m) (λ d. Ok d.points) ≡ m
renamed a (Ok points) = refl
renamed a (Err e) = refl

-- ---- the same, where the operands are those of expressions
module _ (p : Settings) (env : Environment) where
  first : (a : NodeTree) (f : DataSet → Outcome (List Row)) → given p env a ≡ data_set_of p env a → one (given p env a) f ≡ with_operand a (node_value p env a) f
  first a f e = ap (λ m. one m f) e ∙ of_one a (node_value p env a) f

  pair : (a b : NodeTree) (f : DataSet → DataSet → Outcome (List Row)) → given p env a ≡ data_set_of p env a → given p env b ≡ data_set_of p env b → both (given p env a) (given p env b) f ≡ with_operand a (node_value p env a) (λ d. with_operand b (node_value p env b) (f d))
  pair a b f e g = ap (λ m. both m (given p env b) f) e ∙ ap (λ n. both (data_set_of p env a) n f) g ∙ of_both a b (node_value p env a) (node_value p env b) f

  triple : (t a b : NodeTree) (f : DataSet → DataSet → DataSet → Outcome (List Row)) → given p env t ≡ data_set_of p env t → given p env a ≡ data_set_of p env a → given p env b ≡ data_set_of p env b
      → three (given p env t) (given p env a) (given p env b) f ≡ with_operand t (node_value p env t) (λ tests. with_operand a (node_value p env a) (λ d. with_operand b (node_value p env b) (f tests d)))
  triple t a b f h e g =
      ap (λ k. three k (given p env a) (given p env b) f) h ∙ ap (λ m. three (data_set_of p env t) m (given p env b) f) e ∙ ap (λ n. three (data_set_of p env t) (data_set_of p env a) n f) g
      ∙ of_three t a b (node_value p env t) (node_value p env a) (node_value p env b) f

  beside : (a : NodeTree) (m n : Outcome (Option DataSet)) (f : DataSet → Option DataSet → Outcome (List Row)) → given p env a ≡ data_set_of p env a → m ≡ n → with_other (given p env a) m f ≡ with_operand a (node_value p env a) (λ d. after n (f d))
  beside a m n f e g = ap (λ o. with_other o m f) e ∙ ap (λ o. with_other (data_set_of p env a) o f) g ∙ of_other a (node_value p env a) n f

  listed : (m n : Outcome (List DataSet)) (f : List DataSet → Outcome (List Row)) → m ≡ n → all m f ≡ after n f
  listed m n f e = ap (λ o. all o f) e ∙ of_all n f

  more : (a : NodeTree) (m n : Outcome (List DataSet)) → given p env a ≡ data_set_of p env a → m ≡ n → followed_by (given p env a) m ≡ with_first a (node_value p env a) n
  more a m n e g = ap (λ o. followed_by o m) e ∙ ap (followed_by (data_set_of p env a)) g ∙ of_first a (node_value p env a) n

mutual
  pub given_is : (p : Settings) (env : Environment) (n : NodeTree) → given p env n ≡ data_set_of p env n
  given_is p env (nodes.node s form) = ap (of_structure s) (points_are p env s form) ∙ structured s (form_value p env s form)

  pub points_are : (p : Settings) (env : Environment) (s : Structure) (form : FormTree) → points_of p env s form ≡ form_value p env s form
  points_are p env s (nodes.named name) = refl
  points_are p env s (nodes.measures m a) = first p env a (λ d. measured_of p m d s) (given_is p env a)
  points_are p env s (nodes.pair o a b) = pair p env a b (λ d e. pair_of p o d e s) (given_is p env a) (given_is p env b)
  points_are p env s (nodes.choose t a b) = triple p env t a b (λ tests d e. Ok (choice_of tests d e s)) (given_is p env t) (given_is p env a) (given_is p env b)
  points_are p env s (nodes.member a m) = first p env a (λ d. Ok (left_of d s)) (given_is p env a)
  points_are p env s (nodes.filter a condition) = first p env a (λ d. filter_of p condition d.points) (given_is p env a)
  points_are p env s (nodes.calc a items) = first p env a (λ d. calculated_of p items d s) (given_is p env a)
  points_are p env s (nodes.keep a names) = first p env a (λ d. Ok (left_of d s)) (given_is p env a)
  points_are p env s (nodes.drop_named a names) = first p env a (λ d. Ok (left_of d s)) (given_is p env a)
  points_are p env s (nodes.rename a pairs) = ap (λ m. one m (λ d. Ok d.points)) (given_is p env a) ∙ renamed a (node_value p env a)
  points_are p env s (nodes.sub a items) = first p env a (λ d. Ok (sub_of items d s)) (given_is p env a)
  points_are p env s (nodes.pivot a id m) = first p env a (λ d. Ok (pivot_of d id m)) (given_is p env a)
  points_are p env s (nodes.unpivot a id m) = first p env a (λ d. Ok (unpivot_of d)) (given_is p env a)
  points_are p env s (nodes.join os spec) = listed p env (given_operands p env os) (operands_value p env os) (λ ds. Ok (join_of spec.kind ds)) (operands_are p env os)
  points_are p env s (nodes.union ns) = listed p env (given_each p env ns) (nodes_value p env ns) (λ ds. Ok (union_of ds s)) (each_is p env ns)
  points_are p env s (nodes.intersect ns) = listed p env (given_each p env ns) (nodes_value p env ns) (λ ds. Ok (intersection_of ds s)) (each_is p env ns)
  points_are p env s (nodes.set_diff a b) = pair p env a b (λ d e. Ok (difference_of d e s)) (given_is p env a) (given_is p env b)
  points_are p env s (nodes.sym_diff a b) = pair p env a b (λ d e. Ok (symmetric_difference_of d e s)) (given_is p env a) (given_is p env b)
  points_are p env s (nodes.exists_in a b retain) = pair p env a b (λ d e. Ok (existence_of d e retain)) (given_is p env a) (given_is p env b)
  points_are p env s (nodes.aggregate a spec) = first p env a (λ d. aggregate_of p spec d s) (given_is p env a)
  points_are p env s (nodes.analytic_of a spec) = first p env a (λ d. analytic_of p spec d s) (given_is p env a)
  points_are p env s (nodes.time a o) = first p env a (λ d. timed_of p o d s) (given_is p env a)
  points_are p env s (nodes.check a m spec) = beside p env a (given_maybe p env m) (maybe_value p env m) (λ d e. Ok (check_of p spec d e)) (given_is p env a) (maybe_is p env m)
  points_are p env s (nodes.check_datapoint a rules o) = first p env a (λ d. datapoint_of p o rules.rules d) (given_is p env a)
  points_are p env s (nodes.check_hierarchy a rules m o) = first p env a (λ d. check_hierarchy_of p o (ruled_by rules d.structure) m d rules.rules) (given_is p env a)
  points_are p env s (nodes.hierarchy a rules m i o) = first p env a (λ d. hierarchy_of p (ruled_by rules d.structure) m i rules.rules d o s) (given_is p env a)

  maybe_is : (p : Settings) (env : Environment) (m : MaybeNode) → given_maybe p env m ≡ maybe_value p env m
  maybe_is p env nodes.no_node = refl
  maybe_is p env (nodes.some_node n) = ap there (given_is p env n) ∙ of_there n (node_value p env n)

  each_is : (p : Settings) (env : Environment) (ns : NodeTrees) → given_each p env ns ≡ nodes_value p env ns
  each_is p env nodes.no_nodes = refl
  each_is p env (nodes.and_node n ns) = more p env n (given_each p env ns) (nodes_value p env ns) (given_is p env n) (each_is p env ns)

  operands_are : (p : Settings) (env : Environment) (os : OperandTrees) → given_operands p env os ≡ operands_value p env os
  operands_are p env nodes.no_operands = refl
  operands_are p env (nodes.operand n alias os) = more p env n (given_operands p env os) (operands_value p env os) (given_is p env n) (operands_are p env os)
