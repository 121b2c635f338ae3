-- What an expression gives depends only on the points of the data sets that it reads.
use Rattle.std.proofs.Common.{◌≡◌, ℕ, List, [], ◌++◌, Option, Some, Ok, refl, ap, subst, ◌∙◌}
use Rattle.std.specs.List.{AllByRecursion}
use Rattle.std.specs.Option.{option_map_or}
use Rattle.vtl_lists.proofs.Alls.{all_back, all_front, all_more}
use Rattle.vtl_decimal.specs.Settings.{Settings}
use Rattle.vtl_cell.specs.Outcome.{Outcome, after}
use Rattle.vtl_cell.specs.Row.{Row}
use Rattle.vtl_tree.specs.Clauses.{filter_of}
use Rattle.vtl_tree.specs.Environment.{DataSet, Environment, data_of, points_named}
use Rattle.vtl_tree.specs.Nodes.{all_nodes, form_nodes, maybe_nodes, nodes_in, operand_nodes}
use Rattle.vtl_tree.specs.declared.structure.Structure.{Structure}
use Rattle.vtl_tree.specs.Trees as nodes
use Rattle.vtl_tree.specs.Trees.{FormTree, MaybeNode, NodeTree, NodeTrees, OperandTrees, structure_of}
use Rattle.vtl_check.proofs.NameLemmas.{names_append}
use Rattle.vtl_check.specs.Names.{name_at_form, names_at, names_in}
use Rattle.vtl_meaning.specs.Aggregates.{aggregate_of}
use Rattle.vtl_meaning.specs.Analytics.{analytic_of}
use Rattle.vtl_meaning.specs.Joined.{join_of}
use Rattle.vtl_meaning.specs.Operators.{calculated_of, choice_of, left_of, measured_of, pair_of, sub_of}
use Rattle.vtl_meaning.specs.Points.{with_points}
use Rattle.vtl_meaning.specs.Sets.{difference_of, existence_of, intersection_of, symmetric_difference_of, union_of}
use Rattle.vtl_meaning.specs.Turned.{pivot_of, unpivot_of}
use Rattle.vtl_rulings.specs.Hierarchies.{hierarchy_of}
use Rattle.vtl_rulings.specs.HierarchyChecks.{check_hierarchy_of, ruled_by}
use Rattle.vtl_rulings.specs.PointChecks.{check_of, datapoint_of}
use Rattle.vtl_timing.specs.Timed.{timed_of}
use Rattle.vtl_scripts.specs.Meaning.{data_set_of, form_value, maybe_value, node_value, nodes_value, operands_value, with_first, with_operand}

-- ---- names have the same points
abbrev SamePoints : Environment → Environment → List (List ℕ) → Type 0
SamePoints e f names = AllByRecursion (λ name. points_named name e ≡ points_named name f) names

-- of the names of nodes that stand before others, and behind
points_parts : (e f : Environment) (xs ys : List NodeTree) → SamePoints e f (names_at (xs ++ ys)) → SamePoints e f (names_at xs) × SamePoints e f (names_at ys)
points_parts e f xs ys h =
    let parts : SamePoints e f (names_at xs ++ names_at ys) = subst (SamePoints e f) (names_append xs ys) h in
    (all_front (λ name. points_named name e ≡ points_named name f) (names_at xs) (names_at ys) parts, all_back (λ name. points_named name e ≡ points_named name f) (names_at xs) (names_at ys) parts)

-- ---- the value of an expression
-- of an operator between two
pair_same : (a b : NodeTree) (op : DataSet → DataSet → Outcome (List Row)) (l m : Outcome (List Row)) (q r : Outcome (List Row)) → l ≡ m → q ≡ r → with_operand a l (λ d. with_operand b q (op d)) ≡ with_operand a m (λ d. with_operand b r (op d))
pair_same a b op l m q r same too = ap (λ x. with_operand a x (λ d. with_operand b q (op d))) same ∙ ap (λ x. with_operand a m (λ d. with_operand b x (op d))) too

mutual
  pub node_same : (p : Settings) (e f : Environment) (n : NodeTree) → SamePoints e f (names_in n) → node_value p e n ≡ node_value p f n
  node_same p e f (nodes.node s form) h = form_same p e f s form h

  form_same : (p : Settings) (e f : Environment) (s : Structure) (form : FormTree) → SamePoints e f (name_at_form form ++ names_at (form_nodes form)) → form_value p e s form ≡ form_value p f s form
  form_same p e f s (nodes.named name) h = ap (λ (points : List Row). Ok points) h.0
  form_same p e f s (nodes.measures m a) h = ap (λ r. with_operand a r (λ d. measured_of p m d s)) (node_same p e f a h)
  form_same p e f s (nodes.pair o a b) h =
      let parts = points_parts e f (nodes_in a) (nodes_in b) h in
      pair_same a b (λ d q. pair_of p o d q s) (node_value p e a) (node_value p f a) (node_value p e b) (node_value p f b) (node_same p e f a parts.0) (node_same p e f b parts.1)
  form_same p e f s (nodes.choose t a b) h =
      let parts = points_parts e f (nodes_in t) (nodes_in a ++ nodes_in b) h in
      let more = points_parts e f (nodes_in a) (nodes_in b) parts.1 in
      ap (λ r. with_operand t r (λ tests. with_operand a (node_value p e a) (λ d. with_operand b (node_value p e b) (λ q. Ok (choice_of tests d q s))))) (node_same p e f t parts.0)
      ∙ ap (λ r. with_operand t (node_value p f t) (λ tests. with_operand a r (λ d. with_operand b (node_value p e b) (λ q. Ok (choice_of tests d q s))))) (node_same p e f a more.0)
      ∙ ap (λ r. with_operand t (node_value p f t) (λ tests. with_operand a (node_value p f a) (λ d. with_operand b r (λ q. Ok (choice_of tests d q s))))) (node_same p e f b more.1)
  form_same p e f s (nodes.member a m) h = ap (λ r. with_operand a r (λ d. Ok (left_of d s))) (node_same p e f a h)
  form_same p e f s (nodes.filter a c) h = ap (λ r. after r (filter_of p c)) (node_same p e f a h)
  form_same p e f s (nodes.calc a items) h = ap (λ r. with_operand a r (λ d. calculated_of p items d s)) (node_same p e f a h)
  form_same p e f s (nodes.keep a names) h = ap (λ r. with_operand a r (λ d. Ok (left_of d s))) (node_same p e f a h)
  form_same p e f s (nodes.drop_named a names) h = ap (λ r. with_operand a r (λ d. Ok (left_of d s))) (node_same p e f a h)
  form_same p e f s (nodes.rename a pairs) h = node_same p e f a h
  form_same p e f s (nodes.sub a items) h = ap (λ r. with_operand a r (λ d. Ok (sub_of items d s))) (node_same p e f a h)
  form_same p e f s (nodes.pivot a id m) h = ap (λ r. with_operand a r (λ d. Ok (pivot_of d id m))) (node_same p e f a h)
  form_same p e f s (nodes.unpivot a id m) h = ap (λ r. with_operand a r (λ d. Ok (unpivot_of d))) (node_same p e f a h)
  form_same p e f s (nodes.aggregate a spec) h = ap (λ r. with_operand a r (λ d. aggregate_of p spec d s)) (node_same p e f a h)
  form_same p e f s (nodes.analytic_of a spec) h = ap (λ r. with_operand a r (λ d. analytic_of p spec d s)) (node_same p e f a h)
  form_same p e f s (nodes.time a op) h = ap (λ r. with_operand a r (λ d. timed_of p op d s)) (node_same p e f a h)
  form_same p e f s (nodes.join os spec) h = ap (λ r. after r (λ ds. Ok (join_of spec.kind ds))) (operands_same p e f os h)
  form_same p e f s (nodes.union ns) h = ap (λ r. after r (λ ds. Ok (union_of ds s))) (nodes_same p e f ns h)
  form_same p e f s (nodes.intersect ns) h = ap (λ r. after r (λ ds. Ok (intersection_of ds s))) (nodes_same p e f ns h)
  form_same p e f s (nodes.set_diff a b) h =
      let parts = points_parts e f (nodes_in a) (nodes_in b) h in
      pair_same a b (λ d q. Ok (difference_of d q s)) (node_value p e a) (node_value p f a) (node_value p e b) (node_value p f b) (node_same p e f a parts.0) (node_same p e f b parts.1)
  form_same p e f s (nodes.sym_diff a b) h =
      let parts = points_parts e f (nodes_in a) (nodes_in b) h in
      pair_same a b (λ d q. Ok (symmetric_difference_of d q s)) (node_value p e a) (node_value p f a) (node_value p e b) (node_value p f b) (node_same p e f a parts.0) (node_same p e f b parts.1)
  form_same p e f s (nodes.exists_in a b r) h =
      let parts = points_parts e f (nodes_in a) (nodes_in b) h in
      pair_same a b (λ d q. Ok (existence_of d q r)) (node_value p e a) (node_value p f a) (node_value p e b) (node_value p f b) (node_same p e f a parts.0) (node_same p e f b parts.1)
  form_same p e f s (nodes.check a i spec) h =
      let parts = points_parts e f (nodes_in a) (maybe_nodes i) h in
      ap (λ r. with_operand a r (λ d. after (maybe_value p e i) (λ b. Ok (check_of p spec d b)))) (node_same p e f a parts.0)
      ∙ ap (λ (r : Outcome (Option DataSet)). with_operand a (node_value p f a) (λ d. after r (λ b. Ok (check_of p spec d b)))) (maybe_same p e f i parts.1)
  form_same p e f s (nodes.check_datapoint a rs out) h = ap (λ r. with_operand a r (λ d. datapoint_of p out rs.rules d)) (node_same p e f a h)
  form_same p e f s (nodes.check_hierarchy a rs m out) h = ap (λ r. with_operand a r (λ d. check_hierarchy_of p out (ruled_by rs (structure_of a)) m d rs.rules)) (node_same p e f a h)
  form_same p e f s (nodes.hierarchy a rs m i out) h = ap (λ r. with_operand a r (λ d. hierarchy_of p (ruled_by rs (structure_of a)) m i rs.rules d out s)) (node_same p e f a h)

  maybe_same : (p : Settings) (e f : Environment) (i : MaybeNode) → SamePoints e f (names_at (maybe_nodes i)) → maybe_value p e i ≡ maybe_value p f i
  maybe_same p e f nodes.no_node h = refl
  maybe_same p e f (nodes.some_node n) h = ap (λ r. after r (λ points. Ok (Some (with_points (structure_of n) points)))) (node_same p e f n h)

  nodes_same : (p : Settings) (e f : Environment) (ns : NodeTrees) → SamePoints e f (names_at (all_nodes ns)) → nodes_value p e ns ≡ nodes_value p f ns
  nodes_same p e f nodes.no_nodes h = refl
  nodes_same p e f (nodes.and_node n ns) h =
      let parts = points_parts e f (nodes_in n) (all_nodes ns) h in
      ap (λ r. with_first n r (nodes_value p e ns)) (node_same p e f n parts.0) ∙ ap (with_first n (node_value p f n)) (nodes_same p e f ns parts.1)

  operands_same : (p : Settings) (e f : Environment) (os : OperandTrees) → SamePoints e f (names_at (operand_nodes os)) → operands_value p e os ≡ operands_value p f os
  operands_same p e f nodes.no_operands h = refl
  operands_same p e f (nodes.operand n alias os) h =
      let parts = points_parts e f (nodes_in n) (operand_nodes os) h in
      ap (λ r. with_first n r (operands_value p e os)) (node_same p e f n parts.0) ∙ ap (with_first n (node_value p f n)) (operands_same p e f os parts.1)

-- the data set of an expression over data sets that are the same under each name that it reads
pub data_set_same : (p : Settings) (e f : Environment) (n : NodeTree) → AllByRecursion (λ name. data_of name e ≡ data_of name f) (names_in n) → data_set_of p e n ≡ data_set_of p f n
data_set_same p e f n h =
    ap (λ (r : Outcome (List Row)). after r (λ points. Ok (with_points (structure_of n) points)))
    (node_same p e f n (all_more (λ name. data_of name e ≡ data_of name f) (λ name. points_named name e ≡ points_named name f) (λ name same. ap (λ (o : Option DataSet). option_map_or (λ d. d.points) o []) same) (names_in n) h))
