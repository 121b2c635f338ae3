-- Expressions and scripts keep data sets.
use Rattle.std.proofs.Common.{◌≡◌, ℕ, Bool, true, false, cond, List, [], ◌∷◌, Option, None, Some, Ok, Err, Result, refl, sym, ap, subst, true≢false}
use Rattle.std.specs.Prelude.{IfOk, IfSome, option_map}
use Rattle.std.specs.Map.{lookup}
use Rattle.std.specs.Option.{option_map_or}
use Rattle.vtl_decimal.specs.Settings.{Settings}
use Rattle.vtl_decimal.specs.declared.number.Fault.{Fault}
use Rattle.vtl_cell.specs.Outcome.{Outcome, after}
use Rattle.vtl_cell.specs.Row.{Row}
use Rattle.vtl_tree.specs.Clauses.{filter_of}
use Rattle.vtl_tree.specs.DataSet.{IsDataSet}
use Rattle.vtl_tree.specs.Environment.{DataSet, Environment, data_of, known_in, points_named}
use Rattle.vtl_tree.specs.Structure.{same_name}
use Rattle.vtl_tree.specs.declared.structure.Structure.{Structure}
use Rattle.vtl_tree.specs.Trees as nodes
use Rattle.vtl_tree.specs.Trees.{FormTree, MaybeNode, NodeTree, NodeTrees, OperandTrees, structure_of}
use Rattle.vtl_tree.specs.Joins as joins
use Rattle.vtl_meaning.specs.Aggregates.{aggregate_of}
use Rattle.vtl_meaning.specs.Analytics.{analytic_of}
use Rattle.vtl_meaning.proofs.AnalyticPoints.{result_is as analytic_is}
use Rattle.vtl_meaning.proofs.GroupPoints.{result_is}
use Rattle.vtl_meaning.specs.Joined.{join_of, structures_of}
use Rattle.vtl_meaning.specs.Made.{AreCombined, IsJoined, IsLeft}
use Rattle.vtl_scripts.specs.Made.{AreMade, AreMadeOperands, AreMadeStatements, IsMade, IsMadeForm, IsMadeMaybe, maybe_structure, node_structures, operands_in}
use Rattle.vtl_scripts.specs.Meaning.{AreDataSets, Outputs, Statement, form_value, maybe_value, meaning, node_value, nodes_value, operands_value, stated, with_first, with_operand, with_output}
use Rattle.vtl_meaning.specs.Operators.{calculated_of, choice_of, left_of, measured_of, pair_of, sub_of}
use Rattle.vtl_meaning.specs.Points.{with_points}
use Rattle.vtl_meaning.specs.Sets.{difference_of, existence_of, intersection_of, symmetric_difference_of, union_of}
use Rattle.vtl_meaning.specs.Turned.{pivot_of, unpivot_of}
use Rattle.vtl_meaning.proofs.JoinKept.{join_kept}
use Rattle.vtl_meaning.proofs.JoinParts.{AreSets}
use Rattle.vtl_meaning.proofs.Kept.{after_ok, calculated_kept, choice_kept, filtered_kept, left_kept, measured_kept, ok_is, pair_kept, renamed_kept, sub_kept}
use Rattle.vtl_meaning.proofs.Places.{same_name-sym}
use Rattle.vtl_meaning.proofs.SetsKept.{difference_kept, existence_kept, intersection_kept, symmetric_difference_kept, union_kept}
use Rattle.vtl_meaning.proofs.TurnedKept.{pivot_kept, unpivot_kept}
use Rattle.vtl_rulings.specs.Hierarchies.{hierarchy_of}
use Rattle.vtl_rulings.specs.HierarchyChecks.{check_hierarchy_of, ruled_by}
use Rattle.vtl_rulings.specs.PointChecks.{check_of, datapoint_of}
use Rattle.vtl_rulings.specs.Shaped.{IsChecked}
use Rattle.vtl_rulings.proofs.ChecksKept.{check_kept}
use Rattle.vtl_rulings.proofs.HierarchiesKept.{check_hierarchy_kept}
use Rattle.vtl_rulings.proofs.HierarchiesMade.{hierarchy_kept}
use Rattle.vtl_rulings.proofs.PointsKept.{datapoint_kept}
use Rattle.vtl_timing.specs.Timed.{timed_of}
use Rattle.vtl_timing.proofs.Timed.{timed_kept}

-- what a node's data set gives, where it has one
pub operand_ok : (a : NodeTree) (m : Outcome (List Row)) (f : DataSet → Outcome (List Row)) (out : List Row) → with_operand a m f ≡ Ok out → (points : List Row) × (m ≡ Ok points) × (f (with_points (structure_of a) points) ≡ Ok out)
operand_ok a m f out e = after_ok m (λ points. f (with_points (structure_of a) points)) out e

-- ---- expressions
named_kept : (name : List ℕ) (s : Structure) (env : Environment) → lookup (same_name name) (known_in env) ≡ Some s → AreDataSets env → IsDataSet s (points_named name env)
named_kept name s [] e h = cc
named_kept name s (d ∷ env) e h = go (same_name name d.0) (same_name d.0 name) (same_name-sym name d.0) e (named_kept name s env)
  where
    go : (x y : Bool) → x ≡ y → cond x (Some d.1.structure) (lookup (same_name name) (known_in env)) ≡ Some s
        → (lookup (same_name name) (known_in env) ≡ Some s → AreDataSets env → IsDataSet s (points_named name env))
        → IsDataSet s (option_map_or (λ z. z.points) (cond y (Some d.1) (data_of name env)) [])
    go true true q f ih = let same : d.1.structure ≡ s = cc in subst (λ x. IsDataSet x d.1.points) same h.0
    go false false q f ih = ih f h.1
    go true false q f ih = absurd (true≢false q)
    go false true q f ih = absurd (true≢false (sym q))

left_given : (a : NodeTree) (s : Structure) (m : Outcome (List Row)) (out : List Row) → IsLeft (structure_of a) s → ((points : List Row) → m ≡ Ok points → IsDataSet (structure_of a) points) → with_operand a m (λ d. Ok (left_of d s)) ≡ Ok out → IsDataSet s out
left_given a s m out i h e =
    let x = operand_ok a m (λ d. Ok (left_of d s)) out e in
    let d = with_points (structure_of a) x.0 in
    subst (λ l. IsDataSet s l) (ok_is (left_of d s) out x.2) (left_kept d s i (h x.0 x.1))

-- the points of two operands
two_ok : (a c : NodeTree) (m n : Outcome (List Row)) (f : DataSet → DataSet → List Row) (out : List Row) → with_operand a m (λ d. with_operand c n (λ q. Ok (f d q))) ≡ Ok out → (d : List Row) × (q : List Row) × (m ≡ Ok d) × (n ≡ Ok q) × (f (with_points (structure_of a) d) (with_points (structure_of c) q) ≡ out)
two_ok a c m n f out e =
    let x = operand_ok a m (λ d. with_operand c n (λ q. Ok (f d q))) out e in
    let y = operand_ok c n (λ q. Ok (f (with_points (structure_of a) x.0) q)) out x.2 in
    (x.0, y.0, x.1, y.1, ok_is (f (with_points (structure_of a) x.0) (with_points (structure_of c) y.0)) out y.2)

-- the first of several operands, and the others
pub first_ok : (n : NodeTree) (m : Outcome (List Row)) (rest : Outcome (List DataSet)) (ds : List DataSet) → with_first n m rest ≡ Ok ds → (points : List Row) × (others : List DataSet) × (m ≡ Ok points) × (rest ≡ Ok others) × (with_points (structure_of n) points ∷ others ≡ ds)
first_ok n m rest ds e =
    let x = after_ok m (λ points. after rest (λ others. Ok (with_points (structure_of n) points ∷ others))) ds e in
    let y = after_ok rest (λ others. Ok (with_points (structure_of n) x.0 ∷ others)) ds x.2 in
    (x.0, y.0, x.1, y.1, ok_is (with_points (structure_of n) x.0 ∷ y.0) ds y.2)

no_operand : (ds : List DataSet) → [] ≡ ds → (structures_of ds ≡ []) × AreSets ds
no_operand ds e = subst (λ l. (structures_of l ≡ []) × AreSets l) e (refl, tt)

more_operands : (n : NodeTree) (points : List Row) (others ds : List DataSet) (ss : List Structure) → with_points (structure_of n) points ∷ others ≡ ds → IsDataSet (structure_of n) points → (structures_of others ≡ ss) × AreSets others → (structures_of ds ≡ structure_of n ∷ ss) × AreSets ds
more_operands n points others ds ss e h i = subst (λ l. (structures_of l ≡ structure_of n ∷ ss) × AreSets l) e (ap (λ l. structure_of n ∷ l) i.0, (h, i.1))

-- a data set of this structure, or neither
abbrev IsGiven : Option Structure → Option DataSet → Type 0
IsGiven s given = (option_map (λ d. d.structure) given ≡ s) × IfSome given (λ d. IsDataSet d.structure d.points)

mutual
  -- of an expression over an environment of data sets
  pub node_kept : (p : Settings) (env : Environment) (n : NodeTree) (out : List Row) → IsMade p (known_in env) n → AreDataSets env → node_value p env n ≡ Ok out → IsDataSet (structure_of n) out
  node_kept p env (nodes.node s form) out i h e = form_kept p env s form out i.1 h e

  form_kept : (p : Settings) (env : Environment) (s : Structure) (form : FormTree) (out : List Row) → IsMadeForm p (known_in env) s form → AreDataSets env → form_value p env s form ≡ Ok out → IsDataSet s out
  form_kept p env s (nodes.named name) out i h e = subst (λ l. IsDataSet s l) (ok_is (points_named name env) out e) (named_kept name s env i h)
  form_kept p env s (nodes.measures m a) out i h e =
      let x = operand_ok a (node_value p env a) (λ d. measured_of p m d s) out e in
      measured_kept p m (with_points (structure_of a) x.0) s out i.1 (node_kept p env a x.0 i.0 h x.1) x.2
  form_kept p env s (nodes.pair o a c) out i h e =
      let x = operand_ok a (node_value p env a) (λ d. with_operand c (node_value p env c) (λ q. pair_of p o d q s)) out e in
      let d = with_points (structure_of a) x.0 in
      let y = operand_ok c (node_value p env c) (λ q. pair_of p o d q s) out x.2 in
      pair_kept p o d (with_points (structure_of c) y.0) s out i.2 (node_kept p env a x.0 i.0 h x.1) (node_kept p env c y.0 i.1 h y.1) y.2
  form_kept p env s (nodes.choose t a c) out i h e =
      let w = operand_ok t (node_value p env t) (λ tests. with_operand a (node_value p env a) (λ d. with_operand c (node_value p env c) (λ q. Ok (choice_of tests d q s)))) out e in
      let tests = with_points (structure_of t) w.0 in
      let x = operand_ok a (node_value p env a) (λ d. with_operand c (node_value p env c) (λ q. Ok (choice_of tests d q s))) out w.2 in
      let d = with_points (structure_of a) x.0 in
      let y = operand_ok c (node_value p env c) (λ q. Ok (choice_of tests d q s)) out x.2 in
      let q = with_points (structure_of c) y.0 in
      subst (λ l. IsDataSet s l) (ok_is (choice_of tests d q s) out y.2)
      (choice_kept tests d q s i.3 (node_kept p env t w.0 i.0 h w.1) (node_kept p env a x.0 i.1 h x.1) (node_kept p env c y.0 i.2 h y.1))
  form_kept p env s (nodes.member a m) out i h e = left_given a s (node_value p env a) out i.1 (λ points is. node_kept p env a points i.0 h is) e
  form_kept p env s (nodes.filter a q) out i h e =
      let x = after_ok (node_value p env a) (filter_of p q) out e in
      filtered_kept p q (structure_of a) s x.0 out i.1 (node_kept p env a x.0 i.0 h x.1) x.2
  form_kept p env s (nodes.calc a items) out i h e =
      let x = operand_ok a (node_value p env a) (λ d. calculated_of p items d s) out e in
      calculated_kept p items (with_points (structure_of a) x.0) s out i.1 (node_kept p env a x.0 i.0 h x.1) x.2
  form_kept p env s (nodes.keep a names) out i h e = left_given a s (node_value p env a) out i.1 (λ points is. node_kept p env a points i.0 h is) e
  form_kept p env s (nodes.drop_named a names) out i h e = left_given a s (node_value p env a) out i.1 (λ points is. node_kept p env a points i.0 h is) e
  form_kept p env s (nodes.rename a pairs) out i h e = renamed_kept (structure_of a) s out i.1 (node_kept p env a out i.0 h e)
  form_kept p env s (nodes.sub a items) out i h e =
      let x = operand_ok a (node_value p env a) (λ d. Ok (sub_of items d s)) out e in
      let d = with_points (structure_of a) x.0 in
      subst (λ l. IsDataSet s l) (ok_is (sub_of items d s) out x.2) (sub_kept items d s i.1 (node_kept p env a x.0 i.0 h x.1))
  form_kept p env s (nodes.pivot a id m) out i h e =
      let x = operand_ok a (node_value p env a) (λ d. Ok (pivot_of d id m)) out e in
      let d = with_points (structure_of a) x.0 in
      subst (λ l. IsDataSet s l) (ok_is (pivot_of d id m) out x.2) (pivot_kept id m d s i.1 (node_kept p env a x.0 i.0 h x.1))
  form_kept p env s (nodes.unpivot a id m) out i h e =
      let x = operand_ok a (node_value p env a) (λ d. Ok (unpivot_of d)) out e in
      let d = with_points (structure_of a) x.0 in
      subst (λ l. IsDataSet s l) (ok_is (unpivot_of d) out x.2) (unpivot_kept id m d s i.1 (node_kept p env a x.0 i.0 h x.1))
  form_kept p env s (nodes.aggregate a spec) out i h e =
      let x = operand_ok a (node_value p env a) (λ d. aggregate_of p spec d s) out e in
      let d = with_points (structure_of a) x.0 in
      subst (λ m. IfOk m (IsDataSet s)) x.2 (result_is p spec d s i.1.aggregated (node_kept p env a x.0 i.0 h x.1))
  form_kept p env s (nodes.analytic_of a spec) out i h e =
      let x = operand_ok a (node_value p env a) (λ d. analytic_of p spec d s) out e in
      let d = with_points (structure_of a) x.0 in
      subst (λ m. IfOk m (IsDataSet s)) x.2 (analytic_is p spec d s i.1.analyzed (node_kept p env a x.0 i.0 h x.1))
  form_kept p env s (nodes.time a o) out i h e =
      let x = operand_ok a (node_value p env a) (λ d. timed_of p o d s) out e in
      timed_kept p o (with_points (structure_of a) x.0) s out i.1 (node_kept p env a x.0 i.0 h x.1) x.2
  form_kept p env s (nodes.join os spec) out i h e =
      let x = after_ok (operands_value p env os) (λ ds. Ok (join_of spec.kind ds)) out e in
      let sets = operands_kept p env os x.0 i.0 h x.1 in
      subst (λ l. IsDataSet s l) (ok_is (join_of spec.kind x.0) out x.2) (join_kept spec.kind x.0 s (subst (λ ss. IsJoined spec.kind ss s) (sym sets.0) i.1) sets.1)
  form_kept p env s (nodes.union ns) out i h e =
      let x = after_ok (nodes_value p env ns) (λ ds. Ok (union_of ds s)) out e in
      let sets = nodes_kept p env ns x.0 i.0 h x.1 in
      subst (λ l. IsDataSet s l) (ok_is (union_of x.0 s) out x.2) (union_kept x.0 s (subst (λ ss. AreCombined ss s) (sym sets.0) i.1) sets.1)
  form_kept p env s (nodes.intersect ns) out i h e =
      let x = after_ok (nodes_value p env ns) (λ ds. Ok (intersection_of ds s)) out e in
      let sets = nodes_kept p env ns x.0 i.0 h x.1 in
      subst (λ l. IsDataSet s l) (ok_is (intersection_of x.0 s) out x.2) (intersection_kept x.0 s (subst (λ ss. AreCombined ss s) (sym sets.0) i.1) sets.1)
  form_kept p env s (nodes.set_diff a c) out i h e =
      let x = two_ok a c (node_value p env a) (node_value p env c) (λ d q. difference_of d q s) out e in
      subst (λ l. IsDataSet s l) x.4 (difference_kept (with_points (structure_of a) x.0) (with_points (structure_of c) x.1) s i.2 (node_kept p env a x.0 i.0 h x.2) (node_kept p env c x.1 i.1 h x.3))
  form_kept p env s (nodes.sym_diff a c) out i h e =
      let x = two_ok a c (node_value p env a) (node_value p env c) (λ d q. symmetric_difference_of d q s) out e in
      subst (λ l. IsDataSet s l) x.4 (symmetric_difference_kept (with_points (structure_of a) x.0) (with_points (structure_of c) x.1) s i.2 (node_kept p env a x.0 i.0 h x.2) (node_kept p env c x.1 i.1 h x.3))
  form_kept p env s (nodes.exists_in a c r) out i h e =
      let x = two_ok a c (node_value p env a) (node_value p env c) (λ d q. existence_of d q r) out e in
      subst (λ l. IsDataSet s l) x.4 (existence_kept (with_points (structure_of a) x.0) (with_points (structure_of c) x.1) r s i.2 (node_kept p env a x.0 i.0 h x.2))
  form_kept p env s (nodes.check a m spec) out i h e =
      let x = operand_ok a (node_value p env a) (λ d. after (maybe_value p env m) (λ q. Ok (check_of p spec d q))) out e in
      let d = with_points (structure_of a) x.0 in
      let y = after_ok (maybe_value p env m) (λ q. Ok (check_of p spec d q)) out x.2 in
      let imbalance = maybe_kept p env m y.0 i.1 h y.1 in
      subst (λ l. IsDataSet s l) (ok_is (check_of p spec d y.0) out y.2)
      (check_kept p spec (structure_of a) s y.0 x.0 (subst (λ q. IsChecked p spec q (structure_of a) s) (sym imbalance.0) i.2) (node_kept p env a x.0 i.0 h x.1) imbalance.1)
  form_kept p env s (nodes.check_datapoint a rules o) out i h e =
      let x = operand_ok a (node_value p env a) (λ d. datapoint_of p o rules.rules d) out e in
      datapoint_kept p o rules.rules (structure_of a) s x.0 i.1 (node_kept p env a x.0 i.0 h x.1) out x.2
  form_kept p env s (nodes.check_hierarchy a rules m o) out i h e =
      let ruled = ruled_by rules (structure_of a) in
      let x = operand_ok a (node_value p env a) (λ d. check_hierarchy_of p o ruled m d rules.rules) out e in
      check_hierarchy_kept p o ruled m rules.rules (structure_of a) s x.0 i.1 (node_kept p env a x.0 i.0 h x.1) out x.2
  form_kept p env s (nodes.hierarchy a rules m input o) out i h e =
      let ruled = ruled_by rules (structure_of a) in
      let x = operand_ok a (node_value p env a) (λ d. hierarchy_of p ruled m input rules.rules d o s) out e in
      hierarchy_kept p ruled m input rules.rules (structure_of a) s x.0 i.1 (node_kept p env a x.0 i.0 h x.1) o out x.2

  -- an operand that may be left out
  maybe_kept : (p : Settings) (env : Environment) (m : MaybeNode) (given : Option DataSet) → IsMadeMaybe p (known_in env) m → AreDataSets env → maybe_value p env m ≡ Ok given → IsGiven (maybe_structure m) given
  maybe_kept p env nodes.no_node given i h e = subst (IsGiven None) (ok_is None given e) (refl, tt)
  maybe_kept p env (nodes.some_node n) given i h e =
      let x = after_ok (node_value p env n) (λ points. Ok (Some (with_points (structure_of n) points))) given e in
      subst (IsGiven (Some (structure_of n))) (ok_is (Some (with_points (structure_of n) x.0)) given x.2) (refl, node_kept p env n x.0 i h x.1)

  -- the operands have the structures of their expressions, and are data sets
  pub nodes_kept : (p : Settings) (env : Environment) (ns : NodeTrees) (ds : List DataSet) → AreMade p (known_in env) ns → AreDataSets env → nodes_value p env ns ≡ Ok ds → (structures_of ds ≡ node_structures ns) × AreSets ds
  nodes_kept p env nodes.no_nodes ds i h e = no_operand ds (ok_is [] ds e)
  nodes_kept p env (nodes.and_node n ns) ds i h e =
      let x = first_ok n (node_value p env n) (nodes_value p env ns) ds e in
      more_operands n x.0 x.1 ds (node_structures ns) x.4 (node_kept p env n x.0 i.0 h x.2) (nodes_kept p env ns x.1 i.1 h x.3)

  pub operands_kept : (p : Settings) (env : Environment) (os : OperandTrees) (ds : List DataSet) → AreMadeOperands p (known_in env) os → AreDataSets env → operands_value p env os ≡ Ok ds → (structures_of ds ≡ joins.structures_of (operands_in os)) × AreSets ds
  operands_kept p env nodes.no_operands ds i h e = no_operand ds (ok_is [] ds e)
  operands_kept p env (nodes.operand n alias os) ds i h e =
      let x = first_ok n (node_value p env n) (operands_value p env os) ds e in
      more_operands n x.0 x.1 ds (joins.structures_of (operands_in os)) x.4 (node_kept p env n x.0 i.0 h x.2) (operands_kept p env os x.1 i.1 h x.3)

-- ---- statements
-- each output is a data set
with_kept : (name : List ℕ) (d : DataSet) (m : Result Outputs (Fault × List ℕ)) (out : Outputs) → IsDataSet d.structure d.points → ((ds : Outputs) → m ≡ Ok ds → AreDataSets ds) → with_output name d m ≡ Ok out → AreDataSets out
with_kept name d (Ok ds) out h i e = let same : ((name, d) ∷ ds) ≡ out = cc in subst AreDataSets same (h, i ds refl)
with_kept name d (Err f) out h i e = cc

pub meaning_kept : (p : Settings) (ss : List Statement) (env : Environment) (out : Outputs) → AreMadeStatements p (known_in env) ss → AreDataSets env → meaning p ss env ≡ Ok out → AreDataSets out
meaning_kept p [] env out i h e = let same : [] ≡ out = cc in subst AreDataSets same tt
meaning_kept p (s ∷ rest) env out i h e =
    go (node_value p env s.node) refl e (λ d w is. meaning_kept p rest ((s.result, with_points (structure_of s.node) d) ∷ env) is i.1 (w, h))
  where
    Rest : DataSet → Result Outputs (Fault × List ℕ)
    Rest d = meaning p rest ((s.result, d) ∷ env)

    one : (d : DataSet) (t : Bool) → IsDataSet d.structure d.points → ((ds : Outputs) → Rest d ≡ Ok ds → AreDataSets ds) → cond t (with_output s.result d (Rest d)) (Rest d) ≡ Ok out → AreDataSets out
    one d true w ih q = with_kept s.result d (Rest d) out w ih q
    one d false w ih q = ih out q

    go : (m : Outcome (List Row)) → node_value p env s.node ≡ m → stated s (after m (λ d. Ok (with_points (structure_of s.node) d))) Rest ≡ Ok out
        → ((d : List Row) → IsDataSet (structure_of s.node) d → (is : Outputs) → Rest (with_points (structure_of s.node) d) ≡ Ok is → AreDataSets is) → AreDataSets out
    go (Ok d) f q ih =
        let w = node_kept p env s.node d i.0 h f in
        one (with_points (structure_of s.node) d) s.persistent w (ih d w) q
    go (Err f) g q ih = cc
