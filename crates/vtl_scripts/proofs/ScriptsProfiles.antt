-- The points of expressions and of scripts are of the profile where those of the data sets are.
use Rattle.std.proofs.Common.{ℕ, Bool, true, false, cond, List, [], ◌∷◌, map, Result, Ok, Err, Some}
use Rattle.std.specs.Prelude.{IfOk}
use Rattle.std.specs.List.{filter, flat_map}
use Rattle.std.specs.Option.{option_map_or}
use Rattle.vtl_decimal.specs.declared.number.Fault.{Fault}
use Rattle.vtl_cell.specs.Outcome.{Outcome, after}
use Rattle.vtl_cell.specs.Row.{Row}
use Rattle.vtl_decimal.specs.Settings.{Settings}
use Rattle.vtl_lists.proofs.Sorts.{AllByRecursion-filter}
use Rattle.vtl_rows.specs.Tables.{cells_at}
use Rattle.vtl_tree.specs.Clauses.{filter_of}
use Rattle.vtl_tree.specs.DataSet.{AreOfProfile}
use Rattle.vtl_tree.specs.Environment.{DataSet, Environment, data_of, known_in, points_named}
use Rattle.vtl_tree.specs.Structure.{columns_of, same_name}
use Rattle.vtl_tree.specs.declared.structure.Structure.{Structure}
use Rattle.vtl_tree.specs.Trees as nodes
use Rattle.vtl_tree.specs.Trees.{FormTree, NodeTree, NodeTrees, OperandTrees, structure_of}
use Rattle.vtl_tree.specs.Columns.{places_in}
use Rattle.vtl_meaning.specs.Aggregates.{aggregate_of}
use Rattle.vtl_meaning.specs.Analytics.{analytic_of}
use Rattle.vtl_meaning.proofs.AnalyticPoints.{result_is_proper as analytic_is_proper}
use Rattle.vtl_meaning.proofs.GroupPoints.{result_is_proper}
use Rattle.vtl_meaning.specs.Joined.{join_of}
use Rattle.vtl_scripts.specs.Made.{AreMade, AreMadeOperands, AreMadeStatements, IsMade, IsMadeForm}
use Rattle.vtl_scripts.specs.Meaning.{Outputs, Statement, form_value, maybe_value, meaning, node_value, nodes_value, operands_value, stated, with_first, with_operand, with_output}
use Rattle.vtl_meaning.specs.Operators.{calculated_exps, has_values, measured_exps, pair_columns, pair_exps}
use Rattle.vtl_meaning.specs.Points.{each_point, with_points}
use Rattle.vtl_meaning.specs.Profiles.{AllAreOfProfile}
use Rattle.vtl_meaning.specs.Sets.{difference_of, existence_of, intersection_of, symmetric_difference_of, union_of}
use Rattle.vtl_meaning.specs.Turned.{pivot_of, unpivot_of}
use Rattle.vtl_meaning.proofs.JoinProfiles.{join_profile}
use Rattle.vtl_meaning.proofs.Profiles.{GivePoints, IsRowOfProfile, choice_are, each_gives, filter_gives, pairs, pairs_are, shown_are, taken_at}
use Rattle.vtl_meaning.proofs.SetsProfiles.{AllOfProfile, difference_profile, existence_profile, intersection_profile, pivot_profile, symmetric_difference_profile, union_profile, unpivot_profile}
use Rattle.vtl_meaning.proofs.ValueKinds.{after_if}
use Rattle.vtl_rulings.specs.Hierarchies.{hierarchy_of}
use Rattle.vtl_rulings.specs.HierarchyChecks.{check_hierarchy_of, ruled_by}
use Rattle.vtl_rulings.specs.PointChecks.{check_of, datapoint_of}
use Rattle.vtl_rulings.proofs.HierarchyProfiles.{check_hierarchy_profile, hierarchy_profile}
use Rattle.vtl_rulings.proofs.Profiles.{check_profile, datapoint_profile}
use Rattle.vtl_timing.specs.Timed.{timed_of}
use Rattle.vtl_timing.proofs.Timed.{timed_profile}

-- ---- expressions
named_are : (p : Settings) (name : List ℕ) (env : Environment) → AllAreOfProfile p env → AreOfProfile p (points_named name env)
named_are p name [] h = tt
named_are p name (d ∷ env) h = go (same_name d.0 name) (named_are p name env h.1)
  where
    go : (b : Bool) → AreOfProfile p (points_named name env) → AreOfProfile p (option_map_or (λ z. z.points) (cond b (Some d.1) (data_of name env)) [])
    go true ih = h.0
    go false ih = ih

module _ (p : Settings) (env : Environment) (h : AllAreOfProfile p env) where
  -- what comes of an operand of the profile
  onward : (m : Outcome (List Row)) (f : List Row → Outcome (List Row)) → GivePoints p m → ((d : List Row) → AreOfProfile p d → GivePoints p (f d)) → GivePoints p (after m f)
  onward m f i g = after_if m f (AreOfProfile p) (AreOfProfile p) i g

  -- what comes of another operand, whatever it gives
  whatever : {A : Type 0} (m : Outcome A) (f : A → List Row) → ((x : A) → AreOfProfile p (f x)) → GivePoints p (after m (λ x. Ok (f x)))
  whatever (Ok x) f g = g x
  whatever (Err e) f g = tt

  -- columns that are left
  left_gives : (a : NodeTree) (s : Structure) → GivePoints p (node_value p env a) → GivePoints p (after (node_value p env a) (λ d. Ok (map (cells_at (places_in (columns_of (structure_of a)) (columns_of s))) d)))
  left_gives a s i =
      let places = places_in (columns_of (structure_of a)) (columns_of s) in
      onward (node_value p env a) (λ d. Ok (map (cells_at places) d)) i (λ d k. shown_are p places d k)

  -- what comes of one operand, of two, and of several
  onward_set : (a : NodeTree) (f : DataSet → List Row) → GivePoints p (node_value p env a) → ((d : DataSet) → AreOfProfile p d.points → AreOfProfile p (f d)) → GivePoints p (with_operand a (node_value p env a) (λ d. Ok (f d)))
  onward_set a f i g = onward (node_value p env a) (λ points. Ok (f (with_points (structure_of a) points))) i (λ points k. g (with_points (structure_of a) points) k)

  onward_two : (a b : NodeTree) (f : DataSet → DataSet → List Row) → GivePoints p (node_value p env a) → GivePoints p (node_value p env b) → ((d e : DataSet) → AreOfProfile p d.points → AreOfProfile p e.points → AreOfProfile p (f d e))
      → GivePoints p (with_operand a (node_value p env a) (λ d. with_operand b (node_value p env b) (λ e. Ok (f d e))))
  onward_two a b f i j g =
      onward (node_value p env a) (λ points. with_operand b (node_value p env b) (λ e. Ok (f (with_points (structure_of a) points) e))) i
      (λ points k. onward_set b (f (with_points (structure_of a) points)) j (λ e l. g (with_points (structure_of a) points) e k l))

  abbrev GiveSets : Outcome (List DataSet) → Type 0
  GiveSets m = IfOk m (AllOfProfile p)

  onward_all : (m : Outcome (List DataSet)) (f : List DataSet → List Row) → GiveSets m → ((ds : List DataSet) → AllOfProfile p ds → AreOfProfile p (f ds)) → GivePoints p (after m (λ ds. Ok (f ds)))
  onward_all m f i g = after_if m (λ ds. Ok (f ds)) (AllOfProfile p) (AreOfProfile p) i g

  first_gives : (n : NodeTree) (rest : Outcome (List DataSet)) → GivePoints p (node_value p env n) → GiveSets rest → GiveSets (with_first n (node_value p env n) rest)
  first_gives n rest i j =
      after_if (node_value p env n) (λ points. after rest (λ ds. Ok (with_points (structure_of n) points ∷ ds))) (AreOfProfile p) (AllOfProfile p) i
      (λ points k. after_if rest (λ ds. Ok (with_points (structure_of n) points ∷ ds)) (AllOfProfile p) (AllOfProfile p) j (λ ds l. (k, l)))

  mutual
    pub node_gives : (n : NodeTree) → IsMade p (known_in env) n → GivePoints p (node_value p env n)
    node_gives (nodes.node s form) i = form_gives s form i.1

    form_gives : (s : Structure) (form : FormTree) → IsMadeForm p (known_in env) s form → GivePoints p (form_value p env s form)
    form_gives s (nodes.named name) i = named_are p name env h
    form_gives s (nodes.measures m a) i =
        onward (node_value p env a) (each_point p (measured_exps m (structure_of a) s)) (node_gives a i.0)
        (λ d k. each_gives p (columns_of (structure_of a)) (measured_exps m (structure_of a) s) (columns_of s) d i.1.columns k)
    form_gives s (nodes.pair o a b) i =
        let x = structure_of a in
        let y = structure_of b in
        onward (node_value p env a) (λ d. after (node_value p env b) (λ e. each_point p (pair_exps o x y s) (pairs x y d e))) (node_gives a i.0)
        (λ d k. onward (node_value p env b) (λ e. each_point p (pair_exps o x y s) (pairs x y d e)) (node_gives b i.1)
        (λ e l. each_gives p (pair_columns x y) (pair_exps o x y s) (columns_of s) (pairs x y d e) i.2.columns (pairs_are p x y d e k l)))
    form_gives s (nodes.choose t a b) i =
        let w = structure_of t in
        let x = structure_of a in
        let y = structure_of b in
        onward (node_value p env t) (λ tests. after (node_value p env a) (λ d. after (node_value p env b) (λ e. Ok (flat_map (taken_at w s x y d e) tests)))) (node_gives t i.0)
        (λ tests j. onward (node_value p env a) (λ d. after (node_value p env b) (λ e. Ok (flat_map (taken_at w s x y d e) tests))) (node_gives a i.1)
        (λ d k. onward (node_value p env b) (λ e. Ok (flat_map (taken_at w s x y d e) tests)) (node_gives b i.2)
        (λ e l. choice_are w s p x y tests d e j k l)))
    form_gives s (nodes.member a m) i = left_gives a s (node_gives a i.0)
    form_gives s (nodes.filter a e) i = onward (node_value p env a) (filter_of p e) (node_gives a i.0) (λ d k. filter_gives p e d k)
    form_gives s (nodes.calc a items) i =
        onward (node_value p env a) (each_point p (calculated_exps items (structure_of a) s)) (node_gives a i.0)
        (λ d k. each_gives p (columns_of (structure_of a)) (calculated_exps items (structure_of a) s) (columns_of s) d i.1.columns k)
    form_gives s (nodes.keep a names) i = left_gives a s (node_gives a i.0)
    form_gives s (nodes.drop_named a names) i = left_gives a s (node_gives a i.0)
    form_gives s (nodes.rename a pairs) i = node_gives a i.0
    form_gives s (nodes.sub a items) i =
        let places = places_in (columns_of (structure_of a)) (columns_of s) in
        let test = has_values (structure_of a) items in
        onward (node_value p env a) (λ d. Ok (map (cells_at places) (filter test d))) (node_gives a i.0)
        (λ d k. shown_are p places (filter test d) (AllByRecursion-filter (IsRowOfProfile p) test d k))
    form_gives s (nodes.pivot a id m) i = onward_set a (λ d. pivot_of d id m) (node_gives a i.0) (λ d k. pivot_profile p d id m k)
    form_gives s (nodes.unpivot a id m) i = onward_set a unpivot_of (node_gives a i.0) (λ d k. unpivot_profile p d k)
    form_gives s (nodes.aggregate a spec) i =
        onward (node_value p env a) (λ points. aggregate_of p spec (with_points (structure_of a) points) s) (node_gives a i.0)
        (λ points k. result_is_proper p spec (with_points (structure_of a) points) s k)
    form_gives s (nodes.analytic_of a spec) i =
        onward (node_value p env a) (λ points. analytic_of p spec (with_points (structure_of a) points) s) (node_gives a i.0)
        (λ points k. analytic_is_proper p spec (with_points (structure_of a) points) s i.1.analyzed k)
    form_gives s (nodes.time a o) i =
        onward (node_value p env a) (λ points. timed_of p o (with_points (structure_of a) points) s) (node_gives a i.0)
        (λ points k. timed_profile p o (with_points (structure_of a) points) s i.1 k)
    form_gives s (nodes.join os spec) i = onward_all (operands_value p env os) (join_of spec.kind) (operands_give os i.0) (λ ds k. join_profile p spec.kind ds k)
    form_gives s (nodes.union ns) i = onward_all (nodes_value p env ns) (λ ds. union_of ds s) (nodes_give ns i.0) (λ ds k. union_profile p ds s k)
    form_gives s (nodes.intersect ns) i = onward_all (nodes_value p env ns) (λ ds. intersection_of ds s) (nodes_give ns i.0) (λ ds k. intersection_profile p ds s k)
    form_gives s (nodes.set_diff a b) i = onward_two a b (λ d e. difference_of d e s) (node_gives a i.0) (node_gives b i.1) (λ d e k l. difference_profile p d e s k)
    form_gives s (nodes.sym_diff a b) i = onward_two a b (λ d e. symmetric_difference_of d e s) (node_gives a i.0) (node_gives b i.1) (λ d e k l. symmetric_difference_profile p d e s k l)
    form_gives s (nodes.exists_in a b r) i = onward_two a b (λ d e. existence_of d e r) (node_gives a i.0) (node_gives b i.1) (λ d e k l. existence_profile p d e r k)
    form_gives s (nodes.check a m spec) i =
        onward (node_value p env a) (λ d. after (maybe_value p env m) (λ e. Ok (check_of p spec (with_points (structure_of a) d) e))) (node_gives a i.0)
        (λ d k. whatever (maybe_value p env m) (check_of p spec (with_points (structure_of a) d)) (λ e. check_profile p spec (structure_of a) e d i.2.level k))
    form_gives s (nodes.check_datapoint a rules o) i =
        onward (node_value p env a) (λ d. datapoint_of p o rules.rules (with_points (structure_of a) d)) (node_gives a i.0)
        (λ d k. datapoint_profile p o rules.rules (structure_of a) d i.1.typed k)
    form_gives s (nodes.check_hierarchy a rules m o) i =
        let ruled = ruled_by rules (structure_of a) in
        onward (node_value p env a) (λ d. check_hierarchy_of p o ruled m (with_points (structure_of a) d) rules.rules) (node_gives a i.0)
        (λ d k. check_hierarchy_profile p (structure_of a) d k o ruled m rules.rules)
    form_gives s (nodes.hierarchy a rules m input o) i =
        let ruled = ruled_by rules (structure_of a) in
        onward (node_value p env a) (λ d. hierarchy_of p ruled m input rules.rules (with_points (structure_of a) d) o s) (node_gives a i.0)
        (λ d k. hierarchy_profile p (structure_of a) d k ruled m input rules.rules o s)

    nodes_give : (ns : NodeTrees) → AreMade p (known_in env) ns → GiveSets (nodes_value p env ns)
    nodes_give nodes.no_nodes i = tt
    nodes_give (nodes.and_node n ns) i = first_gives n (nodes_value p env ns) (node_gives n i.0) (nodes_give ns i.1)

    operands_give : (os : OperandTrees) → AreMadeOperands p (known_in env) os → GiveSets (operands_value p env os)
    operands_give nodes.no_operands i = tt
    operands_give (nodes.operand n alias os) i = first_gives n (operands_value p env os) (node_gives n i.0) (operands_give os i.1)

-- ---- statements
with_gives : (p : Settings) (name : List ℕ) (d : DataSet) (m : Result Outputs (Fault × List ℕ)) → AreOfProfile p d.points → IfOk m (AllAreOfProfile p) → IfOk (with_output name d m) (AllAreOfProfile p)
with_gives p name d (Ok out) h i = (h, i)
with_gives p name d (Err f) h i = tt

kept_gives : (p : Settings) (b : Bool) (name : List ℕ) (d : DataSet) (m : Result Outputs (Fault × List ℕ)) → AreOfProfile p d.points → IfOk m (AllAreOfProfile p) → IfOk (cond b (with_output name d m) m) (AllAreOfProfile p)
kept_gives p true name d m h i = with_gives p name d m h i
kept_gives p false name d m h i = i

pub meaning_gives : (p : Settings) (ss : List Statement) (env : Environment) → AreMadeStatements p (known_in env) ss → AllAreOfProfile p env → IfOk (meaning p ss env) (AllAreOfProfile p)
meaning_gives p [] env i h = tt
meaning_gives p (s ∷ rest) env i h = go (node_value p env s.node) (node_gives p env h s.node i.0) (λ d k. meaning_gives p rest ((s.result, data_with d) ∷ env) i.1 (k, h))
  where
    data_with : List Row → DataSet
    data_with d = record { structure = structure_of s.node; points = d }

    Rest : DataSet → Result Outputs (Fault × List ℕ)
    Rest d = meaning p rest ((s.result, d) ∷ env)

    go : (m : Outcome (List Row)) → GivePoints p m → ((d : List Row) → AreOfProfile p d → IfOk (Rest (data_with d)) (AllAreOfProfile p)) → IfOk (stated s (after m (λ d. Ok (data_with d))) Rest) (AllAreOfProfile p)
    go (Ok d) k ih = kept_gives p s.persistent s.result (data_with d) (Rest (data_with d)) k (ih d k)
    go (Err f) k ih = tt
