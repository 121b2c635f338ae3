-- The meaning of a script does not depend on the order of points.
use Rattle.std.proofs.Common.{◌≡◌, ℕ, Bool, true, false, cond, List, [], ◌∷◌, Option, None, Some, Result, Ok, Err, refl, sym, ap, subst, true≢false}
use Rattle.std.specs.Option.{option_map_or}
use Rattle.vtl_decimal.specs.Settings.{Settings}
use Rattle.vtl_lists.specs.Perm.{Perm, empty}
use Rattle.vtl_decimal.specs.declared.number.Fault.{Fault}
use Rattle.vtl_cell.specs.Outcome.{Outcome, after}
use Rattle.vtl_cell.specs.Outcomes.{Same}
use Rattle.vtl_cell.specs.Row.{Row}
use Rattle.vtl_tree.specs.Clauses.{filter_of}
use Rattle.vtl_tree.specs.Environment.{DataSet, Environment, data_of, known_in, points_named}
use Rattle.vtl_tree.specs.Structure.{columns_of, same_name}
use Rattle.vtl_tree.specs.declared.structure.Structure.{Structure}
use Rattle.vtl_tree.specs.Trees as nodes
use Rattle.vtl_tree.specs.Trees.{FormTree, NodeTree, NodeTrees, OperandTrees, structure_of}
use Rattle.vtl_meaning.specs.Aggregates.{aggregate_of}
use Rattle.vtl_meaning.specs.Analytics.{analytic_of}
use Rattle.vtl_meaning.proofs.AnalyticOrders.{analytics_respect}
use Rattle.vtl_meaning.proofs.GroupOrders.{aggregates_respect}
use Rattle.vtl_meaning.specs.Joined.{join_of}
use Rattle.vtl_meaning.specs.Made.{AreCombined, IsJoined}
use Rattle.vtl_scripts.specs.Made.{AreMade, AreMadeOperands, AreMadeStatements, IsMade, IsMadeForm}
use Rattle.vtl_scripts.specs.Meaning.{AreDataSets, Outputs, Statement, form_value, maybe_value, meaning, node_value, nodes_value, operands_value, stated, with_first, with_operand, with_output}
use Rattle.vtl_meaning.specs.Operators.{calculated_exps, calculated_of, choice_of, left_of, measured_exps, measured_of, pair_of, sub_of}
use Rattle.vtl_meaning.specs.Orders.{SameData, SameOperands}
use Rattle.vtl_scripts.specs.Orders.{SameMeaning}
use Rattle.vtl_meaning.specs.Points.{with_points}
use Rattle.vtl_meaning.specs.Sets.{difference_of, existence_of, intersection_of, symmetric_difference_of, union_of}
use Rattle.vtl_meaning.specs.Turned.{pivot_of, unpivot_of}
use Rattle.vtl_meaning.proofs.JoinOrders.{join_order}
use Rattle.vtl_meaning.proofs.Orders.{choice_respects, each_respects, filtered_respects, pair_respects, shown_respects, sub_respects}
use Rattle.vtl_meaning.proofs.SetsOrders.{difference_order, existence_order, intersection_order, symmetric_difference_order, union_order}
use Rattle.vtl_meaning.proofs.TurnedOrders.{pivot_order, unpivot_order}
use Rattle.vtl_rulings.specs.Hierarchies.{hierarchy_of}
use Rattle.vtl_rulings.specs.HierarchyChecks.{check_hierarchy_of, ruled_by}
use Rattle.vtl_rulings.specs.PointChecks.{check_of, datapoint_of}
use Rattle.vtl_rulings.proofs.HierarchyOrders.{check_respects as sides_respect, output_respects}
use Rattle.vtl_rulings.proofs.Orders.{check_respects, datapoint_respects, imbalanced_respects}
use Rattle.vtl_scripts.proofs.ScriptsKept.{node_kept, nodes_kept, operands_kept}
use Rattle.vtl_timing.specs.Timed.{timed_of}
use Rattle.vtl_timing.proofs.Timed.{timed_respects}

-- ---- expressions
same_after : (m n : Outcome (List Row)) (f g : List Row → Outcome (List Row)) → Same m n → ((d e : List Row) → m ≡ Ok d → Perm d e → Same (f d) (g e)) → Same (after m f) (after n g)
same_after (Ok d) (Ok e) f g s h = h d e refl s
same_after (Err x) (Err y) f g s h = s
same_after (Ok d) (Err y) f g s h = absurd s
same_after (Err x) (Ok e) f g s h = absurd s

same_operand : (a : NodeTree) (m n : Outcome (List Row)) (f g : DataSet → Outcome (List Row)) → Same m n → ((d e : List Row) → m ≡ Ok d → Perm d e → Same (f (with_points (structure_of a) d)) (g (with_points (structure_of a) e))) → Same (with_operand a m f) (with_operand a n g)
same_operand a m n f g s h = same_after m n (λ d. f (with_points (structure_of a) d)) (λ d. g (with_points (structure_of a) d)) s h

left_same : (a : NodeTree) (s : Structure) (m n : Outcome (List Row)) → Same m n → Same (with_operand a m (λ d. Ok (left_of d s))) (with_operand a n (λ d. Ok (left_of d s)))
left_same a s m n h = same_operand a m n (λ d. Ok (left_of d s)) (λ d. Ok (left_of d s)) h (λ d e is q. shown_respects (columns_of (structure_of a)) (columns_of s) d e q)

same_two : (a c : NodeTree) (m n k l : Outcome (List Row)) (f : DataSet → DataSet → List Row) → Same m n → Same k l
    → ((d t e g : List Row) → m ≡ Ok d → k ≡ Ok e → Perm d t → Perm e g → Perm (f (with_points (structure_of a) d) (with_points (structure_of c) e)) (f (with_points (structure_of a) t) (with_points (structure_of c) g)))
    → Same (with_operand a m (λ d. with_operand c k (λ e. Ok (f d e)))) (with_operand a n (λ d. with_operand c l (λ e. Ok (f d e))))
same_two a c m n k l f s u h =
    same_operand a m n (λ d. with_operand c k (λ e. Ok (f d e))) (λ d. with_operand c l (λ e. Ok (f d e))) s
    (λ d t is q. same_operand c k l (λ e. Ok (f (with_points (structure_of a) d) e)) (λ e. Ok (f (with_points (structure_of a) t) e)) u (λ e g is_too v. h d t e g is is_too q v))

-- an operand that may be left out, and is there
same_given : (c : NodeTree) (k l : Outcome (List Row)) (f g : Option DataSet → List Row) → Same k l → ((d e : List Row) → k ≡ Ok d → Perm d e → Perm (f (Some (with_points (structure_of c) d))) (g (Some (with_points (structure_of c) e))))
    → Same (after (after k (λ points. Ok (Some (with_points (structure_of c) points)))) (λ q. Ok (f q))) (after (after l (λ points. Ok (Some (with_points (structure_of c) points)))) (λ q. Ok (g q)))
same_given c (Ok d) (Ok e) f g s h = h d e refl s
same_given c (Err x) (Err y) f g s h = s
same_given c (Ok d) (Err y) f g s h = absurd s
same_given c (Err x) (Ok e) f g s h = absurd s

-- the same operands up to the order of points, or the same fault
abbrev SameGiven : Outcome (List DataSet) → Outcome (List DataSet) → Type 0
SameGiven (Ok ds) (Ok es) = SameOperands ds es
SameGiven (Ok ds) (Err g) = ⊥
SameGiven (Err f) (Ok es) = ⊥
SameGiven (Err f) (Err g) = f ≡ g

same_operands : (m n : Outcome (List DataSet)) (f : List DataSet → List Row) → SameGiven m n → ((ds es : List DataSet) → m ≡ Ok ds → SameOperands ds es → Perm (f ds) (f es)) → Same (after m (λ ds. Ok (f ds))) (after n (λ ds. Ok (f ds)))
same_operands (Ok ds) (Ok es) f s h = h ds es refl s
same_operands (Ok ds) (Err y) f s h = absurd s
same_operands (Err x) (Ok es) f s h = absurd s
same_operands (Err x) (Err y) f s h = s

same_first : (a : NodeTree) (m n : Outcome (List Row)) (rest more : Outcome (List DataSet)) → Same m n → SameGiven rest more → SameGiven (with_first a m rest) (with_first a n more)
same_first a (Ok d) (Ok e) (Ok ds) (Ok es) s u = (refl, s, u)
same_first a (Ok d) (Ok e) (Err x) (Err y) s u = u
same_first a (Ok d) (Ok e) (Ok ds) (Err y) s u = absurd u
same_first a (Ok d) (Ok e) (Err x) (Ok es) s u = absurd u
same_first a (Err x) (Err y) rest more s u = s
same_first a (Ok d) (Err y) rest more s u = absurd s
same_first a (Err x) (Ok e) rest more s u = absurd s

named_respects : (name : List ℕ) (env other : Environment) → SameData env other → Perm (points_named name env) (points_named name other)
named_respects name [] [] s = empty
named_respects name [] (e ∷ es) s = absurd s
named_respects name (d ∷ ds) [] s = absurd s
named_respects name (d ∷ ds) (e ∷ es) s = go (same_name d.0 name) (same_name e.0 name) (ap (λ n. same_name n name) s.0) (named_respects name ds es s.3)
  where
    go : (x y : Bool) → x ≡ y → Perm (points_named name ds) (points_named name es)
        → Perm (option_map_or (λ z. z.points) (cond x (Some d.1) (data_of name ds)) []) (option_map_or (λ z. z.points) (cond y (Some e.1) (data_of name es)) [])
    go true true q ih = s.2
    go false false q ih = ih
    go true false q ih = absurd (true≢false q)
    go false true q ih = absurd (true≢false (sym q))

module _ (p : Settings) (env other : Environment) (h : AreDataSets env) (same : SameData env other) where
  mutual
    pub node_respects : (n : NodeTree) → IsMade p (known_in env) n → Same (node_value p env n) (node_value p other n)
    node_respects (nodes.node s form) i = form_respects s form i.1

    form_respects : (s : Structure) (form : FormTree) → IsMadeForm p (known_in env) s form → Same (form_value p env s form) (form_value p other s form)
    form_respects s (nodes.named name) i = named_respects name env other same
    form_respects s (nodes.measures m a) i =
        same_operand a (node_value p env a) (node_value p other a) (λ d. measured_of p m d s) (λ d. measured_of p m d s) (node_respects a i.0)
        (λ d e is q. each_respects p (measured_exps m (structure_of a) s) d e q)
    form_respects s (nodes.pair o a c) i =
        let F : Environment → DataSet → Outcome (List Row) = λ en d. with_operand c (node_value p en c) (λ q. pair_of p o d q s) in
        same_operand a (node_value p env a) (node_value p other a) (F env) (F other) (node_respects a i.0)
        (λ d t is q. same_operand c (node_value p env c) (node_value p other c) (λ x. pair_of p o (with_points (structure_of a) d) x s) (λ x. pair_of p o (with_points (structure_of a) t) x s) (node_respects c i.1)
        (λ e f is_too u. pair_respects p o (structure_of a) (structure_of c) s d t e f q u (node_kept p env a d i.0 h is).distinct (node_kept p env c e i.1 h is_too).distinct))
    form_respects s (nodes.choose t a c) i =
        let Last : DataSet → DataSet → DataSet → Outcome (List Row) = λ tests d e. Ok (choice_of tests d e s) in
        let Second : Environment → DataSet → DataSet → Outcome (List Row) = λ en tests d. with_operand c (node_value p en c) (Last tests d) in
        let First : Environment → DataSet → Outcome (List Row) = λ en tests. with_operand a (node_value p en a) (Second en tests) in
        same_operand t (node_value p env t) (node_value p other t) (First env) (First other) (node_respects t i.0)
        (λ tests tests_too is q. same_operand a (node_value p env a) (node_value p other a) (Second env (with_points (structure_of t) tests)) (Second other (with_points (structure_of t) tests_too)) (node_respects a i.1)
        (λ d e is_first u. same_operand c (node_value p env c) (node_value p other c) (Last (with_points (structure_of t) tests) (with_points (structure_of a) d)) (Last (with_points (structure_of t) tests_too) (with_points (structure_of a) e)) (node_respects c i.2)
        (λ f g is_second v. choice_respects (structure_of t) (structure_of a) (structure_of c) s tests tests_too d e f g q u v (node_kept p env a d i.1 h is_first).distinct (node_kept p env c f i.2 h is_second).distinct)))
    form_respects s (nodes.member a m) i = left_same a s (node_value p env a) (node_value p other a) (node_respects a i.0)
    form_respects s (nodes.filter a e) i =
        same_after (node_value p env a) (node_value p other a) (filter_of p e) (filter_of p e) (node_respects a i.0)
        (λ d f is q. filtered_respects p e d f q)
    form_respects s (nodes.calc a items) i =
        same_operand a (node_value p env a) (node_value p other a) (λ d. calculated_of p items d s) (λ d. calculated_of p items d s) (node_respects a i.0)
        (λ d e is q. each_respects p (calculated_exps items (structure_of a) s) d e q)
    form_respects s (nodes.keep a names) i = left_same a s (node_value p env a) (node_value p other a) (node_respects a i.0)
    form_respects s (nodes.drop_named a names) i = left_same a s (node_value p env a) (node_value p other a) (node_respects a i.0)
    form_respects s (nodes.rename a pairs) i = node_respects a i.0
    form_respects s (nodes.sub a items) i =
        same_operand a (node_value p env a) (node_value p other a) (λ d. Ok (sub_of items d s)) (λ d. Ok (sub_of items d s)) (node_respects a i.0)
        (λ d e is q. sub_respects items (structure_of a) s d e q)
    form_respects s (nodes.aggregate a spec) i =
        same_operand a (node_value p env a) (node_value p other a) (λ d. aggregate_of p spec d s) (λ d. aggregate_of p spec d s) (node_respects a i.0)
        (λ d e is q. aggregates_respect p spec (with_points (structure_of a) d) (with_points (structure_of a) e) s refl q)
    form_respects s (nodes.analytic_of a spec) i =
        same_operand a (node_value p env a) (node_value p other a) (λ d. analytic_of p spec d s) (λ d. analytic_of p spec d s) (node_respects a i.0)
        (λ d e is q. analytics_respect p spec (with_points (structure_of a) d) (with_points (structure_of a) e) s refl q)
    form_respects s (nodes.time a o) i =
        same_operand a (node_value p env a) (node_value p other a) (λ d. timed_of p o d s) (λ d. timed_of p o d s) (node_respects a i.0)
        (λ d e is q. timed_respects p o (structure_of a) d e s i.1 (node_kept p env a d i.0 h is) q)
    form_respects s (nodes.pivot a id m) i =
        same_operand a (node_value p env a) (node_value p other a) (λ d. Ok (pivot_of d id m)) (λ d. Ok (pivot_of d id m)) (node_respects a i.0)
        (λ d e is q. pivot_order (structure_of a) id d (node_kept p env a d i.0 h is) e q m)
    form_respects s (nodes.unpivot a id m) i =
        same_operand a (node_value p env a) (node_value p other a) (λ d. Ok (unpivot_of d)) (λ d. Ok (unpivot_of d)) (node_respects a i.0)
        (λ d e is q. unpivot_order (structure_of a) d e q)
    form_respects s (nodes.join os spec) i =
        same_operands (operands_value p env os) (operands_value p other os) (join_of spec.kind) (operands_respect os i.0)
        (λ ds es is same. let sets = operands_kept p env os ds i.0 h is in join_order spec.kind ds es same sets.1 s (subst (λ ss. IsJoined spec.kind ss s) (sym sets.0) i.1))
    form_respects s (nodes.union ns) i =
        same_operands (nodes_value p env ns) (nodes_value p other ns) (λ ds. union_of ds s) (nodes_respect ns i.0)
        (λ ds es is same. let sets = nodes_kept p env ns ds i.0 h is in union_order ds es same sets.1 s (subst (λ ss. AreCombined ss s) (sym sets.0) i.1))
    form_respects s (nodes.intersect ns) i =
        same_operands (nodes_value p env ns) (nodes_value p other ns) (λ ds. intersection_of ds s) (nodes_respect ns i.0)
        (λ ds es is same. let sets = nodes_kept p env ns ds i.0 h is in intersection_order ds es same sets.1 s (subst (λ ss. AreCombined ss s) (sym sets.0) i.1))
    form_respects s (nodes.set_diff a c) i =
        same_two a c (node_value p env a) (node_value p other a) (node_value p env c) (node_value p other c) (λ d e. difference_of d e s) (node_respects a i.0) (node_respects c i.1)
        (λ d t e f is is_too q u. difference_order (structure_of a) (structure_of c) s d t e f q u i.2 (node_kept p env a d i.0 h is) (node_kept p env c e i.1 h is_too))
    form_respects s (nodes.sym_diff a c) i =
        same_two a c (node_value p env a) (node_value p other a) (node_value p env c) (node_value p other c) (λ d e. symmetric_difference_of d e s) (node_respects a i.0) (node_respects c i.1)
        (λ d t e f is is_too q u. symmetric_difference_order (structure_of a) (structure_of c) s d t e f q u i.2 (node_kept p env a d i.0 h is) (node_kept p env c e i.1 h is_too))
    form_respects s (nodes.exists_in a c r) i =
        same_two a c (node_value p env a) (node_value p other a) (node_value p env c) (node_value p other c) (λ d e. existence_of d e r) (node_respects a i.0) (node_respects c i.1)
        (λ d t e f is is_too q u. existence_order (structure_of a) (structure_of c) d t e f r q u)
    form_respects s (nodes.check a nodes.no_node spec) i =
        same_operand a (node_value p env a) (node_value p other a) (λ d. Ok (check_of p spec d None)) (λ d. Ok (check_of p spec d None)) (node_respects a i.0)
        (λ d e is q. check_respects p spec (structure_of a) d e q)
    form_respects s (nodes.check a (nodes.some_node c) spec) i =
        let F : Environment → DataSet → Outcome (List Row) = λ en d. after (maybe_value p en (nodes.some_node c)) (λ q. Ok (check_of p spec d q)) in
        same_operand a (node_value p env a) (node_value p other a) (F env) (F other) (node_respects a i.0)
        (λ d t is q. same_given c (node_value p env c) (node_value p other c) (check_of p spec (with_points (structure_of a) d)) (check_of p spec (with_points (structure_of a) t)) (node_respects c i.1)
        (λ e f is_too u. imbalanced_respects p spec (structure_of a) (structure_of c) s e f i.2 (node_kept p env c e i.1 h is_too) u d t q))
    form_respects s (nodes.check_datapoint a rules o) i =
        same_operand a (node_value p env a) (node_value p other a) (λ d. datapoint_of p o rules.rules d) (λ d. datapoint_of p o rules.rules d) (node_respects a i.0)
        (λ d e is q. datapoint_respects p o rules.rules (structure_of a) d e q)
    form_respects s (nodes.check_hierarchy a rules m o) i =
        let ruled = ruled_by rules (structure_of a) in
        same_operand a (node_value p env a) (node_value p other a) (λ d. check_hierarchy_of p o ruled m d rules.rules) (λ d. check_hierarchy_of p o ruled m d rules.rules) (node_respects a i.0)
        (λ d e is q. sides_respect ruled (structure_of a) d e (node_kept p env a d i.0 h is) q p m o rules.rules)
    form_respects s (nodes.hierarchy a rules m input o) i =
        let ruled = ruled_by rules (structure_of a) in
        same_operand a (node_value p env a) (node_value p other a) (λ d. hierarchy_of p ruled m input rules.rules d o s) (λ d. hierarchy_of p ruled m input rules.rules d o s) (node_respects a i.0)
        (λ d e is q. output_respects ruled (structure_of a) d e (node_kept p env a d i.0 h is) q p m input rules.rules o s i.1)

    nodes_respect : (ns : NodeTrees) → AreMade p (known_in env) ns → SameGiven (nodes_value p env ns) (nodes_value p other ns)
    nodes_respect nodes.no_nodes i = tt
    nodes_respect (nodes.and_node n ns) i =
        same_first n (node_value p env n) (node_value p other n) (nodes_value p env ns) (nodes_value p other ns) (node_respects n i.0) (nodes_respect ns i.1)

    operands_respect : (os : OperandTrees) → AreMadeOperands p (known_in env) os → SameGiven (operands_value p env os) (operands_value p other os)
    operands_respect nodes.no_operands i = tt
    operands_respect (nodes.operand n alias os) i =
        same_first n (node_value p env n) (node_value p other n) (operands_value p env os) (operands_value p other os) (node_respects n i.0) (operands_respect os i.1)

-- ---- statements
with_same : (name : List ℕ) (s : Structure) (d e : List Row) (m n : Result Outputs (Fault × List ℕ)) → Perm d e → SameMeaning m n → SameMeaning (with_output name (with_points s d) m) (with_output name (with_points s e) n)
with_same name s d e (Ok ds) (Ok es) q h = (refl, refl, q, h)
with_same name s d e (Err f) (Err g) q h = h
with_same name s d e (Ok ds) (Err g) q h = absurd h
with_same name s d e (Err f) (Ok es) q h = absurd h

module _ (s : Statement) (F G : DataSet → Result Outputs (Fault × List ℕ)) where
  abbrev data_with : List Row → DataSet
  data_with d = with_points (structure_of s.node) d

  stated_same : (m n : Outcome (List Row)) → Same m n → ((d e : List Row) → m ≡ Ok d → Perm d e → SameMeaning (F (data_with d)) (G (data_with e))) → SameMeaning (stated s (after m (λ d. Ok (data_with d))) F) (stated s (after n (λ d. Ok (data_with d))) G)
  stated_same (Ok d) (Ok e) q h = go s.persistent (h d e refl q)
    where
      go : (b : Bool) → SameMeaning (F (data_with d)) (G (data_with e)) → SameMeaning (cond b (with_output s.result (data_with d) (F (data_with d))) (F (data_with d))) (cond b (with_output s.result (data_with e) (G (data_with e))) (G (data_with e)))
      go true i = with_same s.result (structure_of s.node) d e (F (data_with d)) (G (data_with e)) q i
      go false i = i
  stated_same (Err f) (Err g) q h = ap (λ (x : Fault). (x, s.result)) q
  stated_same (Ok d) (Err g) q h = absurd q
  stated_same (Err f) (Ok e) q h = absurd q

pub meaning_respects : (p : Settings) (ss : List Statement) (env other : Environment) → AreMadeStatements p (known_in env) ss → AreDataSets env → SameData env other → SameMeaning (meaning p ss env) (meaning p ss other)
meaning_respects p [] env other i h same = tt
meaning_respects p (s ∷ rest) env other i h same =
    stated_same s (λ d. meaning p rest ((s.result, d) ∷ env)) (λ d. meaning p rest ((s.result, d) ∷ other)) (node_value p env s.node) (node_value p other s.node) (node_respects p env other h same s.node i.0)
    (λ d e is q. meaning_respects p rest ((s.result, with_points (structure_of s.node) d) ∷ env) ((s.result, with_points (structure_of s.node) e) ∷ other) i.1 (node_kept p env s.node d i.0 h is, h) (refl, refl, q, same))
