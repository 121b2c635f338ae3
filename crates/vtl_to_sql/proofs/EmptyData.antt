-- Over data sets without points no expression has a fault.
use Rattle.vtl_cell.specs.Row.{Row, same_key}
use Rattle.std.proofs.Common.{◌≡◌, ℕ, Bool, true, false, cond, List, [], ◌∷◌, map, Option, Some, None, Ok, refl, ap, ◌∙◌}
use Rattle.std.specs.List.{AllByRecursion, filter_map, flat_map}
use Rattle.std.specs.Option.{option_map_or}
use Rattle.vtl_cell.specs.Outcome.{Outcome, after, faults_by, unless}
use Rattle.vtl_lists.specs.Perm.{empty}
use Rattle.vtl_decimal.specs.Settings.{Settings}
use Rattle.vtl_syntax.specs.declared.statements.HierRule.{HierRule}
use Rattle.vtl_syntax.specs.declared.word_groups.CheckOut.{CheckOut}
use Rattle.vtl_syntax.specs.declared.word_groups.HierInput.{HierInput}
use Rattle.vtl_syntax.specs.declared.word_groups.HierOut.{HierOut}
use Rattle.vtl_syntax.specs.declared.word_groups.HierOut.TheVariants as out
use Rattle.vtl_syntax.specs.declared.word_groups.Mode.{Mode}
use Rattle.vtl_tree.specs.Clauses.{filter_of}
use Rattle.vtl_tree.specs.CompExp.{CompExp}
use Rattle.vtl_tree.specs.Environment.{DataSet, Environment, data_of, known_in, points_named}
use Rattle.vtl_tree.specs.Structure.{IsStructure, key_width, same_name}
use Rattle.vtl_tree.specs.Structures.{Named}
use Rattle.vtl_tree.specs.declared.structure.Structure.{Structure}
use Rattle.vtl_tuples.specs.Keys.{each_once}
use Rattle.vtl_tree.specs.Pairs.{contains}
use Rattle.vtl_meaning.specs.Aggregates.{aggregate_of}
use Rattle.vtl_meaning.specs.Analytics.{analytic_of}
use Rattle.vtl_timing.specs.Timed.{timed_of}
use Rattle.vtl_tree.specs.declared.calls.TimeOp.{TimeOp}
use Rattle.vtl_tree.specs.declared.calls.TimeOp.TheVariants as time
use Rattle.vtl_meaning.specs.Joined.{join_of}
use Rattle.vtl_scripts.specs.Meaning.{AreDataSets, operands_value, Outputs, Statement, form_value, kept_output, maybe_value, meaning, node_value, nodes_value, stated, with_first, with_operand}
use Rattle.vtl_meaning.specs.Operators.{calculated_of, choice_of, left_of, measured_of, pair_exps, pair_of, sub_of}
use Rattle.vtl_meaning.specs.Points.{each_point, with_points}
use Rattle.vtl_meaning.specs.Profiles.{AllAreOfProfile}
use Rattle.vtl_meaning.specs.Sets.{all_left_of, difference_of, intersection_of, symmetric_difference_of, union_of, united, existence_of}
use Rattle.vtl_meaning.specs.Turned.{pivot_of, unpivot_of}
use Rattle.vtl_tree.specs.Trees as nodes
use Rattle.vtl_tree.specs.Trees.{FormTree, MaybeNode, NodeTree, NodeTrees, OperandTrees, structure_of}
use Rattle.vtl_tree.specs.RuleItems.{definitions}
use Rattle.vtl_rulings.specs.Hierarchies.{hierarchy_of, made_fault, made_point, shown_points}
use Rattle.vtl_rulings.specs.HierarchyChecks.{Ruled, SidedRule, check_fault, check_hierarchy_of, check_point, combinations, items_at, ruled_by, sided_rules}
use Rattle.vtl_rulings.specs.PointChecks.{PointRule, check_of, datapoint_of, point_rules, rule_fault, rule_points}
use Rattle.vtl_to_sql.specs.Conditions.{AreNodesTranslated, AreOperandsTranslated, IsFormTranslated, IsMaybeTranslated, IsTranslated}
use Rattle.vtl_to_sql.specs.Exports.{AreRead}
use Rattle.vtl_to_sql.proofs.EmptyJoins.{empty_joined, joined_empty, none_joined}

abbrev pub AreEmpty : Environment → Type 0
AreEmpty env = AllByRecursion (λ d. d.1.points ≡ []) env

-- the data sets of these structures without points
abbrev pub empty_sets : Named → Environment
empty_sets reads = map (λ e. (e.0, with_points e.1 [])) reads

pub empty_known : (reads : Named) → known_in (empty_sets reads) ≡ reads
empty_known [] = refl
empty_known (e ∷ es) = ap (λ l. e ∷ l) (empty_known es)

pub empty_empty : (reads : Named) → AreEmpty (empty_sets reads)
empty_empty [] = tt
empty_empty (e ∷ es) = (refl, empty_empty es)

pub empty_are_sets : (reads : Named) → AllByRecursion (λ e. IsStructure e.1) reads → AreDataSets (empty_sets reads)
empty_are_sets [] h = tt
empty_are_sets (e ∷ es) h = (record { well_formed = h.0; typed = tt; distinct = refl }, empty_are_sets es h.1)

pub empty_ranged : (p : Settings) (reads : Named) → AllAreOfProfile p (empty_sets reads)
empty_ranged p [] = tt
empty_ranged p (e ∷ es) = (tt, empty_ranged p es)

pub empty_read : (reads : Named) → AreRead [] (empty_sets reads)
empty_read [] = tt
empty_read (e ∷ es) = (empty, empty_read es)

-- ---- expressions

abbrev no_rows : List Row
no_rows = []

abbrev no_outcome : Outcome (List Row)
no_outcome = Ok []

named_empty : (x : List ℕ) (env : Environment) → AreEmpty env → points_named x env ≡ []
named_empty x [] h = refl
named_empty x (d ∷ ds) h = go (same_name d.0 x) (named_empty x ds h.1)
  where
    go : (b : Bool) → points_named x ds ≡ [] → option_map_or (λ z. z.points) (cond b (Some d.1) (data_of x ds)) [] ≡ []
    go true ih = h.0
    go false ih = ih

no_pairs : (p : Settings) (es : List CompExp) (b : Bool) → each_point p es (cond b [] []) ≡ Ok []
no_pairs p es true = refl
no_pairs p es false = refl

-- operands without points
abbrev empty_operands : NodeTrees → List DataSet
empty_operands nodes.no_nodes = []
empty_operands (nodes.and_node n ns) = with_points (structure_of n) [] ∷ empty_operands ns

no_points : (ns : NodeTrees) (s : Structure) → flat_map (λ d. d) (all_left_of (empty_operands ns) s) ≡ no_rows
no_points nodes.no_nodes s = refl
no_points (nodes.and_node n ns) s = no_points ns s

no_common : (ns : NodeTrees) (s : Structure) → (Ok (intersection_of (empty_operands ns) s)) ≡ no_outcome
no_common nodes.no_nodes s = refl
no_common (nodes.and_node n ns) s = refl

abbrev empty_maybe : MaybeNode → Option DataSet
empty_maybe nodes.no_node = None
empty_maybe (nodes.some_node n) = Some (with_points (structure_of n) [])

-- a time operator without points
none_timed : (p : Settings) (o : TimeOp) (a s : Structure) → timed_of p o (with_points a []) s ≡ no_outcome
none_timed p (time.Shift n) a s = refl
none_timed p (time.Fill f) a s = refl
none_timed p time.FlowToStock a s = refl
none_timed p time.StockToFlow a s = refl

-- rules without points
none_ruled : (p : Settings) (o : CheckOut) (a : Structure) (rules : List PointRule) → unless (faults_by (rule_fault p (with_points a [])) rules) (flat_map (rule_points p o (with_points a [])) rules) ≡ no_outcome
none_ruled p o a [] = refl
none_ruled p o a (rule ∷ rules) = none_ruled p o a rules

-- hierarchical rules without points
none_sided : (p : Settings) (o : CheckOut) (h : Ruled) (m : Mode) (a : Structure) (rules : List SidedRule)
    → unless (faults_by (λ rule. faults_by (λ k. check_fault p m h.kind (items_at h (with_points a []) k) rule.1) (combinations h.id (with_points a []))) rules) (flat_map (λ rule. filter_map (check_point p o h m (with_points a []) rule) (combinations h.id (with_points a []))) rules) ≡ no_outcome
none_sided p o h m a [] = refl
none_sided p o h m a (rule ∷ rules) = none_sided p o h m a rules

none_made : (p : Settings) (h : Ruled) (m : Mode) (i : HierInput) (rules : List HierRule) (a : Structure) (o : HierOut) (s : Structure) → hierarchy_of p h m i rules (with_points a []) o s ≡ no_outcome
none_made p h m i rules a o s = ap (λ f. unless f (shown_points p h m i rules A o s)) (no_fault (definitions rules)) ∙ ap Ok (none_shown o)
  where
    A : DataSet
    A = with_points a []

    no_fault : (qs : List HierRule) → faults_by (λ r. faults_by (made_fault p h m i rules A r) (combinations h.id A)) qs ≡ None
    no_fault [] = refl
    no_fault (q ∷ qs) = no_fault qs

    none_of : (qs : List HierRule) → flat_map (λ r. filter_map (made_point p h m i rules A r) (combinations h.id A)) qs ≡ no_rows
    none_of [] = refl
    none_of (q ∷ qs) = none_of qs

    none_shown : (o : HierOut) → shown_points p h m i rules A o s ≡ []
    none_shown out.Computed = none_of (definitions rules)
    none_shown out.All = ap (λ l. united (key_width s) (l ∷ left_of A s ∷ [])) (none_of (definitions rules))

module _ (p : Settings) (env : Environment) (h : AreEmpty env) where
  mutual
    pub node_empty : (n : NodeTree) → IsTranslated p n → node_value p env n ≡ Ok []
    node_empty (nodes.node s form) c = form_empty s form c.1

    form_empty : (s : Structure) (form : FormTree) → IsFormTranslated p s form → form_value p env s form ≡ Ok []
    form_empty s (nodes.named x) c = ap Ok (named_empty x env h)
    form_empty s (nodes.measures m a) c = ap (λ v. with_operand a v (λ d. measured_of p m d s)) (node_empty a c.0)
    form_empty s (nodes.pair o a b) c =
        ap (λ v. with_operand a v (λ d. with_operand b (node_value p env b) (λ e. pair_of p o d e s))) (node_empty a c.0)
        ∙ ap (λ v. with_operand b v (λ e. pair_of p o (with_points (structure_of a) []) e s)) (node_empty b c.1)
        ∙ no_pairs p (pair_exps o (structure_of a) (structure_of b) s) (contains (structure_of a) (structure_of b))
    form_empty s (nodes.choose t a b) c =
        ap (λ v. with_operand t v (λ tests. with_operand a (node_value p env a) (λ d. with_operand b (node_value p env b) (λ e. Ok (choice_of tests d e s))))) (node_empty t c.0)
        ∙ ap (λ v. with_operand a v (λ d. with_operand b (node_value p env b) (λ e. Ok (choice_of (with_points (structure_of t) []) d e s)))) (node_empty a c.1)
        ∙ ap (λ v. with_operand b v (λ e. Ok (choice_of (with_points (structure_of t) []) (with_points (structure_of a) []) e s))) (node_empty b c.2)
    form_empty s (nodes.member a m) c = ap (λ v. with_operand a v (λ d. Ok (left_of d s))) (node_empty a c)
    form_empty s (nodes.filter a e) c = ap (λ v. after v (filter_of p e)) (node_empty a c.0)
    form_empty s (nodes.calc a items) c = ap (λ v. with_operand a v (λ d. calculated_of p items d s)) (node_empty a c.0)
    form_empty s (nodes.keep a ns) c = ap (λ v. with_operand a v (λ d. Ok (left_of d s))) (node_empty a c)
    form_empty s (nodes.drop_named a ns) c = ap (λ v. with_operand a v (λ d. Ok (left_of d s))) (node_empty a c)
    form_empty s (nodes.rename a pairs) c = node_empty a c
    form_empty s (nodes.sub a items) c = ap (λ v. with_operand a v (λ d. Ok (sub_of items d s))) (node_empty a c.0)
    form_empty s (nodes.join os spec) c = ap (λ o. after o (λ ds. Ok (join_of spec.kind ds))) (operands_empty os c.0) ∙ ap Ok (none_joined spec.kind (empty_joined os) (joined_empty os))
    form_empty s (nodes.union ns) c = ap (λ o. after o (λ ds. Ok (union_of ds s))) (nodes_empty ns c) ∙ ap (λ l. Ok (each_once (same_key (key_width s)) l)) (no_points ns s)
    form_empty s (nodes.intersect ns) c = ap (λ o. after o (λ ds. Ok (intersection_of ds s))) (nodes_empty ns c) ∙ no_common ns s
    form_empty s (nodes.set_diff a b) c =
        ap (λ v. with_operand a v (λ d. with_operand b (node_value p env b) (λ e. Ok (difference_of d e s)))) (node_empty a c.0)
        ∙ ap (λ v. with_operand b v (λ e. Ok (difference_of (with_points (structure_of a) []) e s))) (node_empty b c.1)
    form_empty s (nodes.sym_diff a b) c =
        ap (λ v. with_operand a v (λ d. with_operand b (node_value p env b) (λ e. Ok (symmetric_difference_of d e s)))) (node_empty a c.0)
        ∙ ap (λ v. with_operand b v (λ e. Ok (symmetric_difference_of (with_points (structure_of a) []) e s))) (node_empty b c.1)
    form_empty s (nodes.exists_in a b kept) c =
        ap (λ v. with_operand a v (λ d. with_operand b (node_value p env b) (λ e. Ok (existence_of d e kept)))) (node_empty a c.0)
        ∙ ap (λ v. with_operand b v (λ e. Ok (existence_of (with_points (structure_of a) []) e kept))) (node_empty b c.1)
    form_empty s (nodes.pivot a id m) c = ap (λ v. with_operand a v (λ d. Ok (pivot_of d id m))) (node_empty a c.0)
    form_empty s (nodes.unpivot a id m) c = ap (λ v. with_operand a v (λ d. Ok (unpivot_of d))) (node_empty a c)
    form_empty s (nodes.aggregate a spec) c = ap (λ v. with_operand a v (λ d. aggregate_of p spec d s)) (node_empty a c.0)
    form_empty s (nodes.analytic_of a spec) c = ap (λ v. with_operand a v (λ d. analytic_of p spec d s)) (node_empty a c.0)
    form_empty s (nodes.time a o) c = ap (λ v. with_operand a v (λ d. timed_of p o d s)) (node_empty a c) ∙ none_timed p o (structure_of a) s
    form_empty s (nodes.check a i spec) c =
        ap (λ v. with_operand a v (λ d. after (maybe_value p env i) (λ e. Ok (check_of p spec d e)))) (node_empty a c.0)
        ∙ ap (λ o. after o (λ e. Ok (check_of p spec (with_points (structure_of a) []) e))) (maybe_empty i c.1)
    form_empty s (nodes.check_datapoint a rules out) c = ap (λ v. with_operand a v (λ d. datapoint_of p out rules.rules d)) (node_empty a c.0) ∙ none_ruled p out (structure_of a) (point_rules rules.rules)
    form_empty s (nodes.check_hierarchy a rules m o) c =
        let ruled = ruled_by rules (structure_of a) in
        ap (λ v. with_operand a v (λ d. check_hierarchy_of p o ruled m d rules.rules)) (node_empty a c.0) ∙ none_sided p o ruled m (structure_of a) (sided_rules rules.rules)
    form_empty s (nodes.hierarchy a rules m i o) c =
        let ruled = ruled_by rules (structure_of a) in
        ap (λ v. with_operand a v (λ d. hierarchy_of p ruled m i rules.rules d o s)) (node_empty a c.0) ∙ none_made p ruled m i rules.rules (structure_of a) o s

    nodes_empty : (ns : NodeTrees) → AreNodesTranslated p ns → nodes_value p env ns ≡ Ok (empty_operands ns)
    nodes_empty nodes.no_nodes c = refl
    nodes_empty (nodes.and_node n ns) c = ap (λ v. with_first n v (nodes_value p env ns)) (node_empty n c.0) ∙ ap (with_first n (Ok [])) (nodes_empty ns c.1)

    maybe_empty : (i : MaybeNode) → IsMaybeTranslated p i → maybe_value p env i ≡ Ok (empty_maybe i)
    maybe_empty nodes.no_node c = refl
    maybe_empty (nodes.some_node n) c = ap (λ v. after v (λ points. Ok (Some (with_points (structure_of n) points)))) (node_empty n c)

    operands_empty : (os : OperandTrees) → AreOperandsTranslated p os → operands_value p env os ≡ Ok (empty_joined os)
    operands_empty nodes.no_operands c = refl
    operands_empty (nodes.operand n alias os) c = ap (λ v. with_first n v (operands_value p env os)) (node_empty n c.0) ∙ ap (with_first n (Ok [])) (operands_empty os c.1)

-- ---- statements

-- a script has outputs
pub meaning_there : (p : Settings) (ss : List Statement) (env : Environment) → AreEmpty env → AllByRecursion (λ s. IsTranslated p s.node) ss → (outputs : Outputs) × (meaning p ss env ≡ Ok outputs)
meaning_there p [] env h c = ([], refl)
meaning_there p (s ∷ ss) env h c =
    let d = with_points (structure_of s.node) [] in
    let rest = meaning_there p ss ((s.result, d) ∷ env) (refl, h) c.1 in
    let step : meaning p (s ∷ ss) env ≡ kept_output s d (Ok rest.0) =
    ap (λ v. stated s (after v (λ points. Ok (with_points (structure_of s.node) points))) (λ e. meaning p ss ((s.result, e) ∷ env))) (node_empty p env h s.node c.0) ∙ ap (kept_output s d) rest.1 in
    go s.persistent rest.0 step
  where
    go : (b : Bool) (outs : Outputs) → meaning p (s ∷ ss) env ≡ cond b (Ok ((s.result, with_points (structure_of s.node) []) ∷ outs)) (Ok outs) → (outputs : Outputs) × (meaning p (s ∷ ss) env ≡ Ok outputs)
    go true outs e = ((s.result, with_points (structure_of s.node) []) ∷ outs, e)
    go false outs e = (outs, e)
