-- The law for expressions: where all that the points depend on is known, the points of both runs stand together, and agree in each column of
-- which all sources are known.
use Rattle.lineage_laws.proofs.Clauses.{calc_agrees, filter_agrees, left_agrees as left_rows_agree, measures_agree, rename_agrees, sub_agrees}
use Rattle.lineage_laws.proofs.Columns.{among_identifiers, kept_identifiers}
use Rattle.lineage_laws.proofs.Fulls.{HasIds, cross_agrees, full_agrees, structure_in}
use Rattle.lineage_laws.proofs.Groups.{aggregate_agrees}
use Rattle.lineage_laws.proofs.Joins.{AreTwins, Gives, Twin, either_agrees, first_of, inner_agrees, intersected_agrees, left_agrees, operand_in, reduced_agrees, second_of, shown_agrees, united_agrees}
use Rattle.lineage_laws.proofs.Pairs.{choice_agrees, pair_agrees}
use Rattle.lineage_laws.proofs.Rows.{known_all, known_parts, namesakes_known, points_known}
use Rattle.lineage_laws.proofs.Rulings.{AreTwinsIf, check_agrees, check_hierarchy_same, datapoint_agrees, equal_agrees, hierarchy_same, measures_stay, others_are, rules_known}
use Rattle.lineage_laws.proofs.Values.{condition_known, expression_known}
use Rattle.lineage_laws.proofs.Times.{timed_agrees}
use Rattle.lineage_laws.proofs.Turned.{exists_agrees, pivot_agrees, unpivot_agrees}
use Rattle.lineage_laws.proofs.Windows.{analytic_agrees}
use Rattle.lineage_laws.specs.Agree.{Agreeing, IsKnown, Known}
use Rattle.std.proofs.Common.{◌≡◌, ℕ, zero, suc, List, [], ◌∷◌, ◌++◌, length, map, Ok, Option, None, Some, option_map, refl, sym, ap, ◌∙◌, subst}
use Rattle.std.specs.List.{AllByRecursion}
use Rattle.std.specs.Map.{lookup}
use Rattle.std.specs.Option.{option_map_or}
use Rattle.std.specs.Prelude.{slice_get}
use Rattle.vtl_cell.specs.Outcome.{after}
use Rattle.vtl_cell.specs.Row.{Row}
use Rattle.vtl_decimal.specs.Settings.{Settings}
use Rattle.vtl_meaning.proofs.JoinKept.{join_with}
use Rattle.vtl_meaning.proofs.Kept.{after_ok, ok_is}
use Rattle.vtl_meaning.proofs.Places.{all_of_map, length-names}
use Rattle.vtl_meaning.specs.Shapes.{IsShaped}
use Rattle.vtl_rulings.specs.Hierarchies.{hierarchy_of}
use Rattle.vtl_rulings.specs.HierarchyChecks.{check_hierarchy_of, ruled_by}
use Rattle.vtl_rulings.specs.PointChecks.{check_of, datapoint_of}
use Rattle.std.proofs.lemmas.List.{length-map}
use Rattle.vtl_meaning.specs.Aggregates.{aggregate_of}
use Rattle.vtl_meaning.specs.Analytics.{analytic_of}
use Rattle.vtl_meaning.specs.Joined.{join_of, joined_of, reference_place, structures_of}
use Rattle.vtl_meaning.specs.Made.{AreAmong, GoTogether, AreCombined, HasIdentifiers, IsAlternative, IsJoined}
use Rattle.vtl_meaning.specs.Operators.{calculated_of, choice_of, left_of, measured_of, pair_of, sub_of}
use Rattle.vtl_meaning.specs.Points.{with_points}
use Rattle.vtl_meaning.specs.Sets.{difference_of, existence_of, intersection_of, symmetric_difference_of, union_of}
use Rattle.vtl_timing.specs.Timed.{timed_of}
use Rattle.vtl_meaning.specs.Turned.{pivot_of, unpivot_of}
use Rattle.vtl_scripts.proofs.ScriptsKept.{first_ok, node_kept, operand_ok}
use Rattle.vtl_scripts.specs.Made.{AreMade, AreMadeOperands, IsMade, IsMadeForm, IsMadeMaybe, node_structures, operands_in}
use Rattle.vtl_scripts.specs.Meaning.{AreDataSets, form_value, maybe_value, node_value, nodes_value, operands_value, with_operand}
use Rattle.vtl_syntax.specs.declared.word_groups.JoinKind.{JoinKind}
use Rattle.vtl_syntax.specs.declared.word_groups.JoinKind.TheVariants as join
use Rattle.vtl_tree.specs.Clauses.{filter_of}
use Rattle.vtl_tree.specs.Columns.{identifiers_of, measures_of, others_of}
use Rattle.vtl_tree.specs.DataSet.{IsDataSet}
use Rattle.vtl_tree.specs.Environment.{DataSet, Environment, known_in, points_named}
use Rattle.vtl_tree.specs.Joins as joins
use Rattle.vtl_tree.specs.Structure.{key_width, same_name}
use Rattle.vtl_tree.specs.Structures.{Named}
use Rattle.vtl_tree.specs.Trees.{FormTree, MaybeNode, NodeTree, NodeTrees, OperandTrees, structure_of}
use Rattle.vtl_tree.specs.Trees as nodes
use Rattle.vtl_tree.specs.declared.structure.Component.{Component}
use Rattle.vtl_tree.specs.declared.structure.Structure.{Structure}
use Rattle.lineage_laws.specs.Over.{Operand, Past, columns_from, form_lineage, found_named, lineage, maybe_lineage, measure_sources, namesakes, no_pairs, nodes_lineage, of_check, of_join, of_left, of_measured, of_points, of_set, operand_of, operands_lineage, points_of_all, source_at, source_named, with_measure}

-- ---- several operands
firsts_are : (l : List Twin) → structures_of (map first_of l) ≡ map structure_in l
firsts_are [] = refl
firsts_are (x ∷ l) = ap (λ ss. x.operand.structure ∷ ss) (firsts_are l)

seconds_are : (l : List Twin) → structures_of (map second_of l) ≡ map structure_in l
seconds_are [] = refl
seconds_are (x ∷ l) = ap (λ ss. x.operand.structure ∷ ss) (seconds_are l)

-- the operand at a place
twin_at : (P : Twin → Type 0) (l : List Twin) (i : ℕ) (r : Structure) → AllByRecursion P l → slice_get (map structure_in l) i ≡ Some r → (x : Twin) × P x × (x.operand.structure ≡ r) × (slice_get (map first_of l) i ≡ Some (first_of x)) × (slice_get (map second_of l) i ≡ Some (second_of x))
twin_at P [] i r all e = cc
twin_at P (x ∷ l) zero r all e = let same : x.operand.structure ≡ r = cc in (x, all.0, same, refl, refl)
twin_at P (x ∷ l) (suc i) r all e = twin_at P l i r all.1 e

have_ids : (known : Known) (s a : Structure) (width : length (identifiers_of a) ≡ length (identifiers_of s)) (l : List Twin) → AllByRecursion (AreTwins known) l → AllByRecursion (λ b. AreAmong (identifiers_of b) (identifiers_of a) × AreAmong (identifiers_of a) (identifiers_of b)) (map structure_in l) → AllByRecursion (HasIds known s (identifiers_of a) width) l
have_ids known s a width [] all h = tt
have_ids known s a width (x ∷ l) all h = ((all.0, among_identifiers (identifiers_of a) x.operand.structure h.0.1), have_ids known s a width l all.1 h.1)

pub join_agrees : (known : Known) (kind : JoinKind) (l : List Twin) → AllByRecursion (AreTwins known) l → (s : Structure) → IsJoined kind (map structure_in l) s → Agreeing known (columns_from s (of_join (map operand_in l))) (join_of kind (map first_of l)) (join_of kind (map second_of l))
join_agrees known kind l all s i =
    let x = twin_at (AreTwins known) l (reference_place kind (map structure_in l)) i.reference all i.there in
    let one : slice_get (map first_of l) (reference_place kind (structures_of (map first_of l))) ≡ Some (first_of x.0) = subst (λ ss. slice_get (map first_of l) (reference_place kind ss) ≡ Some (first_of x.0)) (sym (firsts_are l)) x.3 in
    let two : slice_get (map second_of l) (reference_place kind (structures_of (map second_of l))) ≡ Some (second_of x.0) = subst (λ ss. slice_get (map second_of l) (reference_place kind ss) ≡ Some (second_of x.0)) (sym (seconds_are l)) x.4 in
    subst (λ z. Agreeing known (columns_from s (of_join (map operand_in l))) z (join_of kind (map second_of l))) (sym (join_with kind (map first_of l) (first_of x.0) one))
    (subst (λ z. Agreeing known (columns_from s (of_join (map operand_in l))) (joined_of kind (first_of x.0) (map first_of l)) z) (sym (join_with kind (map second_of l) (second_of x.0) two))
    (by_kind kind x.0 x.1 (subst (λ r. GoTogether kind r (map structure_in l) s) (sym x.2) i.identifiers)))
  where
    by_kind : (k : JoinKind) (x : Twin) → AreTwins known x → GoTogether k x.operand.structure (map structure_in l) s → Agreeing known (columns_from s (of_join (map operand_in l))) (joined_of k (first_of x) (map first_of l)) (joined_of k (second_of x) (map second_of l))
    by_kind join.Inner x w g = inner_agrees known x w l all s g.0
    by_kind join.Left x w g = left_agrees known x w l all s g.0
    by_kind join.Full x w g = full_agrees known s (identifiers_of x.operand.structure) (sym (length-names (identifiers_of s) (identifiers_of x.operand.structure) g.0.0)) l (have_ids known s x.operand.structure (sym (length-names (identifiers_of s) (identifiers_of x.operand.structure) g.0.0)) l all g.1)
    by_kind join.Cross x w g = cross_agrees known s l all g

-- ---- set operators
set_given : (known : Known) (s : Structure) (l : List Twin) (os : List Operand) → AllByRecursion (AreTwins known) l → AllByRecursion (λ b. IsAlternative s b s) (map structure_in l)
    → ((y : Component) → IsKnown known (namesakes os y) → AllByRecursion (λ a. IsKnown known (source_named a y.name)) (map operand_in l)) → AllByRecursion (Gives known s (points_of_all os) (namesakes os)) l
set_given known s [] os all alike more = tt
set_given known s (x ∷ l) os all alike more =
    ((all.0, alike.0.back, (λ y h. (more y h).0)), set_given known s l os all.1 alike.1 (λ y h. (more y h).1))

pub union_agrees : (known : Known) (l : List Twin) → AllByRecursion (AreTwins known) l → IsKnown known (points_of_all (map operand_in l)) → (s : Structure) → AreCombined (map structure_in l) s → Agreeing known (columns_from s (of_set (map operand_in l) s)) (union_of (map first_of l) s) (union_of (map second_of l) s)
union_agrees known [] all h s i = absurd i
union_agrees known (x ∷ l) all h s i = let os = map operand_in (x ∷ l) in united_agrees known s (points_of_all os) (namesakes os) h (x ∷ l) (set_given known s (x ∷ l) os all i.operands (λ y k. namesakes_known known os y k))

pub intersection_agrees : (known : Known) (l : List Twin) → AllByRecursion (AreTwins known) l → IsKnown known (points_of_all (map operand_in l)) → (s : Structure) → AreCombined (map structure_in l) s → Agreeing known (columns_from s (of_set (map operand_in l) s)) (intersection_of (map first_of l) s) (intersection_of (map second_of l) s)
intersection_agrees known [] all h s i = absurd i
intersection_agrees known (x ∷ l) all h s i =
    let os = map operand_in (x ∷ l) in
    let given = set_given known s (x ∷ l) os all i.operands (λ y k. namesakes_known known os y k) in
    intersected_agrees known s (points_of_all os) (namesakes os) h (left_of (first_of x) s) (left_of (second_of x) s) (shown_agrees known s (points_of_all os) (namesakes os) x given.0) l given.1

-- ---- expressions
module _ (p : Settings) (known : Known) (past : Past) (env other : Environment) (he : AreDataSets env) (ho : AreDataSets other) (alike : known_in other ≡ known_in env)
    (named_agree : (name : List ℕ) (s : Structure) → lookup (same_name name) (known_in env) ≡ Some s → IsKnown known (found_named name past).points → Agreeing known (columns_from s (found_named name past)) (points_named name env) (points_named name other)) where
  abbrev K : Named
  K = known_in env

  one_kept : (n : NodeTree) (d : List Row) → IsMade p K n → node_value p env n ≡ Ok d → IsDataSet (structure_of n) d
  one_kept n d i e = node_kept p env n d i he e

  two_kept : (n : NodeTree) (d : List Row) → IsMade p K n → node_value p other n ≡ Ok d → IsDataSet (structure_of n) d
  two_kept n d i e = node_kept p other n d (subst (λ k. IsMade p k n) (sym alike) i) ho e

  abbrev operand : NodeTree → Operand
  operand n = operand_of n (lineage past n)

  -- both points of an operand
  abbrev AgreesAt : NodeTree → Type 0
  AgreesAt n = (d t : List Row) → IsKnown known (lineage past n).points → node_value p env n ≡ Ok d → node_value p other n ≡ Ok t → Agreeing known (columns_from (structure_of n) (lineage past n)) d t

  abbrev twin_of : (n : NodeTree) (d t : List Row) → Twin
  twin_of n d t = record { operand = operand n; first = d; second = t }

  left_form : (a : NodeTree) (s : Structure) → AgreesAt a → HasIdentifiers s (identifiers_of (structure_of a)) → (out t : List Row) → IsKnown known (lineage past a).points
      → with_operand a (node_value p env a) (λ d. Ok (left_of d s)) ≡ Ok out → with_operand a (node_value p other a) (λ d. Ok (left_of d s)) ≡ Ok t → Agreeing known (columns_from s (of_left (operand a) s)) out t
  left_form a s ih ids out t h e f =
      let x = operand_ok a (node_value p env a) (λ d. Ok (left_of d s)) out e in
      let y = operand_ok a (node_value p other a) (λ d. Ok (left_of d s)) t f in
      subst (λ z. Agreeing known (columns_from s (of_left (operand a) s)) z t) (ok_is (left_of (with_points (structure_of a) x.0) s) out x.2)
      (subst (λ z. Agreeing known (columns_from s (of_left (operand a) s)) (left_of (with_points (structure_of a) x.0) s) z) (ok_is (left_of (with_points (structure_of a) y.0) s) t y.2)
      (left_rows_agree known p (operand a) s (kept_identifiers s (structure_of a) ids) x.0 y.0 (ih x.0 y.0 h x.1 y.1)))

  -- ---- all forms
  -- operands in both runs, as twins
  record Twinned (os : List Operand) (ss : List Structure) (ds es : List DataSet) : Type 0 where
    list : List Twin
    operands : map operand_in list ≡ os
    structures : map structure_in list ≡ ss
    firsts : map first_of list ≡ ds
    seconds : map second_of list ≡ es
    twins : AllByRecursion (AreTwins known) list

  add_twin : (n : NodeTree) (d t : List Row) (os : List Operand) (ss : List Structure) (ds es us vs : List DataSet) → AreTwins known (twin_of n d t) → with_points (structure_of n) d ∷ ds ≡ us → with_points (structure_of n) t ∷ es ≡ vs → Twinned os ss ds es → Twinned (operand n ∷ os) (structure_of n ∷ ss) us vs
  add_twin n d t os ss ds es us vs w e f r = record {
    list = twin_of n d t ∷ r.list;
    operands = ap (λ l. operand n ∷ l) r.operands;
    structures = ap (λ l. structure_of n ∷ l) r.structures;
    firsts = ap (λ l. with_points (structure_of n) d ∷ l) r.firsts ∙ e;
    seconds = ap (λ l. with_points (structure_of n) t ∷ l) r.seconds ∙ f;
    twins = (w, r.twins);
  }

  no_twins : (ds es : List DataSet) → [] ≡ ds → [] ≡ es → Twinned [] [] ds es
  no_twins ds es e f = record { list = []; operands = refl; structures = refl; firsts = e; seconds = f; twins = tt }

  twin_told : (n : NodeTree) (d t : List Row) → IsMade p K n → IsKnown known (lineage past n).points → AgreesAt n → node_value p env n ≡ Ok d → node_value p other n ≡ Ok t → AreTwins known (twin_of n d t)
  twin_told n d t i h ih e f = record { points = h; agree = ih d t h e f; one = one_kept n d i e; two = two_kept n t i f }

  -- an operand that may be left out, in both runs
  record MaybeTwinned (o : Option Operand) (ds es : Option DataSet) : Type 0 where
    twin : Option Twin
    given : option_map (λ w. w.operand) twin ≡ o
    first : option_map first_of twin ≡ ds
    second : option_map second_of twin ≡ es
    told : IsKnown known (option_map_or (λ d. with_measure d d.sources.points) (option_map (λ w. w.operand) twin) no_pairs) → AreTwinsIf known twin

  mutual
    pub node_agrees : (n : NodeTree) → IsMade p K n → AgreesAt n
    node_agrees (nodes.node s form) i d t h e f = form_agrees s form i.0 i.1 d t h e f

    form_agrees : (s : Structure) (form : FormTree) → IsShaped s → IsMadeForm p K s form → (d t : List Row) → IsKnown known (form_lineage past s form).points → form_value p env s form ≡ Ok d → form_value p other s form ≡ Ok t → Agreeing known (columns_from s (form_lineage past s form)) d t
    form_agrees s (nodes.named name) made i d t h e f =
        let cols = columns_from s (found_named name past) in
        subst (λ z. Agreeing known cols z t) (ok_is (points_named name env) d e) (subst (λ z. Agreeing known cols (points_named name env) z) (ok_is (points_named name other) t f) (named_agree name s i h))
    form_agrees s (nodes.measures m a) made i d t h e f =
        let x = operand_ok a (node_value p env a) (λ z. measured_of p m z s) d e in
        let y = operand_ok a (node_value p other a) (λ z. measured_of p m z s) t f in
        measures_agree known p (operand a) m s i.1 x.0 y.0 d t (node_agrees a i.0 x.0 y.0 h x.1 y.1) x.2 y.2
    form_agrees s (nodes.pair o a c) made i d t h e f =
        let parts = known_parts known (lineage past a).points (lineage past c).points h in
        let x = operand_ok a (node_value p env a) (λ z. with_operand c (node_value p env c) (λ q. pair_of p o z q s)) d e in
        let y = operand_ok c (node_value p env c) (λ q. pair_of p o (with_points (structure_of a) x.0) q s) d x.2 in
        let u = operand_ok a (node_value p other a) (λ z. with_operand c (node_value p other c) (λ q. pair_of p o z q s)) t f in
        let v = operand_ok c (node_value p other c) (λ q. pair_of p o (with_points (structure_of a) u.0) q s) t u.2 in
        pair_agrees known p o (operand a) (operand c) parts.0 parts.1 x.0 u.0 y.0 v.0
        (one_kept a x.0 i.0 x.1) (two_kept a u.0 i.0 u.1) (one_kept c y.0 i.1 y.1) (two_kept c v.0 i.1 v.1)
        (node_agrees a i.0 x.0 u.0 parts.0 x.1 u.1) (node_agrees c i.1 y.0 v.0 parts.1 y.1 v.1) s i.2 d t y.2 v.2
    form_agrees s (nodes.choose c a q) made i d t h e f =
        let last = known_parts known ((lineage past c).points ++ (lineage past a).points ++ (lineage past q).points) (source_at (operand c) (key_width (structure_of c))) h in
        let more = known_parts known ((lineage past c).points ++ (lineage past a).points) (lineage past q).points last.0 in
        let parts = known_parts known (lineage past c).points (lineage past a).points more.0 in
        let w = operand_ok c (node_value p env c) (λ tests. with_operand a (node_value p env a) (λ z. with_operand q (node_value p env q) (λ y. Ok (choice_of tests z y s)))) d e in
        let x = operand_ok a (node_value p env a) (λ z. with_operand q (node_value p env q) (λ y. Ok (choice_of (with_points (structure_of c) w.0) z y s))) d w.2 in
        let y = operand_ok q (node_value p env q) (λ y. Ok (choice_of (with_points (structure_of c) w.0) (with_points (structure_of a) x.0) y s)) d x.2 in
        let l = operand_ok c (node_value p other c) (λ tests. with_operand a (node_value p other a) (λ z. with_operand q (node_value p other q) (λ y. Ok (choice_of tests z y s)))) t f in
        let m = operand_ok a (node_value p other a) (λ z. with_operand q (node_value p other q) (λ y. Ok (choice_of (with_points (structure_of c) l.0) z y s))) t l.2 in
        let n = operand_ok q (node_value p other q) (λ y. Ok (choice_of (with_points (structure_of c) l.0) (with_points (structure_of a) m.0) y s)) t m.2 in
        let cols = columns_from s (form_lineage past s (nodes.choose c a q)) in
        subst (λ z. Agreeing known cols z t) (ok_is (choice_of (with_points (structure_of c) w.0) (with_points (structure_of a) x.0) (with_points (structure_of q) y.0) s) d y.2)
        (subst (λ z. Agreeing known cols (choice_of (with_points (structure_of c) w.0) (with_points (structure_of a) x.0) (with_points (structure_of q) y.0) s) z) (ok_is (choice_of (with_points (structure_of c) l.0) (with_points (structure_of a) m.0) (with_points (structure_of q) n.0) s) t n.2)
        (choice_agrees known (operand c) (operand a) (operand q) parts.0 parts.1 more.1 last.1 w.0 l.0 x.0 m.0 y.0 n.0
        (one_kept a x.0 i.1 x.1) (two_kept a m.0 i.1 m.1) (one_kept q y.0 i.2 y.1) (two_kept q n.0 i.2 n.1)
        (node_agrees c i.0 w.0 l.0 parts.0 w.1 l.1) (node_agrees a i.1 x.0 m.0 parts.1 x.1 m.1) (node_agrees q i.2 y.0 n.0 more.1 y.1 n.1) s i.3))
    form_agrees s (nodes.member a m) made i d t h e f = left_form a s (λ x y k l m. node_agrees a i.0 x y k l m) i.1.identifiers d t h e f
    form_agrees s (nodes.keep a names) made i d t h e f = left_form a s (λ x y k l m. node_agrees a i.0 x y k l m) i.1.identifiers d t h e f
    form_agrees s (nodes.drop_named a names) made i d t h e f = left_form a s (λ x y k l m. node_agrees a i.0 x y k l m) i.1.identifiers d t h e f
    form_agrees s (nodes.filter a q) made i d t h e f =
        let x = after_ok (node_value p env a) (filter_of p q) d e in
        let y = after_ok (node_value p other a) (filter_of p q) t f in
        subst (λ z. Agreeing known (columns_from z (form_lineage past s (nodes.filter a q))) d t) (sym i.1.same)
        (filter_agrees known p (operand a) q x.0 y.0 d t h (node_agrees a i.0 x.0 y.0 (expression_known known (operand a) (lineage past a).points q h) x.1 y.1) x.2 y.2)
    form_agrees s (nodes.calc a items) made i d t h e f =
        let x = operand_ok a (node_value p env a) (λ z. calculated_of p items z s) d e in
        let y = operand_ok a (node_value p other a) (λ z. calculated_of p items z s) t f in
        calc_agrees known p (operand a) items s i.1 x.0 y.0 d t (node_agrees a i.0 x.0 y.0 h x.1 y.1) x.2 y.2
    form_agrees s (nodes.rename a pairs) made i d t h e f = rename_agrees known p (operand a) s i.1 d t (node_agrees a i.0 d t h e f)
    form_agrees s (nodes.sub a items) made i d t h e f =
        let x = operand_ok a (node_value p env a) (λ z. Ok (sub_of items z s)) d e in
        let y = operand_ok a (node_value p other a) (λ z. Ok (sub_of items z s)) t f in
        let cols = columns_from s (of_left (operand a) s) in
        subst (λ z. Agreeing known cols z t) (ok_is (sub_of items (with_points (structure_of a) x.0) s) d x.2) (subst (λ z. Agreeing known cols (sub_of items (with_points (structure_of a) x.0) s) z) (ok_is (sub_of items (with_points (structure_of a) y.0) s) t y.2)
        (sub_agrees known p (operand a) items s i.1 x.0 y.0 (node_agrees a i.0 x.0 y.0 h x.1 y.1)))
    form_agrees s (nodes.pivot a id m) made i d t h e f =
        let x = operand_ok a (node_value p env a) (λ z. Ok (pivot_of z id m)) d e in
        let y = operand_ok a (node_value p other a) (λ z. Ok (pivot_of z id m)) t f in
        let cols = columns_from s (form_lineage past s (nodes.pivot a id m)) in
        subst (λ z. Agreeing known cols z t) (ok_is (pivot_of (with_points (structure_of a) x.0) id m) d x.2) (subst (λ z. Agreeing known cols (pivot_of (with_points (structure_of a) x.0) id m) z) (ok_is (pivot_of (with_points (structure_of a) y.0) id m) t y.2)
        (pivot_agrees known (operand a) id m s i.1 (one_kept a x.0 i.0 x.1).well_formed x.0 y.0 (node_agrees a i.0 x.0 y.0 h x.1 y.1)))
    form_agrees s (nodes.unpivot a id m) made i d t h e f =
        let x = operand_ok a (node_value p env a) (λ z. Ok (unpivot_of z)) d e in
        let y = operand_ok a (node_value p other a) (λ z. Ok (unpivot_of z)) t f in
        let parts = known_all known (lineage past a).points (measure_sources (operand a)) h in
        let cols = columns_from s (form_lineage past s (nodes.unpivot a id m)) in
        subst (λ z. Agreeing known cols z t) (ok_is (unpivot_of (with_points (structure_of a) x.0)) d x.2) (subst (λ z. Agreeing known cols (unpivot_of (with_points (structure_of a) x.0)) z) (ok_is (unpivot_of (with_points (structure_of a) y.0)) t y.2)
        (unpivot_agrees known (operand a) parts.1 id m s i.1 x.0 y.0 (node_agrees a i.0 x.0 y.0 parts.0 x.1 y.1) (one_kept a x.0 i.0 x.1) (two_kept a y.0 i.0 y.1)))
    form_agrees s (nodes.aggregate a spec) made i d t h e f =
        let x = operand_ok a (node_value p env a) (λ z. aggregate_of p spec z s) d e in
        let y = operand_ok a (node_value p other a) (λ z. aggregate_of p spec z s) t f in
        let own = condition_known known (operand a) spec.having h in
        aggregate_agrees known p (operand a) spec s i.1.aggregated h x.0 y.0 (node_agrees a i.0 x.0 y.0 own x.1 y.1) d t x.2 y.2
    form_agrees s (nodes.analytic_of a spec) made i d t h e f =
        let x = operand_ok a (node_value p env a) (λ z. analytic_of p spec z s) d e in
        let y = operand_ok a (node_value p other a) (λ z. analytic_of p spec z s) t f in
        analytic_agrees known p (operand a) spec s i.1.analyzed x.0 y.0 (node_agrees a i.0 x.0 y.0 h x.1 y.1) (one_kept a x.0 i.0 x.1) (two_kept a y.0 i.0 y.1) d t x.2 y.2
    form_agrees s (nodes.time a o) made i d t h e f =
        let x = operand_ok a (node_value p env a) (λ z. timed_of p o z s) d e in
        let y = operand_ok a (node_value p other a) (λ z. timed_of p o z s) t f in
        timed_agrees known (twin_of a x.0 y.0) (twin_told a x.0 y.0 i.0 h (λ k l m n z. node_agrees a i.0 k l m n z) x.1 y.1) p o s i.1 d t x.2 y.2
    form_agrees s (nodes.join os spec) made i d t h e f =
        let x = after_ok (operands_value p env os) (λ ds. Ok (join_of spec.kind ds)) d e in
        let y = after_ok (operands_value p other os) (λ ds. Ok (join_of spec.kind ds)) t f in
        let r = operands_twinned os x.0 y.0 i.0 (points_known known (operands_lineage past os) h) x.1 y.1 in
        let G : List Operand → List DataSet → List DataSet → Type 0 = λ l ds es. Agreeing known (columns_from s (of_join l)) (join_of spec.kind ds) (join_of spec.kind es) in
        subst (λ z. Agreeing known (columns_from s (of_join (operands_lineage past os))) z t) (ok_is (join_of spec.kind x.0) d x.2) (subst (λ z. Agreeing known (columns_from s (of_join (operands_lineage past os))) (join_of spec.kind x.0) z) (ok_is (join_of spec.kind y.0) t y.2)
        (subst (λ z. G z x.0 y.0) r.operands (subst (λ z. G (map operand_in r.list) z y.0) r.firsts (subst (λ z. G (map operand_in r.list) (map first_of r.list) z) r.seconds
        (join_agrees known spec.kind r.list r.twins s (subst (λ ss. IsJoined spec.kind ss s) (sym r.structures) i.1))))))
    form_agrees s (nodes.union ns) made i d t h e f =
        let x = after_ok (nodes_value p env ns) (λ ds. Ok (union_of ds s)) d e in
        let y = after_ok (nodes_value p other ns) (λ ds. Ok (union_of ds s)) t f in
        let r = nodes_twinned ns x.0 y.0 i.0 (points_known known (nodes_lineage past ns) h) x.1 y.1 in
        let G : List Operand → List DataSet → List DataSet → Type 0 = λ l ds es. Agreeing known (columns_from s (of_set l s)) (union_of ds s) (union_of es s) in
        subst (λ z. Agreeing known (columns_from s (of_set (nodes_lineage past ns) s)) z t) (ok_is (union_of x.0 s) d x.2) (subst (λ z. Agreeing known (columns_from s (of_set (nodes_lineage past ns) s)) (union_of x.0 s) z) (ok_is (union_of y.0 s) t y.2)
        (subst (λ z. G z x.0 y.0) r.operands (subst (λ z. G (map operand_in r.list) z y.0) r.firsts (subst (λ z. G (map operand_in r.list) (map first_of r.list) z) r.seconds
        (union_agrees known r.list r.twins (subst (λ os. IsKnown known (points_of_all os)) (sym r.operands) h) s (subst (λ ss. AreCombined ss s) (sym r.structures) i.1))))))
    form_agrees s (nodes.intersect ns) made i d t h e f =
        let x = after_ok (nodes_value p env ns) (λ ds. Ok (intersection_of ds s)) d e in
        let y = after_ok (nodes_value p other ns) (λ ds. Ok (intersection_of ds s)) t f in
        let r = nodes_twinned ns x.0 y.0 i.0 (points_known known (nodes_lineage past ns) h) x.1 y.1 in
        let G : List Operand → List DataSet → List DataSet → Type 0 = λ l ds es. Agreeing known (columns_from s (of_set l s)) (intersection_of ds s) (intersection_of es s) in
        subst (λ z. Agreeing known (columns_from s (of_set (nodes_lineage past ns) s)) z t) (ok_is (intersection_of x.0 s) d x.2) (subst (λ z. Agreeing known (columns_from s (of_set (nodes_lineage past ns) s)) (intersection_of x.0 s) z) (ok_is (intersection_of y.0 s) t y.2)
        (subst (λ z. G z x.0 y.0) r.operands (subst (λ z. G (map operand_in r.list) z y.0) r.firsts (subst (λ z. G (map operand_in r.list) (map first_of r.list) z) r.seconds
        (intersection_agrees known r.list r.twins (subst (λ os. IsKnown known (points_of_all os)) (sym r.operands) h) s (subst (λ ss. AreCombined ss s) (sym r.structures) i.1))))))
    form_agrees s (nodes.set_diff a c) made i d t h e f =
        let both = points_known known (operand a ∷ operand c ∷ []) h in
        let x = operand_ok a (node_value p env a) (λ z. with_operand c (node_value p env c) (λ q. Ok (difference_of z q s))) d e in
        let y = operand_ok c (node_value p env c) (λ q. Ok (difference_of (with_points (structure_of a) x.0) q s)) d x.2 in
        let u = operand_ok a (node_value p other a) (λ z. with_operand c (node_value p other c) (λ q. Ok (difference_of z q s))) t f in
        let v = operand_ok c (node_value p other c) (λ q. Ok (difference_of (with_points (structure_of a) u.0) q s)) t u.2 in
        let one = twin_of a x.0 u.0 in
        let two = twin_of c y.0 v.0 in
        let first = twin_told a x.0 u.0 i.0 both.0 (λ k l m n o. node_agrees a i.0 k l m n o) x.1 u.1 in
        let second = twin_told c y.0 v.0 i.1 both.1.0 (λ k l m n o. node_agrees c i.1 k l m n o) y.1 v.1 in
        let os = operand a ∷ operand c ∷ [] in
        let pts = points_of_all os in
        let src = namesakes os in
        let given = set_given known s (one ∷ two ∷ []) os (first, (second, tt)) i.2.operands (λ z k. namesakes_known known os z k) in
        let cols = columns_from s (of_set os s) in
        subst (λ z. Agreeing known cols z t) (ok_is (difference_of (first_of one) (first_of two) s) d y.2) (subst (λ z. Agreeing known cols (difference_of (first_of one) (first_of two) s) z) (ok_is (difference_of (second_of one) (second_of two) s) t v.2)
        (reduced_agrees known s pts src h (left_of (first_of one) s) (left_of (second_of one) s) (left_of (first_of two) s) (left_of (second_of two) s) (shown_agrees known s pts src one given.0) (shown_agrees known s pts src two given.1.0)))
    form_agrees s (nodes.sym_diff a c) made i d t h e f =
        let both = points_known known (operand a ∷ operand c ∷ []) h in
        let x = operand_ok a (node_value p env a) (λ z. with_operand c (node_value p env c) (λ q. Ok (symmetric_difference_of z q s))) d e in
        let y = operand_ok c (node_value p env c) (λ q. Ok (symmetric_difference_of (with_points (structure_of a) x.0) q s)) d x.2 in
        let u = operand_ok a (node_value p other a) (λ z. with_operand c (node_value p other c) (λ q. Ok (symmetric_difference_of z q s))) t f in
        let v = operand_ok c (node_value p other c) (λ q. Ok (symmetric_difference_of (with_points (structure_of a) u.0) q s)) t u.2 in
        let one = twin_of a x.0 u.0 in
        let two = twin_of c y.0 v.0 in
        let first = twin_told a x.0 u.0 i.0 both.0 (λ k l m n o. node_agrees a i.0 k l m n o) x.1 u.1 in
        let second = twin_told c y.0 v.0 i.1 both.1.0 (λ k l m n o. node_agrees c i.1 k l m n o) y.1 v.1 in
        let os = operand a ∷ operand c ∷ [] in
        let pts = points_of_all os in
        let src = namesakes os in
        let given = set_given known s (one ∷ two ∷ []) os (first, (second, tt)) i.2.operands (λ z k. namesakes_known known os z k) in
        let cols = columns_from s (of_set os s) in
        subst (λ z. Agreeing known cols z t) (ok_is (symmetric_difference_of (first_of one) (first_of two) s) d y.2) (subst (λ z. Agreeing known cols (symmetric_difference_of (first_of one) (first_of two) s) z) (ok_is (symmetric_difference_of (second_of one) (second_of two) s) t v.2)
        (either_agrees known s pts src h (left_of (first_of one) s) (left_of (second_of one) s) (left_of (first_of two) s) (left_of (second_of two) s) (shown_agrees known s pts src one given.0) (shown_agrees known s pts src two given.1.0)))
    form_agrees s (nodes.exists_in a c r) made i d t h e f =
        let both = points_known known (operand a ∷ operand c ∷ []) h in
        let x = operand_ok a (node_value p env a) (λ z. with_operand c (node_value p env c) (λ q. Ok (existence_of z q r))) d e in
        let y = operand_ok c (node_value p env c) (λ q. Ok (existence_of (with_points (structure_of a) x.0) q r)) d x.2 in
        let u = operand_ok a (node_value p other a) (λ z. with_operand c (node_value p other c) (λ q. Ok (existence_of z q r))) t f in
        let v = operand_ok c (node_value p other c) (λ q. Ok (existence_of (with_points (structure_of a) u.0) q r)) t u.2 in
        let one = twin_of a x.0 u.0 in
        let two = twin_of c y.0 v.0 in
        let first = twin_told a x.0 u.0 i.0 both.0 (λ k l m n o. node_agrees a i.0 k l m n o) x.1 u.1 in
        let second = twin_told c y.0 v.0 i.1 both.1.0 (λ k l m n o. node_agrees c i.1 k l m n o) y.1 v.1 in
        let pts = points_of_all (operand a ∷ operand c ∷ []) in
        let cols = columns_from s (of_points pts s) in
        subst (λ z. Agreeing known cols z t) (ok_is (existence_of (first_of one) (first_of two) r) d y.2) (subst (λ z. Agreeing known cols (existence_of (first_of one) (first_of two) r) z) (ok_is (existence_of (second_of one) (second_of two) r) t v.2)
        (exists_agrees known one two first second pts r s i.2))
    form_agrees s (nodes.check a j spec) made i d t h e f =
        let x = operand_ok a (node_value p env a) (λ z. after (maybe_value p env j) (λ y. Ok (check_of p spec z y))) d e in
        let u = operand_ok a (node_value p other a) (λ z. after (maybe_value p other j) (λ y. Ok (check_of p spec z y))) t f in
        let y = after_ok (maybe_value p env j) (λ y. Ok (check_of p spec (with_points (structure_of a) x.0) y)) d x.2 in
        let v = after_ok (maybe_value p other j) (λ y. Ok (check_of p spec (with_points (structure_of a) u.0) y)) t u.2 in
        let parts = known_parts known (lineage past a).points (source_at (operand a) (key_width (structure_of a))) h in
        let r = maybe_twinned j y.0 v.0 i.1 y.1 v.1 in
        let G : Option Operand → Option DataSet → Option DataSet → Type 0 = λ l ds es. Agreeing known (columns_from s (of_check (operand a) l)) (check_of p spec (with_points (structure_of a) x.0) ds) (check_of p spec (with_points (structure_of a) u.0) es) in
        let cols = columns_from s (form_lineage past s (nodes.check a j spec)) in
        subst (λ z. Agreeing known cols z t) (ok_is (check_of p spec (with_points (structure_of a) x.0) y.0) d y.2) (subst (λ z. Agreeing known cols (check_of p spec (with_points (structure_of a) x.0) y.0) z) (ok_is (check_of p spec (with_points (structure_of a) u.0) v.0) t v.2)
        (subst (λ z. G z y.0 v.0) r.given (subst (λ z. G (option_map (λ w. w.operand) r.twin) z v.0) r.first (subst (λ z. G (option_map (λ w. w.operand) r.twin) (option_map first_of r.twin) z) r.second
        (check_agrees known p spec (operand a) parts.0 parts.1 s i.2.identifiers r.twin r.told x.0 u.0 (node_agrees a i.0 x.0 u.0 parts.0 x.1 u.1))))))
    form_agrees s (nodes.check_datapoint a rules o) made i d t h e f =
        let x = operand_ok a (node_value p env a) (λ z. datapoint_of p o rules.rules z) d e in
        let y = operand_ok a (node_value p other a) (λ z. datapoint_of p o rules.rules z) t f in
        datapoint_agrees known p (operand a) o s i.1.identifiers x.0 y.0 (node_agrees a i.0 x.0 y.0 (rules_known known (operand a) (lineage past a).points rules.rules h) x.1 y.1) rules.rules h d t x.2 y.2
    form_agrees s (nodes.check_hierarchy a rules m o) made i d t h e f =
        let H = ruled_by rules (structure_of a) in
        let x = operand_ok a (node_value p env a) (λ z. check_hierarchy_of p o H m z rules.rules) d e in
        let y = operand_ok a (node_value p other a) (λ z. check_hierarchy_of p o H m z rules.rules) t f in
        let parts = known_all known (lineage past a).points (measure_sources (operand a)) h in
        let whole : IsMade p K (nodes.node s (nodes.check_hierarchy a rules m o)) = (made, i) in
        let same = check_hierarchy_same known p rules (operand a) parts.1 i.1.itemized (one_kept a x.0 i.0 x.1).well_formed x.0 y.0 (node_agrees a i.0 x.0 y.0 parts.0 x.1 y.1) o m rules.rules in
        equal_agrees known s (of_measured (operand a) s) d t (length-map (others_of s) (λ z. no_pairs)) (ok_is d t (sym x.2 ∙ same ∙ y.2)) (one_kept (nodes.node s (nodes.check_hierarchy a rules m o)) d whole e)
    form_agrees s (nodes.hierarchy a rules m n o) made i d t h e f =
        let H = ruled_by rules (structure_of a) in
        let x = operand_ok a (node_value p env a) (λ z. hierarchy_of p H m n rules.rules z o s) d e in
        let y = operand_ok a (node_value p other a) (λ z. hierarchy_of p H m n rules.rules z o s) t f in
        let parts = known_all known (lineage past a).points (measure_sources (operand a)) h in
        let whole : IsMade p K (nodes.node s (nodes.hierarchy a rules m n o)) = (made, i) in
        let stay : others_of s ≡ measures_of (structure_of a) = others_are s i.1.no_attributes ∙ measures_stay H.id (structure_of a) s i.1.shape in
        let others : AllByRecursion (λ z. IsKnown known (source_named (operand a) z.name)) (others_of s) =
        subst (λ l. AllByRecursion (λ z. IsKnown known (source_named (operand a) z.name)) l) (sym stay) (all_of_map (λ z. source_named (operand a) z.name) (IsKnown known) (measures_of (structure_of a)) parts.1) in
        let same = hierarchy_same known p rules (operand a) parts.1 i.1.itemized (one_kept a x.0 i.0 x.1).well_formed x.0 y.0 (node_agrees a i.0 x.0 y.0 parts.0 x.1 y.1) m n rules.rules o s (kept_identifiers s (structure_of a) i.1.identifiers) others in
        equal_agrees known s (of_measured (operand a) s) d t (length-map (others_of s) (λ z. no_pairs)) (ok_is d t (sym x.2 ∙ same ∙ y.2)) (one_kept (nodes.node s (nodes.hierarchy a rules m n o)) d whole e)

    maybe_twinned : (j : MaybeNode) (ds es : Option DataSet) → IsMadeMaybe p K j → maybe_value p env j ≡ Ok ds → maybe_value p other j ≡ Ok es → MaybeTwinned (maybe_lineage past j) ds es
    maybe_twinned nodes.no_node ds es i e f = record { twin = None; given = refl; first = ok_is None ds e; second = ok_is None es f; told = λ h. tt }
    maybe_twinned (nodes.some_node n) ds es i e f =
        let x = after_ok (node_value p env n) (λ points. Ok (Some (with_points (structure_of n) points))) ds e in
        let y = after_ok (node_value p other n) (λ points. Ok (Some (with_points (structure_of n) points))) es f in
        record {
          twin = Some (twin_of n x.0 y.0);
          given = refl;
          first = ok_is (Some (with_points (structure_of n) x.0)) ds x.2;
          second = ok_is (Some (with_points (structure_of n) y.0)) es y.2;
          told = λ h. twin_told n x.0 y.0 i (known_parts known (lineage past n).points (source_at (operand n) (key_width (structure_of n))) h).0 (λ d t k l m. node_agrees n i d t k l m) x.1 y.1;
        }

    nodes_twinned : (ns : NodeTrees) (ds es : List DataSet) → AreMade p K ns → AllByRecursion (λ a. IsKnown known a.sources.points) (nodes_lineage past ns) → nodes_value p env ns ≡ Ok ds → nodes_value p other ns ≡ Ok es → Twinned (nodes_lineage past ns) (node_structures ns) ds es
    nodes_twinned nodes.no_nodes ds es i h e f = no_twins ds es (ok_is [] ds e) (ok_is [] es f)
    nodes_twinned (nodes.and_node n ns) ds es i h e f =
        let x = first_ok n (node_value p env n) (nodes_value p env ns) ds e in
        let y = first_ok n (node_value p other n) (nodes_value p other ns) es f in
        add_twin n x.0 y.0 (nodes_lineage past ns) (node_structures ns) x.1 y.1 ds es (twin_told n x.0 y.0 i.0 h.0 (λ d t k l m. node_agrees n i.0 d t k l m) x.2 y.2) x.4 y.4 (nodes_twinned ns x.1 y.1 i.1 h.1 x.3 y.3)

    operands_twinned : (os : OperandTrees) (ds es : List DataSet) → AreMadeOperands p K os → AllByRecursion (λ a. IsKnown known a.sources.points) (operands_lineage past os) → operands_value p env os ≡ Ok ds → operands_value p other os ≡ Ok es → Twinned (operands_lineage past os) (joins.structures_of (operands_in os)) ds es
    operands_twinned nodes.no_operands ds es i h e f = no_twins ds es (ok_is [] ds e) (ok_is [] es f)
    operands_twinned (nodes.operand n alias os) ds es i h e f =
        let x = first_ok n (node_value p env n) (operands_value p env os) ds e in
        let y = first_ok n (node_value p other n) (operands_value p other os) es f in
        add_twin n x.0 y.0 (operands_lineage past os) (joins.structures_of (operands_in os)) x.1 y.1 ds es (twin_told n x.0 y.0 i.0 h.0 (λ d t k l m. node_agrees n i.0 d t k l m) x.2 y.2) x.4 y.4 (operands_twinned os x.1 y.1 i.1 h.1 x.3 y.3)
