-- Joins do not depend on the order of points.
use Rattle.std.proofs.Common.{◌≡◌, ℕ, zero, suc, Bool, true, false, not, List, [], ◌∷◌, cond, map, Option, Some, None, refl, sym, ap, ◌∙◌, subst, arith, true≢false}
use Rattle.std.specs.Prelude.{slice_get}
use Rattle.std.specs.List.{AllByRecursion, filter, find, flat_map}
use Rattle.std.specs.Option.{option_to_list}
use Rattle.vtl_lists.specs.Perm.{Perm, empty, keep, cross, chain}
use Rattle.vtl_cell.specs.Row.{Row, same_row}
use Rattle.vtl_lists.proofs.Perms.{AllByRecursion-Perm, Perm-append, Perm-filter, Perm-flat_map, Perm-flat_map_each, Perm-map, Perm-same, length-Perm}
use Rattle.vtl_lists.proofs.Filters.{filter_swap}
use Rattle.vtl_cell.proofs.Rows.{same_row-is, same_row-refl}
use Rattle.vtl_syntax.specs.declared.word_groups.JoinKind.{JoinKind}
use Rattle.vtl_syntax.specs.declared.word_groups.JoinKind.TheVariants as join
use Rattle.vtl_tree.specs.DataSet.{IsDataSet}
use Rattle.vtl_tree.specs.Environment.{DataSet}
use Rattle.vtl_tree.specs.declared.structure.Component.{Component}
use Rattle.vtl_tree.specs.declared.structure.Structure.{Structure}
use Rattle.vtl_tuples.specs.Keys.{TellsApart, each_once}
use Rattle.vtl_tuples.specs.Tuples.{combinations}
use Rattle.vtl_tuples.proofs.Lists.{map_each}
use Rattle.vtl_meaning.specs.Agreement.{OperandPoint, agree_in, key_of, operand_point, operand_points, values_in}
use Rattle.vtl_tree.specs.Columns.{identifiers_of}
use Rattle.vtl_meaning.specs.Joined.{Part, all_keys, crossed, full_tuples, is_whole, join_of, joined_of, keys_in, left_tuples, part_of, reference_place, structures_of, tuple_at, tuple_beside, tuple_point, tuples_of}
use Rattle.vtl_meaning.specs.Made.{AreAmong, GoTogether, IsJoined}
use Rattle.vtl_meaning.specs.Orders.{SameOperands}
use Rattle.vtl_meaning.proofs.JoinAgreements.{Covers, agreeing_only, covers, key_only}
use Rattle.vtl_meaning.proofs.JoinKept.{join_with, reference_is}
use Rattle.vtl_meaning.proofs.JoinParts.{AreSets, parts_by}

-- ---- what is found where one item at most passes
find_front : {X : Type 0} (p : X → Bool) (xs : List X) → find p xs ≡ slice_get (filter p xs) 0
find_front p [] = refl
find_front p (x ∷ xs) = go (p x) (find_front p xs)
  where
    go : (b : Bool) → find p xs ≡ slice_get (filter p xs) 0 → cond b (Some x) (find p xs) ≡ slice_get (cond b (x ∷ filter p xs) (filter p xs)) 0
    go true ih = refl
    go false ih = ih

-- one item at most has no other order
one_order : {X : Type 0} (o : Option X) (xs : List X) → Perm (option_to_list o) xs → xs ≡ option_to_list o
one_order None [] q = refl
one_order None (y ∷ ys) q = absurd (omega (arith, length-Perm q))
one_order (Some x) [] q = absurd (omega (arith, length-Perm q))
one_order (Some x) (y ∷ []) q = ap (λ z. z ∷ []) (AllByRecursion-Perm (λ z. z ≡ x) q (refl, tt)).0
one_order (Some x) (y ∷ z ∷ zs) q = absurd (omega (arith, length-Perm q))

pub find_respects : {X : Type 0} (p : X → Bool) (xs ys : List X) → Perm xs ys → filter p xs ≡ option_to_list (find p xs) → find p xs ≡ find p ys
find_respects p xs ys q only =
    let same = one_order (find p xs) (filter p ys) (chain (Perm-same (option_to_list (find p xs)) (filter p xs) (sym only)) (Perm-filter p q)) in
    find_front p xs ∙ ap (λ l. slice_get l 0) (only ∙ sym same) ∙ sym (find_front p ys)

-- of each operand at most one point passes a test
abbrev pub AreOnly : (Structure → Row → Bool) → List DataSet → Type 0
AreOnly test ds = AllByRecursion (λ d. filter (test d.structure) d.points ≡ option_to_list (find (test d.structure) d.points)) ds

parts_respect : (test : Structure → Row → Bool) (ds es : List DataSet) → SameOperands ds es → AreOnly test ds → parts_by (λ d. test d.structure) ds ≡ parts_by (λ d. test d.structure) es
parts_respect test [] [] same all = refl
parts_respect test [] (e ∷ es) same all = absurd same
parts_respect test (d ∷ ds) [] same all = absurd same
parts_respect test (d ∷ ds) (e ∷ es) same all =
    let of_structure : Structure → Part = λ a. record { structure = a; point = find (test a) e.points } in
    let found : part_of d (find (test d.structure) d.points) ≡ of_structure d.structure = ap (part_of d) (find_respects (test d.structure) d.points e.points same.1 all.0) in
    ap (λ p. p ∷ parts_by (λ z. test z.structure) ds) (found ∙ ap of_structure same.0) ∙ ap (λ l. of_structure e.structure ∷ l) (parts_respect test ds es same.2 all.1)

-- ---- `left_join` and `inner_join`
-- the reference has all identifiers of each operand
abbrev pub AreCovered : Structure → List DataSet → Type 0
AreCovered a ds = AllByRecursion (λ d. Covers a d.structure) ds

agree_only : (a : Structure) (ds : List DataSet) (q : Row) → AreSets ds → AreCovered a ds → AreOnly (λ b. agree_in a b q) ds
agree_only a [] q all cover = tt
agree_only a (d ∷ ds) q all cover = (agreeing_only a d q cover.0 all.0, agree_only a ds q all.1 cover.1)

left_respects : (r t : DataSet) (ds es : List DataSet) → r.structure ≡ t.structure → Perm r.points t.points → SameOperands ds es → AreSets ds → AreCovered r.structure ds → Perm (left_tuples r ds) (left_tuples t es)
left_respects r t ds es e q same all cover =
    let a = r.structure in
    let each : (x : Row) → tuple_beside a ds x ≡ tuple_beside a es x = λ x. ap (λ ps. record { identifiers = key_of a x; parts = ps }) (parts_respect (λ b. agree_in a b x) ds es same (agree_only a ds x all cover)) in
    chain (Perm-same (left_tuples r ds) (map (tuple_beside a es) r.points) (map_each (tuple_beside a ds) (tuple_beside a es) each r.points))
    (chain (Perm-map (tuple_beside a es) q) (Perm-same (map (tuple_beside a es) t.points) (left_tuples t es) (ap (λ z. map (tuple_beside z es) t.points) e)))

-- ---- `full_join`
-- items each once, from a list in another order
pub once_respects : {X : Type 0} (same : X → X → Bool) {xs ys : List X} → TellsApart same → Perm xs ys → Perm (each_once same xs) (each_once same ys)
once_respects same tells empty = empty
once_respects same tells (keep x q) = keep x (Perm-filter (λ y. not (same x y)) (once_respects same tells q))
once_respects {X = X} same tells (cross x y xs) = go (same x y) refl (same y x) refl
  where
    rest : List X
    rest = each_once same xs

    without : X → List X → List X
    without z l = filter (λ w. not (same z w)) l

    turned : without x (without y rest) ≡ without y (without x rest)
    turned = filter_swap (λ w. not (same x w)) (λ w. not (same y w)) rest

    go : (b : Bool) → same x y ≡ b → (c : Bool) → same y x ≡ c → Perm (x ∷ cond (not b) (y ∷ without x (without y rest)) (without x (without y rest))) (y ∷ cond (not c) (x ∷ without y (without x rest)) (without y (without x rest)))
    go true e true f = Perm-same (x ∷ without x (without y rest)) (y ∷ without y (without x rest)) (ap (λ l. x ∷ l) turned ∙ ap (λ z. z ∷ without y (without x rest)) (tells.is x y e))
    go false e false f = chain (cross x y (without x (without y rest))) (Perm-same (y ∷ x ∷ without x (without y rest)) (y ∷ x ∷ without y (without x rest)) (ap (λ l. y ∷ x ∷ l) turned))
    go true e false f = absurd (true≢false (sym (ap (λ z. same z x) (sym (tells.is x y e)) ∙ tells.self x) ∙ f))
    go false e true f = absurd (true≢false (sym (ap (λ z. same z y) (sym (tells.is y x f)) ∙ tells.self y) ∙ e))
once_respects same tells (chain p q) = chain (once_respects same tells p) (once_respects same tells q)

pub rows_apart : TellsApart same_row
rows_apart = record { is = same_row-is; self = same_row-refl }

pub keys_respect : (ids : List Component) (ds es : List DataSet) → SameOperands ds es → Perm (flat_map (keys_in ids) ds) (flat_map (keys_in ids) es)
keys_respect ids [] [] same = empty
keys_respect ids [] (e ∷ es) same = absurd same
keys_respect ids (d ∷ ds) [] same = absurd same
keys_respect ids (d ∷ ds) (e ∷ es) same =
    Perm-append (chain (Perm-map (values_in d.structure ids) same.1) (Perm-same (map (values_in d.structure ids) e.points) (keys_in ids e) (ap (λ a. map (values_in a ids) e.points) same.0))) (keys_respect ids ds es same.2)

has_only : (a : Structure) (ds : List DataSet) (k : Row) → AreSets ds → AreCovered a ds → AreOnly (λ b q. same_row (values_in b (identifiers_of a) q) k) ds
has_only a [] k all cover = tt
has_only a (d ∷ ds) k all cover = (key_only a d k cover.0 all.0, has_only a ds k all.1 cover.1)

full_respects : (r t : DataSet) (ds es : List DataSet) → r.structure ≡ t.structure → SameOperands ds es → AreSets ds → AreCovered r.structure ds → Perm (full_tuples r ds) (full_tuples t es)
full_respects r t ds es e same all cover =
    let a = r.structure in
    let ids = identifiers_of a in
    let each : (k : Row) → tuple_at ids ds k ≡ tuple_at ids es k = λ k. ap (λ ps. record { identifiers = k; parts = ps }) (parts_respect (λ b q. same_row (values_in b ids q) k) ds es same (has_only a ds k all cover)) in
    chain (Perm-same (full_tuples r ds) (map (tuple_at ids es) (all_keys ids ds)) (map_each (tuple_at ids ds) (tuple_at ids es) each (all_keys ids ds)))
    (chain (Perm-map (tuple_at ids es) (once_respects same_row rows_apart (keys_respect ids ds es same)))
    (Perm-same (map (tuple_at ids es) (all_keys ids es)) (full_tuples t es) (ap (λ z. map (tuple_at (identifiers_of z) es) (all_keys (identifiers_of z) es)) e)))

-- ---- `cross_join`
combinations_respect : (ds es : List DataSet) → SameOperands ds es → Perm (combinations (map operand_points ds)) (combinations (map operand_points es))
combinations_respect [] [] same = keep [] empty
combinations_respect [] (e ∷ es) same = absurd same
combinations_respect (d ∷ ds) [] same = absurd same
combinations_respect (d ∷ ds) (e ∷ es) same =
    let C = combinations (map operand_points ds) in
    let front : List (List OperandPoint) → OperandPoint → List (List OperandPoint) = λ ts x. map (λ t. x ∷ t) ts in
    let points : Perm (operand_points d) (operand_points e) = chain (Perm-map (operand_point d.structure) same.1) (Perm-same (map (operand_point d.structure) e.points) (operand_points e) (ap (λ a. map (operand_point a) e.points) same.0)) in
    chain (Perm-flat_map (front C) points) (Perm-flat_map_each (front C) (front (combinations (map operand_points es))) (λ x. Perm-map (λ t. x ∷ t) (combinations_respect ds es same.2)) (operand_points e))

-- ---- all four
covered : (a : Structure) (ds : List DataSet) → AllByRecursion (λ b. AreAmong (identifiers_of b) (identifiers_of a)) (structures_of ds) → AreCovered a ds
covered a [] all = tt
covered a (d ∷ ds) all = (covers a d.structure all.0, covered a ds all.1)

covered_both : (a : Structure) (ds : List DataSet) → AllByRecursion (λ b. AreAmong (identifiers_of b) (identifiers_of a) × AreAmong (identifiers_of a) (identifiers_of b)) (structures_of ds) → AreCovered a ds
covered_both a [] all = tt
covered_both a (d ∷ ds) all = (covers a d.structure all.0.0, covered_both a ds all.1)

tuples_respect : (kind : JoinKind) (r t : DataSet) (ds es : List DataSet) (s : Structure) → r.structure ≡ t.structure → Perm r.points t.points → SameOperands ds es → AreSets ds → GoTogether kind r.structure (structures_of ds) s → Perm (tuples_of kind r ds) (tuples_of kind t es)
tuples_respect join.Inner r t ds es s e q same all go = Perm-filter is_whole (left_respects r t ds es e q same all (covered r.structure ds go.1))
tuples_respect join.Left r t ds es s e q same all go = left_respects r t ds es e q same all (covered r.structure ds go.1)
tuples_respect join.Full r t ds es s e q same all go = full_respects r t ds es e same all (covered_both r.structure ds go.1)
tuples_respect join.Cross r t ds es s e q same all go = Perm-map crossed (combinations_respect ds es same)

pub same_structures : (ds es : List DataSet) → SameOperands ds es → structures_of ds ≡ structures_of es
same_structures [] [] same = refl
same_structures [] (e ∷ es) same = absurd same
same_structures (d ∷ ds) [] same = absurd same
same_structures (d ∷ ds) (e ∷ es) same = ap (λ a. a ∷ structures_of ds) same.0 ∙ ap (λ l. e.structure ∷ l) (same_structures ds es same.2)

-- the operand at the same place
record Turns (r t : DataSet) : Type 0 where
  structure : r.structure ≡ t.structure
  points : Perm r.points t.points

same_place : (ds es : List DataSet) (n : ℕ) (r : DataSet) → SameOperands ds es → slice_get ds n ≡ Some r → (t : DataSet) × (slice_get es n ≡ Some t) × Turns r t
same_place [] es n r same e = cc
same_place (d ∷ ds) [] n r same e = absurd same
same_place (d ∷ ds) (t ∷ es) zero r same e =
    let here : d ≡ r = cc in
    (t, refl, subst (λ z. Turns z t) here (record { structure = same.0; points = same.1 }))
same_place (d ∷ ds) (t ∷ es) (suc n) r same e = same_place ds es n r same.2 e

pub join_order : (kind : JoinKind) (ds es : List DataSet) → SameOperands ds es → AllByRecursion (λ d. IsDataSet d.structure d.points) ds → (s : Structure) → IsJoined kind (structures_of ds) s → Perm (join_of kind ds) (join_of kind es)
join_order kind ds es same all s i =
    let r = reference_is kind ds s i all in
    let t = same_place ds es (reference_place kind (structures_of ds)) r.0 same r.1.there in
    let there : slice_get es (reference_place kind (structures_of es)) ≡ Some t.0 = ap (λ l. slice_get es (reference_place kind l)) (sym (same_structures ds es same)) ∙ t.1 in
    chain (Perm-same (join_of kind ds) (joined_of kind r.0 ds) (join_with kind ds r.0 r.1.there))
    (chain (Perm-map tuple_point (tuples_respect kind r.0 t.0 ds es s t.2.structure t.2.points same all r.1.together)) (Perm-same (joined_of kind t.0 es) (join_of kind es) (sym (join_with kind es t.0 there))))
