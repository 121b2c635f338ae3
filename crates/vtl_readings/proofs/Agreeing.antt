-- The pairs of points that agree, from either side, and the rows of two pieces that an operator on two data sets walks over.
use Rattle.std.proofs.Common.{◌≡◌, ℕ, Bool, true, false, cond, ◌||◌, List, [], ◌∷◌, ◌++◌, map, Option, None, Some, refl, sym, ap, ◌∙◌, subst, true≢false}
use Rattle.std.specs.Prelude.{option_map}
use Rattle.std.specs.List.{AllByRecursion, filter, flat_map}
use Rattle.std.specs.Option.{option_to_list}
use Rattle.vtl_lists.specs.Perm.{Perm, chain}
use Rattle.vtl_lists.proofs.Perms.{Perm-same}
use Rattle.vtl_lists.proofs.Sorts.{AllByRecursion-filter, AllByRecursion-map}
use Rattle.vtl_lists.proofs.Alls.{all_append, all_both, all_filtered}
use Rattle.vtl_cell.specs.Row.{Row}
use Rattle.vtl_tree.specs.Columns.{has_identifier, identifiers_of}
use Rattle.vtl_tree.specs.DataSet.{IsDataSet, is_point}
use Rattle.vtl_tree.specs.Environment.{DataSet}
use Rattle.vtl_tree.specs.Names.{is_among}
use Rattle.vtl_tree.specs.Pairs.{contains}
use Rattle.vtl_tree.specs.Structure.{columns_of, names_of, same_name}
use Rattle.vtl_tree.specs.declared.structure.Component.{Component}
use Rattle.vtl_tree.specs.declared.structure.Structure.{Structure}
use Rattle.vtl_tuples.proofs.Lists.{flat_map_each, flat_map_turned, map-flat_map, map-map, map_each}
use Rattle.vtl_meaning.specs.Agreement.{agree_in, operand_point}
use Rattle.vtl_meaning.specs.Points.{beside, paired, partner}
use Rattle.vtl_meaning.proofs.Agreements.{common_of_contained, first_agreeing_is}
use Rattle.vtl_meaning.proofs.JoinAgreements.{Covers, agree-from, agree-gives, agreeing_only}
use Rattle.vtl_meaning.proofs.Places.{same_name-is}
use Rattle.vtl_readings.specs.Pairs.{PointPair, agreeing_pairs, two_points}

-- ---- agreement
-- whoever agrees is agreed with
agree-sym : (a b : Structure) (x y : Row) → agree_in a b x y ≡ agree_in b a y x
agree-sym a b x y = go (agree_in a b x y) refl (agree_in b a y x) refl
  where
    turned : (c d : Structure) (r q : Row) → agree_in c d r q ≡ true → agree_in d c q r ≡ true
    turned c d r q e = agree-from (operand_point d q) (operand_point c r) (λ name h i. sym (agree-gives (operand_point c r) (operand_point d q) e name i h))

    go : (u : Bool) → agree_in a b x y ≡ u → (v : Bool) → agree_in b a y x ≡ v → u ≡ v
    go true e true f = refl
    go true e false f = absurd (true≢false (sym (turned a b x y e) ∙ f))
    go false e true f = absurd (true≢false (sym (turned b a y x f) ∙ e))
    go false e false f = refl

among_all : (has : List ℕ → Bool) (name : List ℕ) (ids : List Component) → AllByRecursion (λ i. has i.name ≡ true) ids → is_among name (names_of ids) ≡ true → has name ≡ true
among_all has name [] all h = absurd (true≢false (sym h))
among_all has name (i ∷ ids) all h = go (same_name i.name name) refl h (among_all has name ids all.1)
  where
    go : (b : Bool) → same_name i.name name ≡ b → (b || is_among name (names_of ids)) ≡ true → (is_among name (names_of ids) ≡ true → has name ≡ true) → has name ≡ true
    go true f g ih = subst (λ n. has n ≡ true) (same_name-is i.name name f) all.0
    go false f g ih = ih g

contained_covers : (a b : Structure) → contains a b ≡ true → Covers a b
contained_covers a b e = λ name h.
    among_all (has_identifier a) name (identifiers_of b)
    (subst (λ ids. AllByRecursion (λ i. has_identifier a i.name ≡ true) ids) (common_of_contained a b e) (all_filtered (λ i. has_identifier a i.name) (identifiers_of b))) h

-- ---- pairs, from the points of one operand
-- those of the operand that leads first, each with those of the other that agree with it
abbrev pub pairs_by : (Row → Row → PointPair) → DataSet → DataSet → List PointPair
pairs_by two lead other = flat_map (λ x. map (two x) (filter (agree_in lead.structure other.structure x) other.points)) lead.points

-- what holds of two points that agree holds of all pairs
pub all_pairs : (two : Row → Row → PointPair) (lead other : DataSet) (G : PointPair → Type 0)
    → ((x q : Row) → is_point (columns_of lead.structure) x ≡ true → is_point (columns_of other.structure) q ≡ true → agree_in lead.structure other.structure x q ≡ true → G (two x q))
    → AllByRecursion (λ x. is_point (columns_of lead.structure) x ≡ true) lead.points → AllByRecursion (λ q. is_point (columns_of other.structure) q ≡ true) other.points → AllByRecursion G (pairs_by two lead other)
all_pairs two lead other G h typed theirs = go lead.points typed
  where
    test : Row → Row → Bool
    test = agree_in lead.structure other.structure

    go : (xs : List Row) → AllByRecursion (λ x. is_point (columns_of lead.structure) x ≡ true) xs → AllByRecursion G (flat_map (λ x. map (two x) (filter (test x) other.points)) xs)
    go [] all = tt
    go (x ∷ xs) all =
        all_append G (map (two x) (filter (test x) other.points)) (flat_map (λ z. map (two z) (filter (test z) other.points)) xs)
        (AllByRecursion-map (two x) G (filter (test x) other.points)
        (all_both (λ q. is_point (columns_of other.structure) q ≡ true) (λ q. test x q ≡ true) (λ q. G (two x q)) (λ q i e. h x q all.0 i e) (filter (test x) other.points)
        (AllByRecursion-filter (λ q. is_point (columns_of other.structure) q ≡ true) (test x) other.points theirs) (all_filtered (test x) other.points)))
        (go xs all.1)

-- ---- the rows of two pieces are those of the pairs, where one operand has all identifiers of the other
listed : {X Y : Type 0} (f : X → Y) (o : Option X) → option_to_list (option_map f o) ≡ map f (option_to_list o)
listed f None = refl
listed f (Some x) = refl

beside_is : (lead other : DataSet) (x : Row) → contains lead.structure other.structure ≡ true → IsDataSet other.structure other.points → beside lead.structure other x ≡ map (λ q. x ++ q) (filter (agree_in lead.structure other.structure x) other.points)
beside_is lead other x e h =
    listed (λ q. x ++ q) (partner lead.structure other x)
    ∙ ap (λ o. map (λ q. x ++ q) (option_to_list o)) (sym (first_agreeing_is lead.structure other x e h))
    ∙ ap (map (λ q. x ++ q)) (sym (agreeing_only lead.structure other x (contained_covers lead.structure other.structure e) h))

pub rows_are : (two : Row → Row → PointPair) (row : PointPair → Row) (lead other : DataSet) → ((x q : Row) → row (two x q) ≡ x ++ q) → contains lead.structure other.structure ≡ true → IsDataSet other.structure other.points → paired lead other ≡ map row (pairs_by two lead other)
rows_are two row lead other fits e h =
    flat_map_each (beside lead.structure other) (λ x. map (λ q. x ++ q) (partners x)) (λ x. beside_is lead other x e h) lead.points
    ∙ flat_map_each (λ x. map (λ q. x ++ q) (partners x)) (λ x. map row (map (two x) (partners x)))
    (λ x. map_each (λ q. x ++ q) (λ q. row (two x q)) (λ q. sym (fits x q)) (partners x) ∙ sym (map-map row (two x) (partners x))) lead.points
    ∙ sym (map-flat_map row (λ x. map (two x) (partners x)) lead.points)
  where
    partners : Row → List Row
    partners x = filter (agree_in lead.structure other.structure x) other.points

-- ---- the pairs from the one side are those from the other, up to order
chosen : {X Y : Type 0} (f : X → Y) (test : X → Bool) (xs : List X) → map f (filter test xs) ≡ flat_map (λ x. cond (test x) (f x ∷ []) []) xs
chosen f test [] = refl
chosen f test (x ∷ xs) = go (test x) (chosen f test xs)
  where
    go : (b : Bool) → map f (filter test xs) ≡ flat_map (λ z. cond (test z) (f z ∷ []) []) xs → map f (cond b (x ∷ filter test xs) (filter test xs)) ≡ cond b (f x ∷ []) [] ++ flat_map (λ z. cond (test z) (f z ∷ []) []) xs
    go true ih = ap (λ l. f x ∷ l) ih
    go false ih = ih

pub turned_pairs : (a b : DataSet) → Perm (agreeing_pairs a b) (pairs_by (λ y x. two_points x y) b a)
turned_pairs a b =
    chain (Perm-same (agreeing_pairs a b) (flat_map (λ x. flat_map (left x) b.points) a.points) (flat_map_each (λ x. map (two_points x) (filter (agree_in a.structure b.structure x) b.points)) (λ x. flat_map (left x) b.points) (λ x. chosen (two_points x) (agree_in a.structure b.structure x) b.points) a.points))
    (chain (flat_map_turned left a.points b.points)
    (Perm-same (flat_map (λ y. flat_map (λ x. left x y) a.points) b.points) (pairs_by (λ y x. two_points x y) b a)
    (flat_map_each (λ y. flat_map (λ x. left x y) a.points) (λ y. map (λ x. two_points x y) (filter (agree_in b.structure a.structure y) a.points))
    (λ y. flat_map_each (λ x. left x y) (λ x. cond (agree_in b.structure a.structure y x) (two_points x y ∷ []) []) (λ x. ap (λ c. cond c (two_points x y ∷ []) []) (agree-sym a.structure b.structure x y)) a.points
    ∙ sym (chosen (λ x. two_points x y) (agree_in b.structure a.structure y) a.points)) b.points)))
  where
    left : Row → Row → List PointPair
    left x y = cond (agree_in a.structure b.structure x y) (two_points x y ∷ []) []
