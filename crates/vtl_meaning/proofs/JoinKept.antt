-- Joins of data sets give data sets.
use Rattle.std.proofs.Common.{◌≡◌, ℕ, zero, suc, Bool, true, false, not, ◌&&◌, ◌||◌, List, [], ◌∷◌, ◌++◌, cond, length, map, take, Some, None, refl, sym, ap, ◌∙◌, subst, arith}
use Rattle.std.specs.Prelude.{slice_get}
use Rattle.std.specs.List.{AllByRecursion, filter, flat_map, list_any}
use Rattle.std.specs.Option.{option_map_or, option_to_list}
use Rattle.std.proofs.lemmas.List.{take_all}
use Rattle.vtl_lists.specs.Apart.{all_apart}
use Rattle.vtl_cell.specs.Order.{same_cell}
use Rattle.vtl_cell.specs.Row.{Row, same_key, same_row}
use Rattle.vtl_lists.proofs.Aparts.{apart_more, apart_parts}
use Rattle.vtl_cell.proofs.Rows.{same_row-refl}
use Rattle.vtl_lists.proofs.Sorts.{AllByRecursion-map}
use Rattle.vtl_lists.proofs.Alls.{all_append, all_more}
use Rattle.vtl_rows.specs.Tables.{cells_at}
use Rattle.vtl_syntax.specs.declared.word_groups.JoinKind.{JoinKind}
use Rattle.vtl_syntax.specs.declared.word_groups.JoinKind.TheVariants as join
use Rattle.vtl_tree.specs.DataSet.{Distinct, IsDataSet, is_point}
use Rattle.vtl_tree.specs.Environment.{DataSet}
use Rattle.vtl_tree.specs.Structure.{IsStructure, columns_of, key_width}
use Rattle.vtl_tree.specs.declared.structure.Component.{Component}
use Rattle.vtl_tree.specs.declared.structure.Structure.{Structure}
use Rattle.vtl_tuples.specs.Tuples.{combinations}
use Rattle.vtl_tuples.proofs.Lists.{map-flat_map, map-map}
use Rattle.vtl_tuples.proofs.Onces.{once_apart, once_hold}
use Rattle.vtl_meaning.specs.Agreement.{OperandPoint, agree_in, key_of, operand_point, operand_points, values_in}
use Rattle.vtl_tree.specs.Columns.{identifiers_of, others_of, places_in}
use Rattle.vtl_meaning.specs.JoinWords.{whole_point}
use Rattle.vtl_meaning.specs.Joined.{all_keys, cross_tuples, crossed, full_tuples, inner_tuples, is_whole, join_of, joined_of, keys_in, left_tuples, present, reference_place, structures_of, tuple_at, tuple_beside, tuple_point}
use Rattle.vtl_meaning.specs.Made.{AreAmong, GoTogether, HasIdentifiers, IsJoined, component_kinds, kinds_of_all}
use Rattle.vtl_meaning.proofs.Drawn.{AtMostOne, Keeps, drawn_kept, mapped_kept}
use Rattle.vtl_meaning.proofs.JoinParts.{AreSets, IsPart, parts_are, parts_of_operands, tuple_is}
use Rattle.vtl_meaning.proofs.Kept.{some_identifiers}
use Rattle.vtl_meaning.proofs.LookUps.{named_cells}
use Rattle.vtl_meaning.proofs.Places.{IsIdentifier, are_identifiers, columns_split, key_for, key_of_point, point_append, point_length, point_of_identifiers}

-- ---- `left_join`: a point for each point of the reference
pub beside_keeps : (kind : JoinKind) (a s : Structure) (ds : List DataSet) (q : Row) → IsJoined kind (structures_of ds) s → HasIdentifiers s (identifiers_of a) → AreSets ds → is_point (columns_of a) q ≡ true → Keeps s (key_width a) q (tuple_point (tuple_beside a ds q))
beside_keeps kind a s ds q i e all h =
    let test : DataSet → Row → Bool = λ d. agree_in a d.structure q in
    tuple_is kind (structures_of ds) s (tuple_beside a ds q) i (parts_of_operands test ds) (parts_are test ds all) (key_for s a (key_of a q) e (key_of_point a q h))

left_kept : (kind : JoinKind) (r : DataSet) (ds : List DataSet) (s : Structure) → IsJoined kind (structures_of ds) s → HasIdentifiers s (identifiers_of r.structure) → IsDataSet r.structure r.points → AreSets ds → IsDataSet s (map tuple_point (left_tuples r ds))
left_kept kind r ds s i e h all =
    let a = r.structure in
    let f : Row → Row = λ q. tuple_point (tuple_beside a ds q) in
    subst (IsDataSet s) (sym (map-map tuple_point (tuple_beside a ds) r.points))
    (mapped_kept s (key_width a) f r.points i.well_formed (all_more (λ q. is_point (columns_of a) q ≡ true) (λ q. Keeps s (key_width a) q (f q)) (λ q w. beside_keeps kind a s ds q i e all w) r.points h.typed) h.distinct)

-- ---- `inner_join`: of these the ones where no part is missing
-- what is made of the values that pass a test
pub made_of_passing : {X Y Z : Type 0} (p : Y → Bool) (g : Y → Z) (f : X → Y) (xs : List X) → map g (filter p (map f xs)) ≡ flat_map (λ x. option_to_list (cond (p (f x)) (Some (g (f x))) None)) xs
made_of_passing p g f [] = refl
made_of_passing p g f (x ∷ xs) = go (p (f x)) (made_of_passing p g f xs)
  where
    go : (b : Bool) → map g (filter p (map f xs)) ≡ flat_map (λ z. option_to_list (cond (p (f z)) (Some (g (f z))) None)) xs
        → map g (cond b (f x ∷ filter p (map f xs)) (filter p (map f xs))) ≡ option_to_list (cond b (Some (g (f x))) None) ++ flat_map (λ z. option_to_list (cond (p (f z)) (Some (g (f z))) None)) xs
    go true ih = ap (λ l. g (f x) ∷ l) ih
    go false ih = ih

at_most : (P : Row → Type 0) (b : Bool) (r : Row) → P r → AtMostOne P (option_to_list (cond b (Some r) None))
at_most P true r h = h
at_most P false r h = tt

inner_kept : (kind : JoinKind) (r : DataSet) (ds : List DataSet) (s : Structure) → IsJoined kind (structures_of ds) s → HasIdentifiers s (identifiers_of r.structure) → IsDataSet r.structure r.points → AreSets ds → IsDataSet s (map tuple_point (inner_tuples r ds))
inner_kept kind r ds s i e h all =
    let a = r.structure in
    let g : Row → List Row = λ q. option_to_list (whole_point (tuple_beside a ds q)) in
    subst (IsDataSet s) (sym (made_of_passing is_whole tuple_point (tuple_beside a ds) r.points))
    (drawn_kept s (key_width a) g r.points i.well_formed
    (all_more (λ q. is_point (columns_of a) q ≡ true) (λ q. AtMostOne (Keeps s (key_width a) q) (g q))
    (λ q w. at_most (Keeps s (key_width a) q) (is_whole (tuple_beside a ds q)) (tuple_point (tuple_beside a ds q)) (beside_keeps kind a s ds q i e all w)) r.points h.typed) h.distinct)

-- ---- `full_join`: a point for each tuple of identifiers that some operand has
-- the values of identifiers that an operand has make a point of them
pub key_is : (ys : List Component) (a : Structure) (q : Row) → AllByRecursion IsIdentifier ys → AreAmong ys (identifiers_of a) → is_point (columns_of a) q ≡ true → is_point ys (values_in a ys q) ≡ true
key_is ys a q i all h =
    ap (is_point ys) (sym (named_cells (columns_of a) ys q))
    ∙ subst (λ xs. is_point ys (cells_at (places_in xs ys) q) ≡ true) (sym (columns_split a)) (some_identifiers ys (identifiers_of a) (others_of a) q i (are_identifiers a) all (subst (λ xs. is_point xs q ≡ true) (columns_split a) h))

pub whole_key : (n : ℕ) (k : Row) → length k ≡ n → take n k ≡ k
whole_key n k e = ap (λ m. take m k) (sym e) ∙ take_all (length k) k (omega arith)

any_key : (n : ℕ) (k : Row) (ks : List Row) → length k ≡ n → AllByRecursion (λ j. length j ≡ n) ks → list_any (same_key n k) ks ≡ list_any (same_row k) ks
any_key n k [] e all = refl
any_key n k (j ∷ ks) e all = ap (λ l. same_row l (take n j) || list_any (same_key n k) ks) (whole_key n k e) ∙ ap (λ l. same_row k l || list_any (same_key n k) ks) (whole_key n j all.0) ∙ ap (λ b. same_row k j || b) (any_key n k ks e all.1)

keys_differ : (n : ℕ) (ks : List Row) → AllByRecursion (λ k. length k ≡ n) ks → all_apart same_row ks ≡ true → Distinct n ks
keys_differ n ks all e = same ks all ∙ e
  where
    same : (l : List Row) → AllByRecursion (λ k. length k ≡ n) l → all_apart (same_key n) l ≡ all_apart same_row l
    same [] all = refl
    same (k ∷ l) all = ap (λ b. not b && all_apart (same_key n) l) (any_key n k l all.0 all.1) ∙ ap (λ b. not (list_any (same_row k) l) && b) (same l all.1)

-- each operand has these identifiers
abbrev pub HaveThem : List Component → List DataSet → Type 0
HaveThem ids ds = AllByRecursion (λ d. AreAmong ids (identifiers_of d.structure)) ds

keys_are : (a : Structure) (ds : List DataSet) → AreSets ds → HaveThem (identifiers_of a) ds → AllByRecursion (λ k. is_point (identifiers_of a) k ≡ true) (flat_map (keys_in (identifiers_of a)) ds)
keys_are a [] all them = tt
keys_are a (d ∷ ds) all them =
    let ids = identifiers_of a in
    all_append (λ k. is_point ids k ≡ true) (keys_in ids d) (flat_map (keys_in ids) ds)
    (AllByRecursion-map (values_in d.structure ids) (λ k. is_point ids k ≡ true) d.points (all_more (λ q. is_point (columns_of d.structure) q ≡ true) (λ q. is_point ids (values_in d.structure ids q) ≡ true) (λ q h. key_is ids d.structure q (are_identifiers a) them.0 h) d.points all.0.typed))
    (keys_are a ds all.1 them.1)

pub all_keys_are : (a : Structure) (ds : List DataSet) → AreSets ds → HaveThem (identifiers_of a) ds → AllByRecursion (λ k. is_point (identifiers_of a) k ≡ true) (all_keys (identifiers_of a) ds)
all_keys_are a ds all them = once_hold (λ k. is_point (identifiers_of a) k ≡ true) same_row (flat_map (keys_in (identifiers_of a)) ds) (keys_are a ds all them)

pub full_keeps : (kind : JoinKind) (a s : Structure) (ds : List DataSet) (k : Row) → IsJoined kind (structures_of ds) s → HasIdentifiers s (identifiers_of a) → AreSets ds → is_point (identifiers_of a) k ≡ true → Keeps s (key_width a) k (tuple_point (tuple_at (identifiers_of a) ds k))
full_keeps kind a s ds k i e all h =
    let test : DataSet → Row → Bool = λ d q. same_row (values_in d.structure (identifiers_of a) q) k in
    let point = tuple_is kind (structures_of ds) s (tuple_at (identifiers_of a) ds k) i (parts_of_operands test ds) (parts_are test ds all) (key_for s a k e h) in
    (point.0, point.1 ∙ sym (whole_key (key_width a) k (point_length (identifiers_of a) k h)))

full_kept : (kind : JoinKind) (r : DataSet) (ds : List DataSet) (s : Structure) → IsJoined kind (structures_of ds) s → HasIdentifiers s (identifiers_of r.structure) → AreSets ds → HaveThem (identifiers_of r.structure) ds → IsDataSet s (map tuple_point (full_tuples r ds))
full_kept kind r ds s i e all them =
    let a = r.structure in
    let ids = identifiers_of a in
    let keys = all_keys ids ds in
    let f : Row → Row = λ k. tuple_point (tuple_at ids ds k) in
    let P : Row → Type 0 = λ k. is_point ids k ≡ true in
    let typed = all_keys_are a ds all them in
    subst (IsDataSet s) (sym (map-map tuple_point (tuple_at ids ds) keys))
    (mapped_kept s (key_width a) f keys i.well_formed (all_more P (λ k. Keeps s (key_width a) k (f k)) (λ k h. full_keeps kind a s ds k i e all h) keys typed)
    (keys_differ (key_width a) keys (all_more P (λ k. length k ≡ key_width a) (λ k. point_length ids k) keys typed) (once_apart same_row (flat_map (keys_in ids) ds))))

-- ---- `cross_join`: every combination
-- a point of its operand
pub record IsOperandPoint (x : OperandPoint) : Type 0 where
  pub well_formed : IsStructure x.structure
  pub typed : is_point (columns_of x.structure) x.point ≡ true

-- a point of each operand
pub record IsCombination (ss : List Structure) (xs : List OperandPoint) : Type 0 where
  pub structures : map (λ x. x.structure) xs ≡ ss
  pub points : AllByRecursion IsOperandPoint xs

abbrev pub key_at : OperandPoint → Row
key_at x = key_of x.structure x.point

abbrev pub keys_at : List OperandPoint → Row
keys_at xs = flat_map key_at xs

-- what holds of tuples with an item in front
pub fronts : {X : Type 0} (P : X → Type 0) (Q R : List X → Type 0) (xs : List X) (ts : List (List X)) → ((x : X) (t : List X) → P x → Q t → R (x ∷ t)) → AllByRecursion P xs → AllByRecursion Q ts → AllByRecursion R (flat_map (λ x. map (λ t. x ∷ t) ts) xs)
fronts P Q R [] ts f h i = tt
fronts P Q R (x ∷ xs) ts f h i =
    all_append R (map (λ t. x ∷ t) ts) (flat_map (λ z. map (λ t. z ∷ t) ts) xs)
    (AllByRecursion-map (λ t. x ∷ t) R ts (all_more Q (λ t. R (x ∷ t)) (λ t q. f x t h.0 q) ts i))
    (fronts P Q R xs ts f h.1 i)

-- a point of this operand
record IsPointOf (a : Structure) (x : OperandPoint) : Type 0 where
  structure : x.structure ≡ a
  point : IsOperandPoint x

points_of_it : (d : DataSet) → IsDataSet d.structure d.points → AllByRecursion (IsPointOf d.structure) (operand_points d)
points_of_it d h =
    AllByRecursion-map (operand_point d.structure) (IsPointOf d.structure) d.points
    (all_more (λ q. is_point (columns_of d.structure) q ≡ true) (λ q. IsPointOf d.structure (operand_point d.structure q)) (λ q w. record { structure = refl; point = record { well_formed = h.well_formed; typed = w } }) d.points h.typed)

pub combinations_are : (ds : List DataSet) → AreSets ds → AllByRecursion (IsCombination (structures_of ds)) (combinations (map operand_points ds))
combinations_are [] all = (record { structures = refl; points = tt }, tt)
combinations_are (d ∷ ds) all =
    fronts (IsPointOf d.structure) (IsCombination (structures_of ds)) (IsCombination (structures_of (d ∷ ds))) (operand_points d) (combinations (map operand_points ds))
    (λ x t h i. record { structures = ap (λ a. a ∷ map (λ y. y.structure) t) h.structure ∙ ap (λ l. d.structure ∷ l) i.structures; points = (h.point, i.points) })
    (points_of_it d all.0) (combinations_are ds all.1)

-- the identifiers of all operands
keys_point : (xs : List OperandPoint) → AllByRecursion IsOperandPoint xs → is_point (flat_map identifiers_of (map (λ x. x.structure) xs)) (keys_at xs) ≡ true
keys_point [] all = refl
keys_point (x ∷ xs) all =
    point_append (identifiers_of x.structure) (flat_map identifiers_of (map (λ y. y.structure) xs)) (key_at x) (keys_at xs) (key_of_point x.structure x.point all.0.typed) (keys_point xs all.1)

all_identifiers : (ss : List Structure) → AllByRecursion IsIdentifier (flat_map identifiers_of ss)
all_identifiers [] = tt
all_identifiers (a ∷ ss) = all_append IsIdentifier (identifiers_of a) (flat_map identifiers_of ss) (are_identifiers a) (all_identifiers ss)

present_parts : (xs : List OperandPoint) → AllByRecursion IsOperandPoint xs → AllByRecursion IsPart (map present xs)
present_parts [] all = tt
present_parts (x ∷ xs) all =
    (record { well_formed = all.0.well_formed; typed = λ q e. let same : x.point ≡ q = cc in subst (λ r. is_point (columns_of x.structure) r ≡ true) same all.0.typed }, present_parts xs all.1)

pub crossed_is : (kind : JoinKind) (ss : List Structure) (s : Structure) (xs : List OperandPoint) → IsJoined kind ss s → component_kinds (identifiers_of s) ≡ kinds_of_all identifiers_of ss → IsCombination ss xs
    → (is_point (columns_of s) (tuple_point (crossed xs)) ≡ true) × (take (key_width s) (tuple_point (crossed xs)) ≡ keys_at xs)
crossed_is kind ss s xs i e h =
    let whole = subst (λ l. is_point (flat_map identifiers_of l) (keys_at xs) ≡ true) h.structures (keys_point xs h.points) in
    let same : component_kinds (flat_map identifiers_of ss) ≡ component_kinds (identifiers_of s) = map-flat_map (λ x. x.kind) identifiers_of ss ∙ sym e in
    tuple_is kind ss s (crossed xs) i (map-map (λ p. p.structure) present xs ∙ h.structures) (present_parts xs h.points)
    (point_of_identifiers (flat_map identifiers_of ss) (identifiers_of s) (keys_at xs) (all_identifiers ss) (are_identifiers s) same whole)

-- ---- combinations differ in their identifiers
pub same_row-append : (k j a b : Row) → length k ≡ length j → same_row (k ++ a) (j ++ b) ≡ (same_row k j && same_row a b)
same_row-append [] [] a b e = refl
same_row-append [] (y ∷ j) a b e = absurd (omega (arith, e))
same_row-append (x ∷ k) [] a b e = absurd (omega (arith, e))
same_row-append (x ∷ k) (y ∷ j) a b e = ap (λ t. same_cell x y && t) (same_row-append k j a b (omega (arith, e))) ∙ assoc (same_cell x y) (same_row k j) (same_row a b)
  where
    assoc : (p q r : Bool) → (p && (q && r)) ≡ ((p && q) && r)
    assoc true q r = refl
    assoc false q r = refl

pub apart_append : {X : Type 0} (same : X → X → Bool) (xs ys : List X) → all_apart same xs ≡ true → all_apart same ys ≡ true → AllByRecursion (λ x. AllByRecursion (λ y. same x y ≡ false) ys) xs → all_apart same (xs ++ ys) ≡ true
apart_append same [] ys e f h = f
apart_append same (x ∷ xs) ys e f h =
    let parts = apart_parts same x xs e in
    apart_more same x (xs ++ ys) (all_append (λ y. same x y ≡ false) xs ys parts.0 h.0) (apart_append same xs ys parts.1 f h.1)

-- items of which a function's values are apart
pub apart_map : {X Y : Type 0} (f : X → Y) (same : Y → Y → Bool) (xs : List X) → all_apart same (map f xs) ≡ all_apart (λ x y. same (f x) (f y)) xs
apart_map f same [] = refl
apart_map {X = X} f same (x ∷ xs) = ap (λ b. not b && all_apart same (map f xs)) (any_map xs) ∙ ap (λ b. not (list_any (λ y. same (f x) (f y)) xs) && b) (apart_map f same xs)
  where
    any_map : (ys : List X) → list_any (same (f x)) (map f ys) ≡ list_any (λ y. same (f x) (f y)) ys
    any_map [] = refl
    any_map (y ∷ ys) = ap (λ b. same (f x) (f y) || b) (any_map ys)

abbrev same_keys_at : List OperandPoint → List OperandPoint → Bool
same_keys_at t u = same_row (keys_at t) (keys_at u)

-- so wide are the identifiers of this point
abbrev IsWide : ℕ → OperandPoint → Type 0
IsWide n x = length (key_at x) ≡ n

module _ (n : ℕ) (ts : List (List OperandPoint)) where
  abbrev in_front : OperandPoint → List (List OperandPoint)
  in_front x = map (λ t. x ∷ t) ts

  front_apart : (x : OperandPoint) (us : List (List OperandPoint)) → all_apart same_keys_at us ≡ true → all_apart same_keys_at (map (λ t. x ∷ t) us) ≡ true
  front_apart x us e = apart_map (λ t. x ∷ t) same_keys_at us ∙ ap (λ (f : List OperandPoint → List OperandPoint → Bool). all_apart f us) (λ i t u. same t u i) ∙ e
    where
      same : (t u : List OperandPoint) → same_keys_at (x ∷ t) (x ∷ u) ≡ same_keys_at t u
      same t u = same_row-append (key_at x) (key_at x) (keys_at t) (keys_at u) refl ∙ ap (λ b. b && same_keys_at t u) (same_row-refl (key_at x))

  -- an item in front that differs
  differ : (x y : OperandPoint) (t u : List OperandPoint) → IsWide n x → IsWide n y → same_row (key_at x) (key_at y) ≡ false → same_keys_at (x ∷ t) (y ∷ u) ≡ false
  differ x y t u h i e = same_row-append (key_at x) (key_at y) (keys_at t) (keys_at u) (h ∙ sym i) ∙ ap (λ b. b && same_keys_at t u) e

  each_differs : (x : OperandPoint) (t : List OperandPoint) (xs : List OperandPoint) → IsWide n x → AllByRecursion (IsWide n) xs → AllByRecursion (λ y. same_row (key_at x) (key_at y) ≡ false) xs → AllByRecursion (λ u. same_keys_at (x ∷ t) u ≡ false) (flat_map in_front xs)
  each_differs x t [] h all apart = tt
  each_differs x t (y ∷ xs) h all apart =
      all_append (λ u. same_keys_at (x ∷ t) u ≡ false) (in_front y) (flat_map in_front xs)
      (AllByRecursion-map (λ u. y ∷ u) (λ u. same_keys_at (x ∷ t) u ≡ false) ts (every ts)) (each_differs x t xs h all.1 apart.1)
    where
      every : (us : List (List OperandPoint)) → AllByRecursion (λ u. same_keys_at (x ∷ t) (y ∷ u) ≡ false) us
      every [] = tt
      every (u ∷ us) = (differ x y t u h all.0 apart.0, every us)

  fronts_apart : (xs : List OperandPoint) → AllByRecursion (IsWide n) xs → all_apart (λ x y. same_row (key_at x) (key_at y)) xs ≡ true → all_apart same_keys_at ts ≡ true → all_apart same_keys_at (flat_map in_front xs) ≡ true
  fronts_apart [] all e f = refl
  fronts_apart (x ∷ xs) all e f =
      let parts = apart_parts (λ y z. same_row (key_at y) (key_at z)) x xs e in
      apart_append same_keys_at (in_front x) (flat_map in_front xs) (front_apart x ts f) (fronts_apart xs all.1 parts.1 f)
      (AllByRecursion-map (λ t. x ∷ t) (λ t. AllByRecursion (λ u. same_keys_at t u ≡ false) (flat_map in_front xs)) ts (every parts.0 ts))
    where
      every : AllByRecursion (λ y. same_row (key_at x) (key_at y) ≡ false) xs → (us : List (List OperandPoint)) → AllByRecursion (λ t. AllByRecursion (λ u. same_keys_at (x ∷ t) u ≡ false) (flat_map in_front xs)) us
      every apart [] = tt
      every apart (t ∷ us) = (each_differs x t xs all.0 all.1 apart, every apart us)

combinations_apart : (ds : List DataSet) → AreSets ds → all_apart same_keys_at (combinations (map operand_points ds)) ≡ true
combinations_apart [] all = refl
combinations_apart (d ∷ ds) all =
    let a = d.structure in
    fronts_apart (key_width a) (combinations (map operand_points ds)) (operand_points d)
    (AllByRecursion-map (operand_point a) (IsWide (key_width a)) d.points (all_more (λ q. is_point (columns_of a) q ≡ true) (λ q. IsWide (key_width a) (operand_point a q)) (λ q h. point_length (identifiers_of a) (key_of a q) (key_of_point a q h)) d.points all.0.typed))
    (apart_map (operand_point a) (λ x y. same_row (key_at x) (key_at y)) d.points ∙ all.0.distinct) (combinations_apart ds all.1)

-- points that begin with identifiers that differ
begin_apart : {X : Type 0} (n : ℕ) (f g : X → Row) (xs : List X) → AllByRecursion (λ x. take n (f x) ≡ g x) xs → all_apart (λ x y. same_row (g x) (g y)) xs ≡ true → Distinct n (map f xs)
begin_apart n f g [] all e = refl
begin_apart {X = X} n f g (x ∷ xs) all e =
    let parts = apart_parts (λ y z. same_row (g y) (g z)) x xs e in
    apart_more (same_key n) (f x) (map f xs) (AllByRecursion-map f (λ r. same_key n (f x) r ≡ false) xs (later xs all.1 parts.0)) (begin_apart n f g xs all.1 parts.1)
  where
    later : (ys : List X) → AllByRecursion (λ y. take n (f y) ≡ g y) ys → AllByRecursion (λ y. same_row (g x) (g y) ≡ false) ys → AllByRecursion (λ y. same_key n (f x) (f y) ≡ false) ys
    later [] h i = tt
    later (y ∷ ys) h i = (ap (λ l. same_row l (take n (f y))) all.0 ∙ ap (same_row (g x)) h.0 ∙ i.0, later ys h.1 i.1)

cross_kept : (kind : JoinKind) (ds : List DataSet) (s : Structure) → IsJoined kind (structures_of ds) s → component_kinds (identifiers_of s) ≡ kinds_of_all identifiers_of (structures_of ds) → AreSets ds → IsDataSet s (map tuple_point (cross_tuples ds))
cross_kept kind ds s i e all =
    let ts = combinations (map operand_points ds) in
    let f : List OperandPoint → Row = λ t. tuple_point (crossed t) in
    let C = IsCombination (structures_of ds) in
    let are = combinations_are ds all in
    subst (IsDataSet s) (sym (map-map tuple_point crossed ts))
    (record {
      well_formed = i.well_formed;
      typed = AllByRecursion-map f (λ q. is_point (columns_of s) q ≡ true) ts (all_more C (λ t. is_point (columns_of s) (f t) ≡ true) (λ t h. (crossed_is kind (structures_of ds) s t i e h).0) ts are);
      distinct = begin_apart (key_width s) f keys_at ts (all_more C (λ t. take (key_width s) (f t) ≡ keys_at t) (λ t h. (crossed_is kind (structures_of ds) s t i e h).1) ts are) (combinations_apart ds all);
    })

-- ---- all four
pub have_them : (a : Structure) (ds : List DataSet) → AllByRecursion (λ b. AreAmong (identifiers_of b) (identifiers_of a) × AreAmong (identifiers_of a) (identifiers_of b)) (structures_of ds) → HaveThem (identifiers_of a) ds
have_them a [] all = tt
have_them a (d ∷ ds) all = (all.0.1, have_them a ds all.1)

joined_kept : (kind : JoinKind) (r : DataSet) (ds : List DataSet) (s : Structure) → IsJoined kind (structures_of ds) s → GoTogether kind r.structure (structures_of ds) s → IsDataSet r.structure r.points → AreSets ds → IsDataSet s (joined_of kind r ds)
joined_kept join.Inner r ds s i go h all = inner_kept join.Inner r ds s i go.0 h all
joined_kept join.Left r ds s i go h all = left_kept join.Left r ds s i go.0 h all
joined_kept join.Full r ds s i go h all = full_kept join.Full r ds s i go.0 all (have_them r.structure ds go.1)
joined_kept join.Cross r ds s i go h all = cross_kept join.Cross ds s i go all

-- the data set of which the joined set has the identifiers
pub record IsReference (kind : JoinKind) (ds : List DataSet) (s : Structure) (r : DataSet) : Type 0 where
  pub there : slice_get ds (reference_place kind (structures_of ds)) ≡ Some r
  pub together : GoTogether kind r.structure (structures_of ds) s
  pub kept : IsDataSet r.structure r.points

-- it is one of the operands
pub reference_is : (kind : JoinKind) (ds : List DataSet) (s : Structure) → IsJoined kind (structures_of ds) s → AreSets ds → (r : DataSet) × IsReference kind ds s r
reference_is kind ds s i all =
    let found = standing ds (reference_place kind (structures_of ds)) i.reference i.there all in
    (found.0, record { there = found.1; together = turned found.0.structure i.reference found.2 i.identifiers; kept = found.3 })
  where
    turned : (r a : Structure) → r ≡ a → GoTogether kind a (structures_of ds) s → GoTogether kind r (structures_of ds) s
    turned r a e go = subst (λ x. GoTogether kind x (structures_of ds) s) (sym e) go

    standing : (es : List DataSet) (n : ℕ) (a : Structure) → slice_get (structures_of es) n ≡ Some a → AreSets es → (r : DataSet) × (slice_get es n ≡ Some r) × (r.structure ≡ a) × IsDataSet r.structure r.points
    standing [] n a e h = cc
    standing (d ∷ es) zero a e h = let same : d.structure ≡ a = cc in (d, refl, same, h.0)
    standing (d ∷ es) (suc n) a e h = standing es n a e h.1

-- the join is the one with it
pub join_with : (kind : JoinKind) (ds : List DataSet) (r : DataSet) → slice_get ds (reference_place kind (structures_of ds)) ≡ Some r → join_of kind ds ≡ joined_of kind r ds
join_with kind ds r there = ap (λ o. option_map_or (λ reference. joined_of kind reference ds) o []) there

pub join_kept : (kind : JoinKind) (ds : List DataSet) (s : Structure) → IsJoined kind (structures_of ds) s → AllByRecursion (λ d. IsDataSet d.structure d.points) ds → IsDataSet s (join_of kind ds)
join_kept kind ds s i all =
    let found = reference_is kind ds s i all in
    subst (IsDataSet s) (sym (join_with kind ds found.0 found.1.there)) (joined_kept kind found.0 ds s i found.1.together found.1.kept all)
