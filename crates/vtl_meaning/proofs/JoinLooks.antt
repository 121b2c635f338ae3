-- Joins by look-up.
use Rattle.std.proofs.Common.{◌≡◌, ℕ, Bool, true, false, ◌&&◌, ◌||◌, List, [], ◌∷◌, ◌++◌, cond, length, map, take, Option, Some, None, refl, sym, ap, ◌∙◌, subst}
use Rattle.std.specs.Prelude.{IfSome, option_map, slice_get}
use Rattle.std.specs.List.{AllByRecursion, find, flat_map, list_any}
use Rattle.std.specs.Option.{option_and_then}
use Rattle.vtl_lists.specs.Each.{cons_if}
use Rattle.vtl_lists.proofs.Sorts.{AllByRecursion-map}
use Rattle.vtl_lists.proofs.Alls.{all_each, all_more}
use Rattle.vtl_lists.proofs.Tests.{or_true}
use Rattle.vtl_cell.specs.Row.{Row, same_key, same_row}
use Rattle.vtl_cell.proofs.Rows.{same_row-is, same_row-refl}
use Rattle.vtl_syntax.specs.declared.word_groups.JoinKind.{JoinKind}
use Rattle.vtl_syntax.specs.declared.word_groups.JoinKind.TheVariants as join
use Rattle.vtl_tree.specs.DataSet.{Distinct, IsDataSet, is_point, look}
use Rattle.vtl_tree.specs.Environment.{DataSet}
use Rattle.vtl_tree.specs.Structure.{columns_of, key_width}
use Rattle.vtl_tree.specs.declared.structure.Component.{Component}
use Rattle.vtl_tree.specs.declared.structure.Structure.{Structure}
use Rattle.vtl_tuples.specs.Tuples.{combinations}
use Rattle.vtl_tuples.proofs.Lists.{map-map}
use Rattle.vtl_tuples.proofs.Onces.{among_once}
use Rattle.vtl_meaning.specs.Agreement.{OperandPoint, key_of, operand_point, operand_points, values_in}
use Rattle.vtl_tree.specs.Columns.{identifiers_of}
use Rattle.vtl_meaning.specs.JoinWords.{looked_tuple, point_with, points_at, whole_point}
use Rattle.vtl_meaning.specs.Joined.{all_keys, crossed, is_whole, join_of, keys_in, reference_of, reference_place, structures_of, tuple_at, tuple_beside, tuple_point}
use Rattle.vtl_meaning.specs.Made.{AreAmong, GoTogether, IsJoined}
use Rattle.vtl_meaning.proofs.JoinAgreements.{own_found}
use Rattle.vtl_meaning.proofs.JoinGrows.{alike_rows, own_with}
use Rattle.vtl_meaning.proofs.JoinInner.{find-map}
use Rattle.vtl_meaning.proofs.JoinKept.{IsCombination, all_keys_are, beside_keeps, combinations_are, crossed_is, full_keeps, have_them, join_with, key_at, keys_at, made_of_passing, reference_is, same_row-append, whole_key}
use Rattle.vtl_meaning.proofs.JoinPartners.{HasThose, at_looked}
use Rattle.vtl_meaning.proofs.JoinParts.{AreSets}
use Rattle.vtl_meaning.proofs.Looks.{look-drawn, look-map}
use Rattle.vtl_meaning.proofs.Places.{key_of_point, point_length}

-- ---- the reference is the first operand where its place is the first
goes_with_first : (kind : JoinKind) (r : DataSet) (ds : List DataSet) (s : Structure) → reference_place kind (structures_of (r ∷ ds)) ≡ 0 → IsJoined kind (structures_of (r ∷ ds)) s → GoTogether kind r.structure (structures_of (r ∷ ds)) s
goes_with_first kind r ds s first i =
    let there : slice_get (structures_of (r ∷ ds)) 0 ≡ Some i.reference = ap (slice_get (structures_of (r ∷ ds))) (sym first) ∙ i.there in
    let same : r.structure ≡ i.reference = cc in
    subst (λ a. GoTogether kind a (structures_of (r ∷ ds)) s) (sym same) i.identifiers

-- ---- `left_join`
pub left_look : (r : DataSet) (ds : List DataSet) (s : Structure) (k : Row) → IsJoined join.Left (structures_of (r ∷ ds)) s → AllByRecursion (λ d. IsDataSet d.structure d.points) (r ∷ ds)
    → look (key_width s) (join_of join.Left (r ∷ ds)) k ≡ option_map (λ q. tuple_point (tuple_beside r.structure (r ∷ ds) q)) (look (key_width r.structure) r.points k)
left_look r ds s k i all =
    let a = r.structure in
    let f : Row → Row = λ q. tuple_point (tuple_beside a (r ∷ ds) q) in
    ap (λ l. look (key_width s) l k) (map-map tuple_point (tuple_beside a (r ∷ ds)) r.points)
    ∙ look-map (key_width a) (key_width s) f r.points k k
    (all_more (λ q. is_point (columns_of a) q ≡ true) (λ q. same_row (take (key_width s) (f q)) k ≡ same_row (take (key_width a) q) k)
    (λ q w. ap (λ z. same_row z k) (beside_keeps join.Left a s (r ∷ ds) q i (goes_with_first join.Left r ds s refl i).0 all w).1) r.points all.0.typed)

-- ---- `inner_join`
pub inner_look : (ds : List DataSet) (r : DataSet) (s : Structure) (k : Row) → IsJoined join.Inner (structures_of ds) s → AllByRecursion (λ d. IsDataSet d.structure d.points) ds → reference_of join.Inner ds ≡ Some r
    → look (key_width s) (join_of join.Inner ds) k ≡ option_and_then (λ q. whole_point (tuple_beside r.structure ds q)) (look (key_width r.structure) r.points k)
inner_look ds r s k i all there =
    let found = reference_is join.Inner ds s i all in
    let same : found.0 ≡ r = cc (there, found.1.there) in
    ap (λ l. look (key_width s) l k) (join_with join.Inner ds found.0 found.1.there ∙ made_of_passing is_whole tuple_point (tuple_beside found.0.structure ds) found.0.points)
    ∙ look-drawn (key_width found.0.structure) (key_width s) (λ q. whole_point (tuple_beside found.0.structure ds q)) found.0.points k
    (all_more (λ q. is_point (columns_of found.0.structure) q ≡ true) (λ q. IfSome (whole_point (tuple_beside found.0.structure ds q)) (λ z. take (key_width s) z ≡ take (key_width found.0.structure) q))
    (λ q w. if_whole (λ z. take (key_width s) z ≡ take (key_width found.0.structure) q) (is_whole (tuple_beside found.0.structure ds q)) (tuple_point (tuple_beside found.0.structure ds q)) (beside_keeps join.Inner found.0.structure s ds q i found.1.together.0 all w).1) found.0.points found.1.kept.typed) found.1.kept.distinct
    ∙ ap (λ d. option_and_then (λ q. whole_point (tuple_beside d.structure ds q)) (look (key_width d.structure) d.points k)) same
  where
    if_whole : (P : Row → Type 0) (b : Bool) (z : Row) → P z → IfSome (cond b (Some z) None) P
    if_whole P true z h = h
    if_whole P false z h = tt

-- ---- points that begin with given identifiers
found_as_look : (n : ℕ) (d : List Row) (k : Row) → find (λ t. same_row (take n t) k) d ≡ look n d k
found_as_look n [] k = refl
found_as_look n (t ∷ d) k = ap (cond (same_row (take n t) k) (Some t)) (found_as_look n d k)

pub look_find : {X : Type 0} (m : ℕ) (f g : X → Row) (xs : List X) (k : Row) → AllByRecursion (λ x. take m (f x) ≡ g x) xs → look m (map f xs) k ≡ option_map f (find (λ x. same_row (g x) k) xs)
look_find m f g [] k all = refl
look_find m f g (x ∷ xs) k all = ap (λ l. cond (same_row l k) (Some (f x)) (look m (map f xs) k)) all.0 ∙ go (same_row (g x) k) (look_find m f g xs k all.1)
  where
    go : (b : Bool) → look m (map f xs) k ≡ option_map f (find (λ z. same_row (g z) k) xs) → cond b (Some (f x)) (look m (map f xs) k) ≡ option_map f (cond b (Some x) (find (λ z. same_row (g z) k) xs))
    go true ih = refl
    go false ih = ih

-- ---- `full_join`
find_itself : (ks : List Row) (k : Row) → find (λ j. same_row j k) ks ≡ cond (list_any (λ j. same_row j k) ks) (Some k) None
find_itself [] k = refl
find_itself (j ∷ ks) k = go (same_row j k) refl (find_itself ks k)
  where
    go : (b : Bool) → same_row j k ≡ b → find (λ i. same_row i k) ks ≡ cond (list_any (λ i. same_row i k) ks) (Some k) None → cond b (Some j) (find (λ i. same_row i k) ks) ≡ cond (b || list_any (λ i. same_row i k) ks) (Some k) None
    go true e ih = ap Some (same_row-is j k e)
    go false e ih = ih

pub full_look : (r : DataSet) (ds : List DataSet) (s : Structure) (k : Row) → IsJoined join.Full (structures_of (r ∷ ds)) s → AllByRecursion (λ d. IsDataSet d.structure d.points) (r ∷ ds)
    → look (key_width s) (join_of join.Full (r ∷ ds)) k ≡ cond (list_any (λ j. same_row j k) (flat_map (keys_in (identifiers_of r.structure)) (r ∷ ds))) (Some (tuple_point (tuple_at (identifiers_of r.structure) (r ∷ ds) k))) None
full_look r ds s k i all =
    let a = r.structure in
    let ids = identifiers_of a in
    let keys = all_keys ids (r ∷ ds) in
    let f : Row → Row = λ j. tuple_point (tuple_at ids (r ∷ ds) j) in
    let go = goes_with_first join.Full r ds s refl i in
    ap (λ l. look (key_width s) l k) (map-map tuple_point (tuple_at ids (r ∷ ds)) keys)
    ∙ look_find (key_width s) f (λ j. j) keys k
    (all_more (λ j. is_point ids j ≡ true) (λ j. take (key_width s) (f j) ≡ j) (λ j h. (full_keeps join.Full a s (r ∷ ds) j i go.0 all h).1 ∙ whole_key (key_width a) j (point_length ids j h)) keys (all_keys_are a (r ∷ ds) all (have_them a (r ∷ ds) go.1)))
    ∙ ap (option_map f) (find_itself keys k ∙ ap (λ b. cond b (Some k) None) (among_once same_row alike_rows (flat_map (keys_in ids) (r ∷ ds)) k))
    ∙ turned (list_any (λ j. same_row j k) (flat_map (keys_in ids) (r ∷ ds)))
  where
    turned : (b : Bool) → option_map (λ j. tuple_point (tuple_at (identifiers_of r.structure) (r ∷ ds) j)) (cond b (Some k) None) ≡ cond b (Some (tuple_point (tuple_at (identifiers_of r.structure) (r ∷ ds) k))) None
    turned true = refl
    turned false = refl

-- ---- `cross_join`
find_both : {X : Type 0} (b : Bool) (q : X → Bool) (xs : List X) → find (λ x. b && q x) xs ≡ cond b (find q xs) None
find_both true q xs = refl
find_both false q [] = refl
find_both false q (x ∷ xs) = find_both false q xs

cons_none : {X : Type 0} (o : Option X) → cons_if o None ≡ None
cons_none None = refl
cons_none (Some x) = refl

-- the first combination that begins with these identifiers, and goes on with those
find_fronts : (ts : List (List OperandPoint)) (k j : Row) (xs : List OperandPoint) → AllByRecursion (λ x. length (key_at x) ≡ length k) xs
    → find (λ t. same_row (keys_at t) (k ++ j)) (flat_map (λ x. map (λ t. x ∷ t) ts) xs) ≡ cons_if (find (λ x. same_row (key_at x) k) xs) (find (λ t. same_row (keys_at t) j) ts)
find_fronts ts k j [] all = refl
find_fronts ts k j (x ∷ xs) all =
    found_append (map (λ t. x ∷ t) ts)
    ∙ ap (λ o. or_else o (find passes rest)) (find-map passes (λ t. x ∷ t) ts ∙ ap (λ (p : List OperandPoint → Bool). option_map (λ t. x ∷ t) (find p ts)) (λ i t. split t i) ∙ ap (option_map (λ t. x ∷ t)) (find_both (same_row (key_at x) k) (λ t. same_row (keys_at t) j) ts))
    ∙ go (same_row (key_at x) k) (find (λ t. same_row (keys_at t) j) ts) (find_fronts ts k j xs all.1)
  where
    passes : List OperandPoint → Bool
    passes t = same_row (keys_at t) (k ++ j)

    rest : List (List OperandPoint)
    rest = flat_map (λ y. map (λ t. y ∷ t) ts) xs

    or_else : Option (List OperandPoint) → Option (List OperandPoint) → Option (List OperandPoint)
    or_else None u = u
    or_else (Some t) u = Some t

    found_append : (us : List (List OperandPoint)) → find passes (us ++ rest) ≡ or_else (find passes us) (find passes rest)
    found_append [] = refl
    found_append (u ∷ us) = one (passes u) (found_append us)
      where
        one : (b : Bool) → find passes (us ++ rest) ≡ or_else (find passes us) (find passes rest) → cond b (Some u) (find passes (us ++ rest)) ≡ or_else (cond b (Some u) (find passes us)) (find passes rest)
        one true ih = refl
        one false ih = ih

    split : (t : List OperandPoint) → passes (x ∷ t) ≡ (same_row (key_at x) k && same_row (keys_at t) j)
    split t = same_row-append (key_at x) k (keys_at t) j all.0

    go : (b : Bool) (o : Option (List OperandPoint)) → find passes rest ≡ cons_if (find (λ y. same_row (key_at y) k) xs) o → or_else (option_map (λ t. x ∷ t) (cond b o None)) (find passes rest) ≡ cons_if (cond b (Some x) (find (λ y. same_row (key_at y) k) xs)) o
    go true None ih = ih ∙ cons_none (find (λ y. same_row (key_at y) k) xs)
    go true (Some t) ih = refl
    go false o ih = ih

-- as many identifiers as all_each operand has
abbrev pub widths_of : List DataSet → List ℕ
widths_of ds = map (λ d. key_width d.structure) ds

found_combination : (ds : List DataSet) (ks : List Row) → AreSets ds → map length ks ≡ widths_of ds → find (λ t. same_row (keys_at t) (flat_map (λ k. k) ks)) (combinations (map operand_points ds)) ≡ points_at ds ks
found_combination [] [] all e = refl
found_combination [] (k ∷ ks) all e = cc
found_combination (d ∷ ds) [] all e = cc
found_combination (d ∷ ds) (k ∷ ks) all e =
    let a = d.structure in
    let here : length k ≡ key_width a = cc in
    let more : map length ks ≡ widths_of ds = cc in
    find_fronts (combinations (map operand_points ds)) k (flat_map (λ z. z) ks) (operand_points d)
    (AllByRecursion-map (operand_point a) (λ x. length (key_at x) ≡ length k) d.points
    (all_more (λ q. is_point (columns_of a) q ≡ true) (λ q. length (take (key_width a) q) ≡ length k) (λ q h. point_length (identifiers_of a) (key_of a q) (key_of_point a q h) ∙ sym here) d.points all.0.typed))
    ∙ ap (λ o. cons_if o (find (λ t. same_row (keys_at t) (flat_map (λ z. z) ks)) (combinations (map operand_points ds))))
    (find-map (λ x. same_row (key_at x) k) (operand_point a) d.points ∙ ap (option_map (operand_point a)) (found_as_look (key_width a) d.points k))
    ∙ ap (cons_if (option_map (operand_point a) (look (key_width a) d.points k))) (found_combination ds ks all.1 more)

pub cross_look : (ds : List DataSet) (ks : List Row) (s : Structure) → IsJoined join.Cross (structures_of ds) s → AllByRecursion (λ d. IsDataSet d.structure d.points) ds → map length ks ≡ map (λ d. key_width d.structure) ds
    → look (key_width s) (join_of join.Cross ds) (flat_map (λ k. k) ks) ≡ option_map (λ xs. tuple_point (crossed xs)) (points_at ds ks)
cross_look ds ks s i all e =
    let found = reference_is join.Cross ds s i all in
    let ts = combinations (map operand_points ds) in
    let f : List OperandPoint → Row = λ t. tuple_point (crossed t) in
    let C = IsCombination (structures_of ds) in
    ap (λ l. look (key_width s) l (flat_map (λ k. k) ks)) (join_with join.Cross ds found.0 found.1.there ∙ map-map tuple_point crossed ts)
    ∙ look_find (key_width s) f keys_at ts (flat_map (λ k. k) ks) (all_more C (λ t. take (key_width s) (f t) ≡ keys_at t) (λ t h. (crossed_is join.Cross (structures_of ds) s t i i.identifiers h).1) ts (combinations_are ds all))
    ∙ ap (option_map f) (found_combination ds ks all e)

-- ---- nothing is lost
pub look_own : (n : ℕ) (d : List Row) → Distinct n d → AllByRecursion (λ q. look n d (take n q) ≡ Some q) d
look_own n d apart =
    all_more (λ q. find (λ t. same_key n t q) d ≡ Some q) (λ q. look n d (take n q) ≡ Some q) (λ q e. sym (found_as_look n d (take n q)) ∙ e) d
    (own_found (λ q. Unit {0}) (same_key n) (λ q t. same_key n t q) (λ q u. same_row-refl (take n q)) (λ q t u v e. e) d (all_each (λ q. Unit {0}) (λ q. tt) d) apart)

pub left_loses_nothing : (r : DataSet) (ds : List DataSet) (s : Structure) → IsJoined join.Left (structures_of (r ∷ ds)) s → AllByRecursion (λ d. IsDataSet d.structure d.points) (r ∷ ds)
    → AllByRecursion (λ q. look (key_width s) (join_of join.Left (r ∷ ds)) (key_of r.structure q) ≡ Some (tuple_point (tuple_beside r.structure (r ∷ ds) q))) r.points
left_loses_nothing r ds s i all =
    let a = r.structure in
    let f : Row → Row = λ q. tuple_point (tuple_beside a (r ∷ ds) q) in
    all_more (λ q. look (key_width a) r.points (take (key_width a) q) ≡ Some q) (λ q. look (key_width s) (join_of join.Left (r ∷ ds)) (key_of a q) ≡ Some (f q))
    (λ q e. left_look r ds s (key_of a q) i all ∙ ap (option_map f) e) r.points (look_own (key_width a) r.points all.0.distinct)

-- all_each item of all_each list is among all
each_among : (ids : List Component) (ds : List DataSet) → AllByRecursion (λ d. AllByRecursion (λ q. list_any (λ j. same_row j (values_in d.structure ids q)) (flat_map (keys_in ids) ds) ≡ true) d.points) ds
each_among ids [] = tt
each_among ids (d ∷ ds) = (own d.points, later ds (each_among ids ds))
  where
    keys : Row → Row
    keys = values_in d.structure ids

    rest : List Row
    rest = flat_map (keys_in ids) ds

    before : (j k : Row) (l : List Row) → list_any (λ i. same_row i k) l ≡ true → list_any (λ i. same_row i k) (j ∷ l) ≡ true
    before j k l e = ap (λ b. same_row j k || b) e ∙ or_true (same_row j k)

    own : (l : List Row) → AllByRecursion (λ q. list_any (λ j. same_row j (keys q)) (map keys l ++ rest) ≡ true) l
    own [] = tt
    own (q ∷ l) = (ap (λ b. b || list_any (λ j. same_row j (keys q)) (map keys l ++ rest)) (same_row-refl (keys q)), more l (own l))
      where
        more : (m : List Row) → AllByRecursion (λ t. list_any (λ j. same_row j (keys t)) (map keys l ++ rest) ≡ true) m → AllByRecursion (λ t. list_any (λ j. same_row j (keys t)) (keys q ∷ map keys l ++ rest) ≡ true) m
        more [] all = tt
        more (t ∷ m) all = (before (keys q) (keys t) (map keys l ++ rest) all.0, more m all.1)

    behind : (k : Row) (l : List Row) → list_any (λ j. same_row j k) rest ≡ true → list_any (λ j. same_row j k) (map keys l ++ rest) ≡ true
    behind k [] e = e
    behind k (q ∷ l) e = before (keys q) k (map keys l ++ rest) (behind k l e)

    later : (es : List DataSet) → AllByRecursion (λ e. AllByRecursion (λ q. list_any (λ j. same_row j (values_in e.structure ids q)) rest ≡ true) e.points) es
        → AllByRecursion (λ e. AllByRecursion (λ q. list_any (λ j. same_row j (values_in e.structure ids q)) (keys_in ids d ++ rest) ≡ true) e.points) es
    later [] all = tt
    later (e ∷ es) all =
        (all_more (λ q. list_any (λ j. same_row j (values_in e.structure ids q)) rest ≡ true) (λ q. list_any (λ j. same_row j (values_in e.structure ids q)) (keys_in ids d ++ rest) ≡ true) (λ q h. behind (values_in e.structure ids q) d.points h) e.points all.0, later es all.1)

pub full_loses_nothing : (r : DataSet) (ds : List DataSet) (s : Structure) → IsJoined join.Full (structures_of (r ∷ ds)) s → AllByRecursion (λ d. IsDataSet d.structure d.points) (r ∷ ds)
    → AllByRecursion (λ d. AllByRecursion (λ q. look (key_width s) (join_of join.Full (r ∷ ds)) (values_in d.structure (identifiers_of r.structure) q) ≡ Some (tuple_point (tuple_at (identifiers_of r.structure) (r ∷ ds) (values_in d.structure (identifiers_of r.structure) q)))) d.points) (r ∷ ds)
full_loses_nothing r ds s i all =
    let ids = identifiers_of r.structure in
    let f : Row → Row = λ k. tuple_point (tuple_at ids (r ∷ ds) k) in
    let ks = flat_map (keys_in ids) (r ∷ ds) in
    all_more (λ d. AllByRecursion (λ q. list_any (λ j. same_row j (values_in d.structure ids q)) ks ≡ true) d.points) (λ d. AllByRecursion (λ q. look (key_width s) (join_of join.Full (r ∷ ds)) (values_in d.structure ids q) ≡ Some (f (values_in d.structure ids q))) d.points)
    (λ d h. all_more (λ q. list_any (λ j. same_row j (values_in d.structure ids q)) ks ≡ true) (λ q. look (key_width s) (join_of join.Full (r ∷ ds)) (values_in d.structure ids q) ≡ Some (f (values_in d.structure ids q)))
    (λ q e. full_look r ds s (values_in d.structure ids q) i all ∙ ap (λ b. cond b (Some (f (values_in d.structure ids q))) None) e) d.points h) (r ∷ ds) (each_among ids (r ∷ ds))

-- and all_each point is the part of its operand there
pub full_has_each : (r : DataSet) (ds : List DataSet) (s : Structure) → IsJoined join.Full (structures_of (r ∷ ds)) s → AllByRecursion (λ d. IsDataSet d.structure d.points) (r ∷ ds)
    → AllByRecursion (λ d. AllByRecursion (λ q. point_with (identifiers_of r.structure) d (values_in d.structure (identifiers_of r.structure) q) ≡ Some q) d.points) (r ∷ ds)
full_has_each r ds s i all = each_own (r ∷ ds) all (goes_with_first join.Full r ds s refl i).1
  where
    each_own : (es : List DataSet) → AreSets es → AllByRecursion (λ b. AreAmong (identifiers_of b) (identifiers_of r.structure) × AreAmong (identifiers_of r.structure) (identifiers_of b)) (structures_of es)
        → AllByRecursion (λ d. AllByRecursion (λ q. point_with (identifiers_of r.structure) d (values_in d.structure (identifiers_of r.structure) q) ≡ Some q) d.points) es
    each_own [] sets within = tt
    each_own (e ∷ es) sets within = (own_with r.structure e sets.0 within.0.0, each_own es sets.1 within.1)

-- ---- the parts by look-up
pub full_looked : (r : DataSet) (ds : List DataSet) (s : Structure) (k : Row) → IsJoined join.Full (structures_of (r ∷ ds)) s → AllByRecursion (λ d. IsDataSet d.structure d.points) (r ∷ ds) → length k ≡ key_width r.structure
    → tuple_at (identifiers_of r.structure) (r ∷ ds) k ≡ looked_tuple r.structure (r ∷ ds) k
full_looked r ds s k i all l = at_looked r.structure (r ∷ ds) k all.0.well_formed l (those (r ∷ ds) all (goes_with_first join.Full r ds s refl i).1)
  where
    those : (es : List DataSet) → AreSets es → AllByRecursion (λ b. AreAmong (identifiers_of b) (identifiers_of r.structure) × AreAmong (identifiers_of r.structure) (identifiers_of b)) (structures_of es) → AllByRecursion (HasThose r.structure) es
    those [] sets within = tt
    those (e ∷ es) sets within = (record { inside = record { kept = sets.0; within = within.0.0 }; back = within.0.1 }, those es sets.1 within.1)
