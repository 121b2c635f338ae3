-- The operators keep what makes a data set: widths, kinds and keys.
use Rattle.std.proofs.Common.{◌≡◌, ℕ, zero, suc, ◌<◌, ◌≤◌, Bool, true, false, not, cond, ◌&&◌, ◌||◌, List, [], ◌∷◌, ◌++◌, length, map, take, Option, Some, None, Ok, Err, inl, inr, refl, sym, ap, ◌∙◌, subst, arith, length-append}
use Rattle.std.specs.List.{AllByRecursion, filter, list_all, list_any}
use Rattle.std.specs.Option.{option_map_or}
use Rattle.std.proofs.lemmas.Bool.{and_parts, not-true, or_cases}
use Rattle.std.proofs.lemmas.List.{length-map, map-append, take-append-le}
use Rattle.vtl_decimal.specs.Settings.{Settings}
use Rattle.vtl_lists.proofs.Aparts.{all_apart-filter}
use Rattle.vtl_lists.proofs.Sorts.{AllByRecursion-filter, AllByRecursion-map}
use Rattle.vtl_lists.proofs.Alls.{all_back, all_both, all_filtered, all_more}
use Rattle.vtl_cell.specs.Kinds.{is_null}
use Rattle.vtl_cell.specs.Order.{same_cell}
use Rattle.vtl_decimal.specs.declared.number.Fault.{Fault}
use Rattle.vtl_cell.specs.Outcome.{Outcome, after, faults_by, unless}
use Rattle.vtl_cell.specs.Outcomes.{is_true}
use Rattle.vtl_cell.specs.Row.{Row, column_of, same_key, same_row}
use Rattle.vtl_cell.specs.declared.cell.Cell.{Cell}
use Rattle.vtl_cell.specs.declared.kind.Kind.{Kind}
use Rattle.vtl_cell.specs.declared.operator.ScalarOp.{ScalarOp}
use Rattle.vtl_cell.proofs.Cells.{same_cell-is}
use Rattle.vtl_cell.proofs.Rows.{same_row-is, same_row-refl}
use Rattle.vtl_rows.specs.Tables.{cells_at, fits_kinds}
use Rattle.vtl_tree.specs.Clauses.{filter_of, kept}
use Rattle.vtl_tree.specs.CompExp.{CompExp}
use Rattle.vtl_tree.specs.DataSet.{Distinct, IsDataSet, is_point, look}
use Rattle.vtl_tree.specs.Environment.{DataSet}
use Rattle.vtl_tree.specs.Structure.{IsStructure, columns_of, key_width, names_of, same_name, same_role}
use Rattle.vtl_tree.specs.Value.{value}
use Rattle.vtl_tree.specs.declared.structure.Component.{Component}
use Rattle.vtl_tree.specs.declared.structure.Role.{Role}
use Rattle.vtl_tree.specs.declared.structure.Role.TheVariants as role
use Rattle.vtl_tree.specs.declared.structure.Structure.{Structure}
use Rattle.vtl_tree.specs.Trees.{ItemTree, MeasureTree, NodeTree, structure_of}
use Rattle.vtl_tree.specs.declared.clauses.SubItem.{SubItem}
use Rattle.vtl_tree.specs.Pairs.{contains}
use Rattle.vtl_tree.specs.Kinds.{exp_kind}
use Rattle.vtl_tree.specs.Columns.{column_behind, column_named, columns_named, identifiers_of, measures_of, others_of, place_of, places_in}
use Rattle.vtl_meaning.specs.Made.{AreAmong, AreFor, HasIdentifiers, IsAlternative, IsCalculated, IsChoice, IsColumnAt, IsFiltered, IsLeft, IsMeasured, IsPaired, IsRenamed, IsSub}
use Rattle.vtl_meaning.specs.Operators.{calculated_exp, calculated_exps, calculated_of, choice_of, for_measures, has_values, is_first_chosen, joined_point, left_of, measured_of, pair_of, sub_of, taken_at, taken_from, target_named, value_exp, with_measure, with_namesake}
use Rattle.vtl_meaning.specs.Points.{beside, cell_or_null, each_point, paired, partner, point_fault, point_of, with_points}
use Rattle.vtl_meaning.proofs.Drawn.{AreDrawn, AtMostOne, Keeps, drawn_all, drawn_apart, drawn_kept, map_drawn, mapped_kept, one_of_option, same_keys_back}
use Rattle.vtl_meaning.proofs.Places.{IsIdentifier, IsOther, are_identifiers, are_measures, are_others, cells_fit, columns_split, joined_point_is, key_cells, key_for, key_of_joined, key_of_point, key_within, place_here, place_later, point_append, point_of_same, same_name-is}
use Rattle.vtl_meaning.proofs.ValueKinds.{GivesOf, IsOf, cell_is_of, null_is_of, point_from, point_parts, value_is_of}

-- ---- outcomes
pub unless_ok : {A : Type 0} (f : Option Fault) (x out : A) → unless f x ≡ Ok out → (f ≡ None) × (x ≡ out)
unless_ok None x out e = (refl, cc)
unless_ok (Some f) x out e = cc

pub after_ok : {A B : Type 0} (m : Outcome A) (f : A → Outcome B) (out : B) → after m f ≡ Ok out → (x : A) × (m ≡ Ok x) × (f x ≡ Ok out)
after_ok (Ok x) f out e = (x, refl, e)
after_ok (Err g) f out e = cc

pub ok_is : {A : Type 0} (x y : A) → unless None x ≡ Ok y → x ≡ y
ok_is x y e = (unless_ok None x y e).1

-- ---- an expression for each column
given_or_null : (kind : Kind) (m : Outcome Cell) → GivesOf kind m → IsOf kind (cell_or_null m)
given_or_null kind (Ok v) h = h
given_or_null kind (Err f) h = null_is_of kind

pub values_fit : (p : Settings) (xs : List Component) (es : List CompExp) (ys : List Component) (r : Row) → AreFor p xs es ys → is_point xs r ≡ true → fits_kinds (map (λ y. y.kind) ys) (point_of p es r) ≡ true
values_fit p xs [] [] r i h = refl
values_fit p xs [] (y ∷ ys) r i h = absurd i
values_fit p xs (e ∷ es) [] r i h = absurd i
values_fit p xs (e ∷ es) (y ∷ ys) r i h =
    let one : IsOf y.kind (cell_or_null (value p e r)) = subst (λ z. IsOf z (cell_or_null (value p e r))) i.1 (given_or_null (exp_kind e) (value p e r) (value_is_of p xs e r i.0 h)) in
    rw one (values_fit p xs es ys r i.2 h)

pub for_back : (p : Settings) (xs : List Component) (es fs : List CompExp) (ys zs : List Component) → length es ≡ length ys → AreFor p xs (es ++ fs) (ys ++ zs) → AreFor p xs fs zs
for_back p xs [] fs [] zs e i = i
for_back p xs [] fs (y ∷ ys) zs e i = absurd (omega (arith, e))
for_back p xs (x ∷ es) fs [] zs e i = absurd (omega (arith, e))
for_back p xs (x ∷ es) fs (y ∷ ys) zs e i = for_back p xs es fs ys zs (omega (arith, e)) i.2

pub columns_point : (p : Settings) (xs ys : List Component) (r : Row) → point_of p (columns_named xs ys) r ≡ cells_at (places_in xs ys) r
columns_point p xs [] r = refl
columns_point p xs (y ∷ ys) r = ap (λ l. column_of (place_of y.name xs) r ∷ l) (columns_point p xs ys r)

-- the cells of the identifiers, and the values of the other columns
pub exps_split : (p : Settings) (a s : Structure) (rest : List CompExp) (r : Row) → IsStructure a → HasIdentifiers s (identifiers_of a) → key_width a ≤ length r → point_of p (columns_named (columns_of a) (identifiers_of s) ++ rest) r ≡ take (key_width a) r ++ point_of p rest r
exps_split p a s rest r w h l =
    map-append (λ e. cell_or_null (value p e r)) (columns_named (columns_of a) (identifiers_of s)) rest
    ∙ ap (λ k. k ++ point_of p rest r) (columns_point p (columns_of a) (identifiers_of s) r ∙ key_cells a s r w h l)

pub exps_keep : (p : Settings) (xs : List Component) (a s : Structure) (rest : List CompExp) (r : Row) → IsStructure a → HasIdentifiers s (identifiers_of a) → AreFor p xs (columns_named (columns_of a) (identifiers_of s) ++ rest) (columns_of s) → is_point xs r ≡ true → key_width a ≤ length r → is_point (identifiers_of a) (take (key_width a) r) ≡ true → Keeps s (key_width a) r (point_of p (columns_named (columns_of a) (identifiers_of s) ++ rest) r)
exps_keep p xs a s rest r w h i j l k =
    let own = key_for s a (take (key_width a) r) h k in
    let as_many : length (columns_named (columns_of a) (identifiers_of s)) ≡ length (identifiers_of s) = length-map (identifiers_of s) (λ y. column_named (columns_of a) y.name) in
    let typed = for_back p xs (columns_named (columns_of a) (identifiers_of s)) rest (identifiers_of s) (others_of s) as_many (subst (λ ys. AreFor p xs (columns_named (columns_of a) (identifiers_of s) ++ rest) ys) (columns_split s) i) in
    let both : Keeps s (key_width a) r (take (key_width a) r ++ point_of p rest r) = (joined_point_is s (others_of s) (take (key_width a) r) (point_of p rest r) (columns_split s) (are_others s) own (values_fit p xs rest (others_of s) r typed j), key_of_joined s (take (key_width a) r) (point_of p rest r) own) in
    subst (λ q. Keeps s (key_width a) r q) (sym (exps_split p a s rest r w h l)) both

-- on the points of one operand
each_kept : (p : Settings) (a s : Structure) (rest : List CompExp) (d out : List Row) → IsStructure s → HasIdentifiers s (identifiers_of a) → AreFor p (columns_of a) (columns_named (columns_of a) (identifiers_of s) ++ rest) (columns_of s) → IsDataSet a d → each_point p (columns_named (columns_of a) (identifiers_of s) ++ rest) d ≡ Ok out → IsDataSet s out
each_kept p a s rest d out w i j h e =
    let es = columns_named (columns_of a) (identifiers_of s) ++ rest in
    subst (λ l. IsDataSet s l) (unless_ok (faults_by (point_fault p es) d) (map (point_of p es) d) out e).1
    (mapped_kept s (key_width a) (point_of p es) d w
    (all_more (λ r. is_point (columns_of a) r ≡ true) (λ r. Keeps s (key_width a) r (point_of p es r)) (λ r k. exps_keep p (columns_of a) a s rest r h.well_formed i j k (key_within a r k) (key_of_point a r k)) d h.typed)
    h.distinct)

pub measured_kept : (p : Settings) (m : MeasureTree) (a : DataSet) (s : Structure) (out : List Row) → IsMeasured p m a.structure s → IsDataSet a.structure a.points → measured_of p m a s ≡ Ok out → IsDataSet s out
measured_kept p m a s out i h e = each_kept p a.structure s (for_measures (with_measure m (columns_of a.structure)) (measures_of a.structure) (measures_of s)) a.points out i.well_formed i.identifiers i.columns h e

-- ---- `calc`
calc_front : (items : List ItemTree) (xs ys : List Component) → AllByRecursion (λ n. target_named items n ≡ None) (names_of ys) → map (calculated_exp items xs) ys ≡ columns_named xs ys
calc_front items xs [] all = refl
calc_front items xs (y ∷ ys) all = ap (λ o. option_map_or (λ i. value_exp i.value) o (column_named xs y.name) ∷ map (calculated_exp items xs) ys) all.0 ∙ ap (λ l. column_named xs y.name ∷ l) (calc_front items xs ys all.1)

-- the identifiers stay as they are
pub calculated_split : (p : Settings) (items : List ItemTree) (a s : Structure) → IsCalculated p items a s → calculated_exps items a s ≡ columns_named (columns_of a) (identifiers_of s) ++ map (calculated_exp items (columns_of a)) (others_of s)
calculated_split p items a s i =
    let free : AllByRecursion (λ n. target_named items n ≡ None) (names_of (identifiers_of s)) = subst (λ ns. AllByRecursion (λ n. target_named items n ≡ None) ns) (sym i.identifiers.0) (AllByRecursion-map (λ x. x.name) (λ n. target_named items n ≡ None) (identifiers_of a) i.free) in
    ap (map (calculated_exp items (columns_of a))) (columns_split s)
    ∙ map-append (calculated_exp items (columns_of a)) (identifiers_of s) (others_of s)
    ∙ ap (λ l. l ++ map (calculated_exp items (columns_of a)) (others_of s)) (calc_front items (columns_of a) (identifiers_of s) free)

pub calculated_kept : (p : Settings) (items : List ItemTree) (a : DataSet) (s : Structure) (out : List Row) → IsCalculated p items a.structure s → IsDataSet a.structure a.points → calculated_of p items a s ≡ Ok out → IsDataSet s out
calculated_kept p items a s out i h e =
    let same = calculated_split p items a.structure s i in
    each_kept p a.structure s (map (calculated_exp items (columns_of a.structure)) (others_of s)) a.points out i.well_formed i.identifiers
    (subst (λ es. AreFor p (columns_of a.structure) es (columns_of s)) same i.columns) h (ap (λ es. each_point p es a.points) (sym same) ∙ e)

-- ---- two operands
-- what a look-up gives is one of the points
pub look_is : (P : Row → Type 0) (n : ℕ) (d : List Row) (k q : Row) → AllByRecursion P d → look n d k ≡ Some q → P q
look_is P n [] k q all e = cc
look_is P n (r ∷ d) k q all e = go (same_row (take n r) k) e (look_is P n d k q all.1)
  where
    go : (b : Bool) → cond b (Some r) (look n d k) ≡ Some q → (look n d k ≡ Some q → P q) → P q
    go true h ih = let same : r ≡ q = cc in subst P same all.0
    go false h ih = ih h

-- a pair of points of these structures, which begins with the first one
abbrev pub Pairs : Structure → Structure → Row → Row → Type 0
Pairs a b r x = (is_point (columns_of a ++ columns_of b) x ≡ true) × (key_width a ≤ length x) × (is_point (identifiers_of a) (take (key_width a) x) ≡ true) × (take (key_width a) x ≡ take (key_width a) r)

pub pairs_with : (a b : Structure) (r q : Row) → is_point (columns_of a) r ≡ true → is_point (columns_of b) q ≡ true → Pairs a b r (r ++ q)
pairs_with a b r q h i =
    let l = key_within a r h in
    let longer : key_width a ≤ length (r ++ q) = let both = length-append r q in omega (arith, l, both) in
    let front : take (key_width a) (r ++ q) ≡ take (key_width a) r = take-append-le (key_width a) r q l in
    (point_append (columns_of a) (columns_of b) r q h i, longer, subst (λ k. is_point (identifiers_of a) k ≡ true) (sym front) (key_of_point a r h), front)

pub all_paired : (a b : DataSet) → AllByRecursion (λ r. is_point (columns_of a.structure) r ≡ true) a.points → AllByRecursion (λ q. is_point (columns_of b.structure) q ≡ true) b.points → AreDrawn (Pairs a.structure b.structure) (beside a.structure b) a.points
all_paired a b h i =
    let ours = a.structure in
    let theirs = b.structure in
    all_more (λ r. is_point (columns_of ours) r ≡ true) (λ r. AtMostOne (Pairs ours theirs r) (beside ours b r))
    (λ r j. one_of_option (Pairs ours theirs r) (λ q. r ++ q) (partner ours b r)
    (λ q f. pairs_with ours theirs r q j (look_is (λ t. is_point (columns_of theirs) t ≡ true) (key_width theirs) b.points (cells_at (places_in (columns_of ours) (identifiers_of theirs)) r) q i f))) a.points h

pair_side : (p : Settings) (a b : DataSet) (s : Structure) (rest : List CompExp) (out : List Row) → IsStructure s → IsDataSet a.structure a.points → IsDataSet b.structure b.points → HasIdentifiers s (identifiers_of a.structure)
    → AreFor p (columns_of a.structure ++ columns_of b.structure) (columns_named (columns_of a.structure) (identifiers_of s) ++ rest) (columns_of s) → each_point p (columns_named (columns_of a.structure) (identifiers_of s) ++ rest) (paired a b) ≡ Ok out → IsDataSet s out
pair_side p a b s rest out w h k i j q =
    let ours = a.structure in
    let theirs = b.structure in
    let n = key_width ours in
    let es = columns_named (columns_of ours) (identifiers_of s) ++ rest in
    let all = all_paired a b h.typed k.typed in
    let P : Row → Type 0 = λ x. (is_point (columns_of ours ++ columns_of theirs) x ≡ true) × (n ≤ length x) × (is_point (identifiers_of ours) (take n x) ≡ true) in
    let points : AllByRecursion P (paired a b) = drawn_all (Pairs ours theirs) P (λ r x t. (t.0, t.1, t.2)) (beside ours b) a.points all in
    let apart : Distinct n (paired a b) = drawn_apart (Pairs ours theirs) (same_key n) (same_key n) (λ r t x z f g. same_keys_back n n r t x z f.3 g.3) (beside ours b) a.points all h.distinct in
    subst (λ l. IsDataSet s l) (unless_ok (faults_by (point_fault p es) (paired a b)) (map (point_of p es) (paired a b)) out q).1
    (mapped_kept s n (point_of p es) (paired a b) w
    (all_more P (λ r. Keeps s n r (point_of p es r)) (λ r t. exps_keep p (columns_of ours ++ columns_of theirs) ours s rest r h.well_formed i j t.0 t.1 t.2) (paired a b) points)
    apart)

pub pair_kept : (p : Settings) (o : ScalarOp) (a b : DataSet) (s : Structure) (out : List Row) → IsPaired p o a.structure b.structure s → IsDataSet a.structure a.points → IsDataSet b.structure b.points → pair_of p o a b s ≡ Ok out → IsDataSet s out
pair_kept p o a b s out i h k q = go (contains ours theirs) i.identifiers i.columns q
  where
    ours : Structure
    ours = a.structure

    theirs : Structure
    theirs = b.structure

    left : List CompExp
    left = for_measures (with_namesake o (column_named (columns_of ours)) (column_behind (length (columns_of ours)) (columns_of theirs))) (measures_of ours) (measures_of s)

    right : List CompExp
    right = for_measures (with_namesake o (column_behind (length (columns_of theirs)) (columns_of ours)) (column_named (columns_of theirs))) (measures_of ours) (measures_of s)

    exps : Bool → List CompExp
    exps t = cond t (columns_named (columns_of ours) (identifiers_of s) ++ left) (columns_named (columns_of theirs) (identifiers_of s) ++ right)

    go : (t : Bool) → HasIdentifiers s (identifiers_of (cond t ours theirs)) → AreFor p (cond t (columns_of ours ++ columns_of theirs) (columns_of theirs ++ columns_of ours)) (exps t) (columns_of s) → each_point p (exps t) (cond t (paired a b) (paired b a)) ≡ Ok out → IsDataSet s out
    go true f g u = pair_side p a b s left out i.well_formed h k f g u
    go false f g u = pair_side p b a s right out i.well_formed k h f g u

-- ---- `if`
pub joined_keeps : (t other s : Structure) (r q : Row) → IsStructure t → HasIdentifiers s (identifiers_of t) → columns_of s ≡ identifiers_of s ++ measures_of s → AreAmong (measures_of s) (columns_of other) → is_point (columns_of t) r ≡ true → is_point (columns_of other) q ≡ true → Keeps s (key_width t) r (joined_point t other s r q)
joined_keeps t other s r q w h n m i j =
    let k = take (key_width t) r in
    let vs = cells_at (places_in (columns_of other) (measures_of s)) q in
    let own = key_for s t k h (key_of_point t r i) in
    let both : Keeps s (key_width t) r (k ++ vs) = (joined_point_is s (measures_of s) k vs n (are_measures s) own (cells_fit (measures_of s) (columns_of other) q m j), key_of_joined s k vs own) in
    subst (λ l. Keeps s (key_width t) r (l ++ vs)) (sym (key_cells t s r w h (key_within t r i))) both

pub choice_kept : (t a b : DataSet) (s : Structure) → IsChoice t.structure a.structure b.structure s → IsDataSet t.structure t.points → IsDataSet a.structure a.points → IsDataSet b.structure b.points → IsDataSet s (choice_of t a b s)
choice_kept t a b s i g h k = drawn_kept s n (taken_at tested a b s) t.points i.well_formed (all_more (λ r. is_point (columns_of tested) r ≡ true) (λ r. AtMostOne (Keeps s n r) (taken_at tested a b s r)) each_taken t.points g.typed) g.distinct
  where
    tested : Structure
    tested = t.structure

    n : ℕ
    n = key_width tested

    taken : (other : DataSet) (r : Row) → IsAlternative tested other.structure s → IsDataSet other.structure other.points → is_point (columns_of tested) r ≡ true → AtMostOne (Keeps s n r) (taken_from tested other s r)
    taken other r f l j =
        one_of_option (Keeps s n r) (joined_point tested other.structure s r) (partner tested other r)
        (λ q found. joined_keeps tested other.structure s r q g.well_formed i.identifiers i.no_attributes f.measures j
        (look_is (λ z. is_point (columns_of other.structure) z ≡ true) (key_width other.structure) other.points (cells_at (places_in (columns_of tested) (identifiers_of other.structure)) r) q l.typed found))

    at : (r : Row) → is_point (columns_of tested) r ≡ true → (first : Bool) → AtMostOne (Keeps s n r) (cond first (taken_from tested a s r) (taken_from tested b s r))
    at r j true = taken a r i.first h j
    at r j false = taken b r i.second k j

    each_taken : (r : Row) → is_point (columns_of tested) r ≡ true → AtMostOne (Keeps s n r) (taken_at tested a b s r)
    each_taken r j = at r j (is_first_chosen tested r)

-- ---- `filter`
pub filtered_kept : (p : Settings) (e : CompExp) (a s : Structure) (d out : List Row) → IsFiltered p e a s → IsDataSet a d → filter_of p e d ≡ Ok out → IsDataSet s out
filtered_kept p e a s d out i h q =
    let test : Row → Bool = λ r. is_true (value p e r) in
    let own : IsDataSet a (kept p e d) = record {
      well_formed = h.well_formed;
      typed = AllByRecursion-filter (λ r. is_point (columns_of a) r ≡ true) test d h.typed;
      distinct = all_apart-filter (same_key (key_width a)) test d h.distinct;
    } in
    subst (λ x. IsDataSet x out) (sym i.same) (subst (λ l. IsDataSet a l) (unless_ok _ (kept p e d) out q).1 own)

-- ---- chosen columns
pub cells_append : (xs ys zs : List Component) (r : Row) → cells_at (places_in xs (ys ++ zs)) r ≡ cells_at (places_in xs ys) r ++ cells_at (places_in xs zs) r
cells_append xs [] zs r = refl
cells_append xs (y ∷ ys) zs r = ap (λ l. column_of (place_of y.name xs) r ∷ l) (cells_append xs ys zs r)

pub shown_split : (xs : List Component) (s : Structure) (r : Row) → cells_at (places_in xs (columns_of s)) r ≡ cells_at (places_in xs (identifiers_of s)) r ++ cells_at (places_in xs (others_of s)) r
shown_split xs s r = ap (λ ys. cells_at (places_in xs ys) r) (columns_split s) ∙ cells_append xs (identifiers_of s) (others_of s) r

others_fit : (s : Structure) (xs : List Component) (r : Row) → AreAmong (columns_of s) xs → is_point xs r ≡ true → fits_kinds (map (λ y. y.kind) (others_of s)) (cells_at (places_in xs (others_of s)) r) ≡ true
others_fit s xs r i h =
    let P : Component → Type 0 = λ y. IsColumnAt (place_of y.name xs) y.name y.kind xs in
    cells_fit (others_of s) xs r (all_back P (identifiers_of s) (others_of s) (subst (λ ys. AllByRecursion P ys) (columns_split s) i)) h

pub shown_keeps : (a s : Structure) (r : Row) → IsStructure a → IsLeft a s → is_point (columns_of a) r ≡ true → Keeps s (key_width a) r (cells_at (places_in (columns_of a) (columns_of s)) r)
shown_keeps a s r w i h =
    let k = take (key_width a) r in
    let vs = cells_at (places_in (columns_of a) (others_of s)) r in
    let own = key_for s a k i.identifiers (key_of_point a r h) in
    let both : Keeps s (key_width a) r (k ++ vs) = (joined_point_is s (others_of s) k vs (columns_split s) (are_others s) own (others_fit s (columns_of a) r i.columns h), key_of_joined s k vs own) in
    subst (λ l. Keeps s (key_width a) r l) (sym (shown_split (columns_of a) s r ∙ ap (λ l. l ++ vs) (key_cells a s r w i.identifiers (key_within a r h)))) both

pub left_kept : (a : DataSet) (s : Structure) → IsLeft a.structure s → IsDataSet a.structure a.points → IsDataSet s (left_of a s)
left_kept a s i h =
    let ours = a.structure in
    mapped_kept s (key_width ours) (cells_at (places_in (columns_of ours) (columns_of s))) a.points i.well_formed
    (all_more (λ r. is_point (columns_of ours) r ≡ true) (λ r. Keeps s (key_width ours) r (cells_at (places_in (columns_of ours) (columns_of s)) r)) (λ r k. shown_keeps ours s r h.well_formed i k) a.points h.typed)
    h.distinct

-- ---- `rename`
abbrev identifier_count : List Role → ℕ
identifier_count rs = length (filter (λ r. same_role r role.Identifier) rs)

count_split : (xs ys : List Component) → AllByRecursion IsIdentifier xs → AllByRecursion IsOther ys → identifier_count (map (λ x. x.role) (xs ++ ys)) ≡ length xs
count_split [] [] h i = refl
count_split [] (y ∷ ys) h i = rw i.0 (count_split [] ys h i.1)
count_split (x ∷ xs) ys h i = rw h.0 (ap suc (count_split xs ys h.1 i))

width_by_roles : (s : Structure) → identifier_count (map (λ x. x.role) (columns_of s)) ≡ key_width s
width_by_roles s = ap (λ xs. identifier_count (map (λ x. x.role) xs)) (columns_split s) ∙ count_split (identifiers_of s) (others_of s) (are_identifiers s) (are_others s)

pub key_widths : (a s : Structure) → IsRenamed a s → key_width s ≡ key_width a
key_widths a s i = sym (width_by_roles s) ∙ ap identifier_count i.roles ∙ width_by_roles a

pub renamed_kept : (a s : Structure) (d : List Row) → IsRenamed a s → IsDataSet a d → IsDataSet s d
renamed_kept a s d i h = record {
  well_formed = i.well_formed;
  typed = all_more (λ r. is_point (columns_of a) r ≡ true) (λ r. is_point (columns_of s) r ≡ true) (λ r k. point_of_same (columns_of a) (columns_of s) r (sym i.kinds) (sym i.roles) k) d h.typed;
  distinct = subst (λ n. Distinct n d) (sym (key_widths a s i)) h.distinct;
}

-- ---- `sub`
-- a column among the first ones
pub column_within : (place : ℕ) (name : List ℕ) (kind : Kind) (xs : List Component) → IsColumnAt place name kind xs → place < length xs
column_within place name kind [] i = absurd i
column_within zero name kind (x ∷ xs) i = omega arith
column_within (suc place) name kind (x ∷ xs) i = let h = column_within place name kind xs i in omega (arith, h)

pub place_front : (name : List ℕ) (xs ys : List Component) → place_of name xs < length xs → place_of name (xs ++ ys) ≡ place_of name xs
place_front name [] ys h = absurd (omega (arith, h))
place_front name (x ∷ xs) ys h = go (same_name x.name name) refl (place_front name xs ys)
  where
    go : (b : Bool) → same_name x.name name ≡ b → (place_of name xs < length xs → place_of name (xs ++ ys) ≡ place_of name xs) → place_of name (x ∷ xs ++ ys) ≡ place_of name (x ∷ xs)
    go true e ih = place_here name x (xs ++ ys) e ∙ sym (place_here name x xs e)
    go false e ih =
        let later = place_later name x xs e in
        place_later name x (xs ++ ys) e ∙ ap suc (ih (omega (arith, h, later))) ∙ sym later

pub column_front : (place : ℕ) (name : List ℕ) (kind : Kind) (xs ys : List Component) → IsColumnAt place name kind xs → IsColumnAt place name kind (xs ++ ys)
column_front place name kind [] ys i = absurd i
column_front zero name kind (x ∷ xs) ys i = i
column_front (suc place) name kind (x ∷ xs) ys i = column_front place name kind xs ys i

identifier_filled : (place : ℕ) (name : List ℕ) (kind : Kind) (xs ys : List Component) (r : Row) → AllByRecursion IsIdentifier xs → IsColumnAt place name kind xs → is_point (xs ++ ys) r ≡ true → is_null (column_of place r) ≡ false
identifier_filled place name kind [] ys r all i h = absurd i
identifier_filled zero name kind (x ∷ xs) ys [] all i h = cc
identifier_filled zero name kind (x ∷ xs) ys (v ∷ r) all i h = not-true (is_null v) (ap (λ b. not (b && is_null v)) (sym all.0) ∙ (point_parts x (xs ++ ys) v r h).1)
identifier_filled (suc place) name kind (x ∷ xs) ys [] all i h = cc
identifier_filled (suc place) name kind (x ∷ xs) ys (v ∷ r) all i h = identifier_filled place name kind xs ys r all.1 i (point_parts x (xs ++ ys) v r h).2

-- cells of some of the identifiers
pub some_identifiers : (ys xs others : List Component) (r : Row) → AllByRecursion IsIdentifier ys → AllByRecursion IsIdentifier xs → AreAmong ys xs → is_point (xs ++ others) r ≡ true → is_point ys (cells_at (places_in (xs ++ others) ys) r) ≡ true
some_identifiers [] xs others r a b i h = refl
some_identifiers (y ∷ ys) xs others r a b i h =
    let at = place_of y.name xs in
    let v = column_of at r in
    let typed : IsOf y.kind v = cell_is_of at y.name y.kind (xs ++ others) r (column_front at y.name y.kind xs others i.0) h in
    let filled : not (same_role y.role role.Identifier && is_null v) ≡ true = ap (λ b. not (b && is_null v)) a.0 ∙ ap not (identifier_filled at y.name y.kind xs others r b i.0 h) in
    let rest = cells_at (places_in (xs ++ others) ys) r in
    subst (λ n. is_point (y ∷ ys) (column_of n r ∷ rest) ≡ true) (sym (place_front y.name xs others (column_within at y.name y.kind xs i.0)))
    (point_from y ys v rest typed filled (some_identifiers ys xs others r a.1 b i.1 h))

-- the value of a column that two rows have alike
module _ (xs : List Component) (r t : Row) where
  abbrev pub Alike : List ℕ → Type 0
  Alike name = column_of (place_of name xs) r ≡ column_of (place_of name xs) t

  pub alike_cells : (ys : List Component) → AllByRecursion (λ y. Alike y.name) ys → cells_at (places_in xs ys) r ≡ cells_at (places_in xs ys) t
  alike_cells [] all = refl
  alike_cells (y ∷ ys) all = ap (λ v. v ∷ cells_at (places_in xs ys) r) all.0 ∙ ap (λ l. column_of (place_of y.name xs) t ∷ l) (alike_cells ys all.1)

  pub alike_by_columns : (ys : List Component) (name : List ℕ) → cells_at (places_in xs ys) r ≡ cells_at (places_in xs ys) t → list_any (λ y. same_name y.name name) ys ≡ true → Alike name
  alike_by_columns [] name e h = cc
  alike_by_columns (y ∷ ys) name e h = go (same_name y.name name) refl h (alike_by_columns ys name rest)
    where
      first : Alike y.name
      first = cc

      rest : cells_at (places_in xs ys) r ≡ cells_at (places_in xs ys) t
      rest = cc

      go : (b : Bool) → same_name y.name name ≡ b → (b || list_any (λ z. same_name z.name name) ys) ≡ true → (list_any (λ z. same_name z.name name) ys ≡ true → Alike name) → Alike name
      go true f g ih = subst Alike (same_name-is y.name name f) first
      go false f g ih = ih g

  pub alike_by_values : (items : List SubItem) (name : List ℕ) → list_all (λ i. same_cell (column_of (place_of i.id xs) r) i.value) items ≡ true → list_all (λ i. same_cell (column_of (place_of i.id xs) t) i.value) items ≡ true → list_any (λ i. same_name i.id name) items ≡ true → Alike name
  alike_by_values [] name e f h = cc
  alike_by_values (i ∷ items) name e f h = go (same_name i.id name) refl h (alike_by_values items name left.1 right.1)
    where
      left : (same_cell (column_of (place_of i.id xs) r) i.value ≡ true) × (list_all (λ j. same_cell (column_of (place_of j.id xs) r) j.value) items ≡ true)
      left = and_parts (same_cell (column_of (place_of i.id xs) r) i.value) (list_all (λ j. same_cell (column_of (place_of j.id xs) r) j.value) items) e

      right : (same_cell (column_of (place_of i.id xs) t) i.value ≡ true) × (list_all (λ j. same_cell (column_of (place_of j.id xs) t) j.value) items ≡ true)
      right = and_parts (same_cell (column_of (place_of i.id xs) t) i.value) (list_all (λ j. same_cell (column_of (place_of j.id xs) t) j.value) items) f

      go : (b : Bool) → same_name i.id name ≡ b → (b || list_any (λ j. same_name j.id name) items) ≡ true → (list_any (λ j. same_name j.id name) items ≡ true → Alike name) → Alike name
      go true g k ih = subst Alike (same_name-is i.id name g) (same_cell-is (column_of (place_of i.id xs) r) i.value left.0 ∙ sym (same_cell-is (column_of (place_of i.id xs) t) i.value right.0))
      go false g k ih = ih k

-- Columns with some of the identifiers: each identifier is one of them, or has one of these values. `sub` gives such columns, and so
-- do the columns of a result that has all identifiers of an operand in its own order, with no value at all.
pub record Tells (items : List SubItem) (a s : Structure) : Type 0 where
  pub well_formed : IsStructure s
  pub columns : AreAmong (columns_of s) (columns_of a)
  pub left : AreAmong (identifiers_of s) (identifiers_of a)
  pub identifiers : AllByRecursion (λ x. list_any (λ y. same_name y.name x.name) (identifiers_of s) || list_any (λ i. same_name i.id x.name) items ≡ true) (identifiers_of a)

pub sub_tells : (items : List SubItem) (a s : Structure) → IsSub items a s → Tells items a s
sub_tells items a s i = record { well_formed = i.well_formed; columns = i.columns; left = i.left; identifiers = i.identifiers }

-- points with these values that agree on the identifiers that are left agree on all of them
module _ (items : List SubItem) (a s : Structure) (w : IsStructure a) (i : Tells items a s) where
  pub sub_keys : (r : Row) → is_point (columns_of a) r ≡ true → is_point (identifiers_of s) (cells_at (places_in (columns_of a) (identifiers_of s)) r) ≡ true
  sub_keys r h =
      subst (λ xs. is_point (identifiers_of s) (cells_at (places_in xs (identifiers_of s)) r) ≡ true) (sym (columns_split a))
      (some_identifiers (identifiers_of s) (identifiers_of a) (others_of a) r (are_identifiers s) (are_identifiers a) i.left (subst (λ xs. is_point xs r ≡ true) (columns_split a) h))

  abbrev Taken : Row → Row → Type 0
  Taken r q = (is_point (columns_of a) r ≡ true) × (has_values a items r ≡ true) × (q ≡ cells_at (places_in (columns_of a) (columns_of s)) r)

  pub taken_key : (r q : Row) → Taken r q → take (key_width s) q ≡ cells_at (places_in (columns_of a) (identifiers_of s)) r
  taken_key r q h =
      ap (take (key_width s)) (h.2 ∙ shown_split (columns_of a) s r)
      ∙ key_of_joined s (cells_at (places_in (columns_of a) (identifiers_of s)) r) (cells_at (places_in (columns_of a) (others_of s)) r) (sub_keys r h.0)

  taken_is : (r q : Row) → Taken r q → is_point (columns_of s) q ≡ true
  taken_is r q h =
      subst (λ l. is_point (columns_of s) l ≡ true) (sym (h.2 ∙ shown_split (columns_of a) s r))
      (joined_point_is s (others_of s) (cells_at (places_in (columns_of a) (identifiers_of s)) r) (cells_at (places_in (columns_of a) (others_of s)) r) (columns_split s) (are_others s) (sub_keys r h.0) (others_fit s (columns_of a) r i.columns h.0))

  same_point : (r t : Row) → is_point (columns_of a) r ≡ true → is_point (columns_of a) t ≡ true → has_values a items r ≡ true → has_values a items t ≡ true → cells_at (places_in (columns_of a) (identifiers_of s)) r ≡ cells_at (places_in (columns_of a) (identifiers_of s)) t → take (key_width a) r ≡ take (key_width a) t
  same_point r t h k f g e =
      let each_one : (x : Component) → (list_any (λ y. same_name y.name x.name) (identifiers_of s) || list_any (λ y. same_name y.id x.name) items) ≡ true → Alike (columns_of a) r t x.name = λ x l.
      elim (or_cases (list_any (λ y. same_name y.name x.name) (identifiers_of s)) (list_any (λ y. same_name y.id x.name) items) l) [
        | inl m ↦ alike_by_columns (columns_of a) r t (identifiers_of s) x.name e m
        | inr m ↦ alike_by_values (columns_of a) r t items x.name f g m
      ] in
      let all = all_more (λ x. (list_any (λ y. same_name y.name x.name) (identifiers_of s) || list_any (λ y. same_name y.id x.name) items) ≡ true) (λ x. Alike (columns_of a) r t x.name) each_one (identifiers_of a) i.identifiers in
      sym (key_cells a a r w (refl, refl) (key_within a r h)) ∙ alike_cells (columns_of a) r t (identifiers_of a) all ∙ key_cells a a t w (refl, refl) (key_within a t k)

  taken_back : (r t q z : Row) → Taken r q → Taken t z → same_key (key_width s) q z ≡ true → same_key (key_width a) r t ≡ true
  taken_back r t q z h k e =
      let keys = sym (taken_key r q h) ∙ same_row-is (take (key_width s) q) (take (key_width s) z) e ∙ taken_key t z k in
      ap (λ l. same_row (take (key_width a) r) l) (sym (same_point r t h.0 k.0 h.1 k.1 keys)) ∙ same_row-refl (take (key_width a) r)

pub told_kept : (items : List SubItem) (a : DataSet) (s : Structure) → Tells items a.structure s → IsDataSet a.structure a.points → IsDataSet s (sub_of items a s)
told_kept items a s i h =
    let ours = a.structure in
    let w = h.well_formed in
    let f : Row → Row = cells_at (places_in (columns_of ours) (columns_of s)) in
    let rows = filter (has_values ours items) a.points in
    let typed = AllByRecursion-filter (λ r. is_point (columns_of ours) r ≡ true) (has_values ours items) a.points h.typed in
    let all : AreDrawn (Taken items ours s w i) (λ r. f r ∷ []) rows =
    all_both (λ r. is_point (columns_of ours) r ≡ true) (λ r. has_values ours items r ≡ true) (λ r. Taken items ours s w i r (f r)) (λ r k l. (k, l, refl)) rows typed (all_filtered (has_values ours items) a.points) in
    subst (λ l. IsDataSet s l) (sym (map_drawn f rows)) (record {
      well_formed = i.well_formed;
      typed = drawn_all (Taken items ours s w i) (λ q. is_point (columns_of s) q ≡ true) (taken_is items ours s w i) (λ r. f r ∷ []) rows all;
      distinct = drawn_apart (Taken items ours s w i) (same_key (key_width ours)) (same_key (key_width s)) (taken_back items ours s w i) (λ r. f r ∷ []) rows all (all_apart-filter (same_key (key_width ours)) (has_values ours items) a.points h.distinct);
    })

pub sub_kept : (items : List SubItem) (a : DataSet) (s : Structure) → IsSub items a.structure s → IsDataSet a.structure a.points → IsDataSet s (sub_of items a s)
sub_kept items a s i h = told_kept items a s (sub_tells items a.structure s i) h
