-- Unions and intersections of many are made one operand after the other.
use Rattle.std.specs.List.{AllByRecursion, filter, flat_map, fold, list_all, list_any}
use Rattle.std.proofs.Common.{◌≡◌, ℕ, Bool, true, false, not, cond, ◌&&◌, List, [], ◌∷◌, ◌++◌, map, length, take, refl, sym, ap, ◌∙◌, arith, None}
use Rattle.std.proofs.lemmas.Grind.{flat_map-append}
use Rattle.std.proofs.lemmas.List.{append-nil, map-append, take_all}
use Rattle.std.proofs.lemmas.List.Elements.{filter-append}
use Rattle.std.proofs.lemmas.List.Folds.{list_all-append}
use Rattle.vtl_lists.proofs.Alls.{all_filtered, all_more}
use Rattle.vtl_lists.proofs.Filters.{filter_all, filter_true}
use Rattle.vtl_cell.specs.Row.{Row, same_key, same_row}
use Rattle.vtl_cell.proofs.Rows.{same_row-is}
use Rattle.vtl_rows.specs.Tables.{cells_at}
use Rattle.vtl_tree.specs.DataSet.{IsDataSet, is_point}
use Rattle.vtl_tree.specs.Environment.{DataSet}
use Rattle.vtl_tree.specs.Structure.{IsStructure, columns_of, key_width, names_of, same_role}
use Rattle.vtl_tree.specs.declared.structure.Component.{Component}
use Rattle.vtl_tree.specs.declared.structure.Role.{Role}
use Rattle.vtl_tree.specs.declared.structure.Role.TheVariants as role
use Rattle.vtl_tree.specs.declared.structure.Structure.{Structure}
use Rattle.vtl_tuples.specs.Keys.{each_once}
use Rattle.vtl_tuples.proofs.Folds.{after_each}
use Rattle.vtl_tuples.proofs.Lists.{filter_each}
use Rattle.vtl_tuples.proofs.Onces.{among_once, once_already, once_apart, once_more}
use Rattle.vtl_tree.specs.Operands.{agreed, agreed_identifiers, is_coded_alike}
use Rattle.vtl_tree.specs.Columns.{identifiers_of, measures_of, places_in}
use Rattle.vtl_meaning.specs.Joined.{structures_of}
use Rattle.vtl_meaning.specs.Made.{IsCombined}
use Rattle.vtl_meaning.specs.Operators.{left_of}
use Rattle.vtl_meaning.specs.Points.{with_points}
use Rattle.vtl_meaning.specs.Sets.{all_left_of, has_point, intersected, intersection_of, union_of, united}
use Rattle.vtl_meaning.proofs.JoinParts.{AreSets}
use Rattle.vtl_meaning.proofs.OwnColumns.{columns_apart}
use Rattle.vtl_meaning.proofs.Places.{IsIdentifier, are_identifiers, first_cells, key_width_same, places_of_namesakes, point_length}
use Rattle.vtl_meaning.proofs.SetsKept.{intersection_kept, union_kept}

-- ---- on lists of points
same_alike : (n : ℕ) (i j k : Row) → same_key n k i ≡ true → same_key n k j ≡ same_key n i j
same_alike n i j k e = ap (λ l. same_row l (take n j)) (same_row-is (take n k) (take n i) e)

united_more : (n : ℕ) (ds : List (List Row)) (d : List Row) → united n (ds ++ d ∷ []) ≡ united n (united n ds ∷ d ∷ [])
united_more n ds d =
    let same = same_key n in
    let before = flat_map (λ e. e) ds in
    let once = each_once same before in
    let new : List Row → List Row = λ l. filter (λ r. not (list_any (λ q. same q r) l)) (each_once same d) in
    ap (each_once same) (flat_map-append (λ e. e) ds (d ∷ []) ∙ ap (λ l. before ++ l) (append-nil d))
    ∙ once_more same before d
    ∙ ap (λ l. once ++ l) (filter_each (λ r. not (list_any (λ q. same q r) before)) (λ r. not (list_any (λ q. same q r) once)) (λ r. ap not (sym (among_once same (same_alike n) before r))) (each_once same d))
    ∙ ap (λ l. l ++ new once) (sym (once_already same once (once_apart same before)))
    ∙ sym (once_more same once d)
    ∙ ap (λ l. each_once same (once ++ l)) (sym (append-nil d))

pub united_fold : (n : ℕ) (ds : List (List Row)) → united n ds ≡ fold (λ u d. united n (u ∷ d ∷ [])) [] ds
united_fold n ds = after_each (united n) (λ u d. united n (u ∷ d ∷ [])) (united_more n) [] ds

filter-filter : {X : Type 0} (p q : X → Bool) (xs : List X) → filter (λ x. p x && q x) xs ≡ filter q (filter p xs)
filter-filter p q [] = refl
filter-filter p q (x ∷ xs) = go (p x) (filter-filter p q xs)
  where
    go : (b : Bool) → filter (λ y. p y && q y) xs ≡ filter q (filter p xs) → cond (b && q x) (x ∷ filter (λ y. p y && q y) xs) (filter (λ y. p y && q y) xs) ≡ filter q (cond b (x ∷ filter p xs) (filter p xs))
    go true ih = ap (λ l. cond (q x) (x ∷ l) l) ih
    go false ih = ih

intersected_more : (n : ℕ) (d : List Row) (es : List (List Row)) (e : List Row) → intersected n d (es ++ e ∷ []) ≡ intersected n (intersected n d es) (e ∷ [])
intersected_more n d es e =
    let all : List (List Row) → Row → Bool = λ l r. list_all (λ z. has_point n z r) l in
    filter_each (all (es ++ e ∷ [])) (λ r. all es r && all (e ∷ []) r) (λ r. list_all-append (λ z. has_point n z r) es (e ∷ [])) d
    ∙ filter-filter (all es) (all (e ∷ [])) d

pub intersected_fold : (n : ℕ) (d : List Row) (es : List (List Row)) → intersected n d es ≡ fold (λ u e. intersected n u (e ∷ [])) d es
intersected_fold n d es =
    after_each (intersected n d) (λ u e. intersected n u (e ∷ [])) (intersected_more n d) [] es
    ∙ ap (λ u. fold (λ l e. intersected n l (e ∷ [])) u es) (filter_true d)

-- ---- the columns of a result
pub agreed_role : (others : List Structure) (x : Component) → (agreed others x).role ≡ x.role
agreed_role others x = go (list_all (λ s. is_coded_alike x s.components) others)
  where
    go : (b : Bool) → (cond b x (record x { codes = None })).role ≡ x.role
    go true = refl
    go false = refl

no_measures : (others : List Structure) (xs : List Component) → AllByRecursion IsIdentifier xs → filter (λ x. same_role x.role role.Measure) (map (agreed others) xs) ≡ []
no_measures others [] all = refl
no_measures others (x ∷ xs) all =
    let rest = filter (λ y. same_role y.role role.Measure) (map (agreed others) xs) in
    ap (λ r. cond (same_role r role.Measure) (agreed others x ∷ rest) rest) (agreed_role others x) ∙ skipped x.role all.0 rest ∙ no_measures others xs all.1
  where
    skipped : (r : Role) → same_role r role.Identifier ≡ true → (l : List Component) → cond (same_role r role.Measure) (agreed others x ∷ l) l ≡ l
    skipped role.Identifier e l = refl
    skipped role.Measure e l = cc
    skipped role.Attribute e l = refl

combined_measures : (a : Structure) (bs : List Structure) (s : Structure) → IsCombined a bs s → measures_of s ≡ measures_of a
combined_measures a bs s i =
    let p : Component → Bool = λ x. same_role x.role role.Measure in
    ap (filter p) i.shape ∙ filter-append p (agreed_identifiers bs a.components) (measures_of a)
    ∙ ap (λ l. l ++ filter p (measures_of a)) (no_measures bs (identifiers_of a) (are_identifiers a)) ∙ filter_all p (measures_of a) (all_filtered p a.components)

combined_names : (a : Structure) (bs : List Structure) (s : Structure) → IsCombined a bs s → names_of (columns_of s) ≡ names_of (identifiers_of a) ++ names_of (measures_of a)
combined_names a bs s i =
    ap names_of i.no_attributes ∙ map-append (λ x. x.name) (identifiers_of s) (measures_of s)
    ∙ ap (λ l. l ++ names_of (measures_of s)) i.identifiers.0 ∙ ap (λ l. names_of (identifiers_of a) ++ names_of l) (combined_measures a bs s i)

-- a point in its own columns
pub own_cells : (t : Structure) (r : Row) → IsStructure t → is_point (columns_of t) r ≡ true → cells_at (places_in (columns_of t) (columns_of t)) r ≡ r
own_cells t r w h =
    let len = point_length (columns_of t) r h in
    ap (λ xs. cells_at (places_in xs (columns_of t)) r) (sym (append-nil (columns_of t)))
    ∙ first_cells (columns_of t) [] r (columns_apart t w) (omega (arith, len))
    ∙ take_all (length (columns_of t)) r (omega (arith, len))

pub each_own : (f : Row → Row) (d : List Row) → AllByRecursion (λ r. f r ≡ r) d → map f d ≡ d
each_own f [] all = refl
each_own f (r ∷ d) all = ap (λ q. q ∷ map f d) all.0 ∙ ap (λ l. r ∷ l) (each_own f d all.1)

-- points in their own columns, which another structure names alike
own_shown : (t s : Structure) (d : List Row) → names_of (columns_of t) ≡ names_of (columns_of s) → IsDataSet t d → left_of (with_points t d) s ≡ d
own_shown t s d e h =
    let f = cells_at (places_in (columns_of t) (columns_of t)) in
    ap (λ ps. map (cells_at ps) d) (places_of_namesakes (columns_of t) (columns_of s) (columns_of t) (sym e))
    ∙ each_own f d (all_more (λ r. is_point (columns_of t) r ≡ true) (λ r. f r ≡ r) (λ r w. own_cells t r h.well_formed w) d h.typed)

shown_alike : (t s : Structure) (ds : List DataSet) → names_of (columns_of t) ≡ names_of (columns_of s) → all_left_of ds t ≡ all_left_of ds s
shown_alike t s [] e = refl
shown_alike t s (d ∷ ds) e =
    ap (λ ps. map (cells_at ps) d.points ∷ all_left_of ds t) (places_of_namesakes (columns_of d.structure) (columns_of t) (columns_of s) e) ∙ ap (λ l. left_of d s ∷ l) (shown_alike t s ds e)

-- ---- the operands before and one more
module _ (d : DataSet) (ds : List DataSet) (e : DataSet) (t s : Structure) (i : IsCombined d.structure (structures_of ds) t) (j : IsCombined d.structure (structures_of (ds ++ e ∷ [])) s) (h : AreSets (d ∷ ds)) where
  same_names : names_of (columns_of t) ≡ names_of (columns_of s)
  same_names = combined_names d.structure (structures_of ds) t i ∙ sym (combined_names d.structure (structures_of (ds ++ e ∷ [])) s j)

  same_width : key_width t ≡ key_width s
  same_width = key_width_same t d.structure i.identifiers ∙ sym (key_width_same s d.structure j.identifiers)

  pub union_more : union_of (d ∷ ds ++ e ∷ []) s ≡ union_of (with_points t (union_of (d ∷ ds) t) ∷ e ∷ []) s
  union_more =
      let n = key_width s in
      let before : left_of (with_points t (union_of (d ∷ ds) t)) s ≡ united n (all_left_of (d ∷ ds) s) =
      own_shown t s (union_of (d ∷ ds) t) same_names (union_kept (d ∷ ds) t i h) ∙ ap (λ m. united m (all_left_of (d ∷ ds) t)) same_width ∙ ap (united n) (shown_alike t s (d ∷ ds) same_names) in
      ap (united n) (map-append (λ z. left_of z s) (d ∷ ds) (e ∷ [])) ∙ united_more n (all_left_of (d ∷ ds) s) (left_of e s) ∙ ap (λ l. united n (l ∷ left_of e s ∷ [])) (sym before)

  pub intersection_more : intersection_of (d ∷ ds ++ e ∷ []) s ≡ intersection_of (with_points t (intersection_of (d ∷ ds) t) ∷ e ∷ []) s
  intersection_more =
      let n = key_width s in
      let before : left_of (with_points t (intersection_of (d ∷ ds) t)) s ≡ intersected n (left_of d s) (all_left_of ds s) =
      own_shown t s (intersection_of (d ∷ ds) t) same_names (intersection_kept (d ∷ ds) t i h) ∙ ap (λ m. intersected m (left_of d t) (all_left_of ds t)) same_width
      ∙ ap (λ ps. intersected n (map (cells_at ps) d.points) (all_left_of ds t)) (places_of_namesakes (columns_of d.structure) (columns_of t) (columns_of s) same_names)
      ∙ ap (intersected n (left_of d s)) (shown_alike t s ds same_names) in
      ap (intersected n (left_of d s)) (map-append (λ z. left_of z s) ds (e ∷ [])) ∙ intersected_more n (left_of d s) (all_left_of ds s) (left_of e s) ∙ ap (λ l. intersected n l (left_of e s ∷ [])) (sym before)
