-- `pivot` and `unpivot` give data sets.
use Rattle.std.specs.List.{AllByRecursion, cons_option, filter, filter_map, find, flat_map}
use Rattle.std.specs.Option.{option_map_or, option_to_list}
use Rattle.std.proofs.Common.{◌≡◌, ℕ, arith, length, length-append, append_assoc, Bool, true, false, not, cond, ◌&&◌, List, [], ◌∷◌, ◌++◌, map, take, Option, Some, None, refl, sym, ap, ◌∙◌, subst, true≢false}
use Rattle.vtl_lists.specs.Apart.{all_apart}
use Rattle.vtl_cell.specs.Kinds.{is_null}
use Rattle.vtl_cell.specs.Row.{Row, same_key, same_row}
use Rattle.vtl_cell.specs.declared.cell.Cell.{Cell}
use Rattle.vtl_cell.specs.declared.cell.Cell.TheVariants as c
use Rattle.vtl_lists.proofs.Aparts.{all_apart-filter, apart_parts}
use Rattle.vtl_cell.proofs.Rows.{same_row-is, same_row-refl}
use Rattle.vtl_lists.proofs.Sorts.{AllByRecursion-filter, AllByRecursion-map}
use Rattle.vtl_lists.proofs.Alls.{all_append, all_both, all_each, all_flat_map, all_more}
use Rattle.vtl_rows.specs.Tables.{fits_kinds}
use Rattle.vtl_tree.specs.DataSet.{IsDataSet, is_point}
use Rattle.vtl_tree.specs.Environment.{DataSet}
use Rattle.vtl_tree.specs.Structure.{IsStructure, columns_of, key_width, same_name, same_role}
use Rattle.vtl_tree.specs.declared.structure.Component.{Component}
use Rattle.vtl_tree.specs.declared.structure.Role.TheVariants as role
use Rattle.vtl_tree.specs.declared.structure.Structure.{Structure}
use Rattle.vtl_tuples.specs.Keys.{each_once}
use Rattle.vtl_tuples.proofs.Onces.{once_apart, once_hold}
use Rattle.vtl_tree.specs.Choices.{is_chosen, is_identifier}
use Rattle.vtl_tree.specs.ClauseShapes.{first_kind, names_column}
use Rattle.vtl_tree.specs.Names.{is_among}
use Rattle.vtl_tree.specs.declared.choices.Choice.TheVariants as choice
use Rattle.vtl_meaning.specs.Agreement.{key_of, values_in}
use Rattle.vtl_tree.specs.Columns.{identifiers_of, kind_named, measures_of, others_of, place_of}
use Rattle.vtl_tree.proofs.NotNullLemmas.{same_itself}
use Rattle.vtl_meaning.specs.LookUps.{value_named}
use Rattle.vtl_meaning.specs.Made.{AreAmong, IsColumnAt, IsPivoted, IsUnpivoted}
use Rattle.vtl_meaning.specs.Turned.{coded_value, codes_of, is_coded, named_point, other_identifiers, pivot_of, pivoted_point, unpivot_of, unpivoted_points}
use Rattle.vtl_meaning.proofs.Drawn.{drawn_all, drawn_apart, map_drawn}
use Rattle.vtl_meaning.proofs.JoinKept.{apart_append, apart_map, key_is}
use Rattle.vtl_meaning.proofs.JoinParts.{found_is}
use Rattle.vtl_meaning.proofs.OwnColumns.{own_identifiers, own_measures}
use Rattle.vtl_meaning.proofs.Places.{IsIdentifier, are_identifiers, are_others, columns_split, joined_point_is, key_of_joined, key_of_point, point_append, point_of_identifiers}
use Rattle.vtl_meaning.proofs.ValueKinds.{IsOf, cell_is_of, null_is_of}

-- ---- `pivot`
-- the other identifiers are some of the identifiers
pub others_are : (id : List ℕ) (xs : List Component) → filter (is_chosen choice.Except (id ∷ [])) xs ≡ filter (λ x. not (is_among x.name (id ∷ []))) (filter is_identifier xs)
others_are id [] = refl
others_are id (x ∷ xs) = go (is_identifier x) (not (is_among x.name (id ∷ []))) (others_are id xs)
  where
    left : List Component → List Component
    left ys = filter (λ y. not (is_among y.name (id ∷ []))) ys

    go : (a b : Bool) → filter (is_chosen choice.Except (id ∷ [])) xs ≡ left (filter is_identifier xs) → cond (a && not (is_among x.name (id ∷ []))) (x ∷ filter (is_chosen choice.Except (id ∷ [])) xs) (filter (is_chosen choice.Except (id ∷ [])) xs) ≡ left (cond a (x ∷ filter is_identifier xs) (filter is_identifier xs))
    go true b ih = ap (λ l. cond (not (is_among x.name (id ∷ []))) (x ∷ l) l) ih
    go false b ih = ih

pub others_among : (id : List ℕ) (a : Structure) → IsStructure a → AreAmong (other_identifiers id a) (identifiers_of a)
others_among id a w =
    let P : Component → Type 0 = λ y. IsColumnAt (place_of y.name (identifiers_of a)) y.name y.kind (identifiers_of a) in
    subst (AllByRecursion P) (sym (others_are id a.components)) (AllByRecursion-filter P (λ x. not (is_among x.name (id ∷ []))) (identifiers_of a) (own_identifiers a w))

pub others_identify : (id : List ℕ) (a : Structure) → AllByRecursion IsIdentifier (other_identifiers id a)
others_identify id a = subst (AllByRecursion IsIdentifier) (sym (others_are id a.components)) (AllByRecursion-filter IsIdentifier (λ x. not (is_among x.name (id ∷ []))) (identifiers_of a) (are_identifiers a))

pub other_key_is : (id : List ℕ) (a : Structure) (r : Row) → IsStructure a → is_point (columns_of a) r ≡ true → is_point (other_identifiers id a) (values_in a (other_identifiers id a) r) ≡ true
other_key_is id a r w h = key_is (other_identifiers id a) a r (others_identify id a) (others_among id a w) h

module _ (id m : List ℕ) (d : DataSet) (s : Structure) (i : IsPivoted id m d.structure s) (h : IsDataSet d.structure d.points) where
  abbrev a : Structure
  a = d.structure

  value_fits : (o : Option Row) → ((r : Row) → o ≡ Some r → is_point (columns_of a) r ≡ true) → IsOf (kind_named m (columns_of a)) (option_map_or (λ r. value_named (columns_of a) r m) o c.Null)
  value_fits None f = null_is_of (kind_named m (columns_of a))
  value_fits (Some r) f = cell_is_of (place_of m (columns_of a)) m (kind_named m (columns_of a)) (columns_of a) r i.measured (f r refl)

  values_fit : (k : Row) (codes : List (List ℕ)) → fits_kinds (map (λ code. kind_named m (columns_of a)) codes) (map (coded_value d id m k) codes) ≡ true
  values_fit k [] = refl
  values_fit k (code ∷ codes) =
      let one : IsOf (kind_named m (columns_of a)) (coded_value d id m k code) = value_fits (find (is_coded a id k code) d.points) (λ r e. found_is (λ q. is_point (columns_of a) q ≡ true) (is_coded a id k code) d.points r h.typed e) in
      ap (λ b. b && fits_kinds (map (λ z. kind_named m (columns_of a)) codes) (map (coded_value d id m k) codes)) one ∙ values_fit k codes

  -- a point of the result with the key that it is made for
  abbrev pub Pivots : Row → Row → Type 0
  Pivots k q = (is_point (columns_of s) q ≡ true) × (take (key_width s) q ≡ k)

  pub pivoted_is : (k : Row) → is_point (other_identifiers id a) k ≡ true → Pivots k (pivoted_point d id m k)
  pivoted_is k j =
      let vs = map (coded_value d id m k) (codes_of id a) in
      let own = point_of_identifiers (other_identifiers id a) (identifiers_of s) k (others_identify id a) (are_identifiers s) (sym i.identifiers.1) j in
      let fits : fits_kinds (map (λ x. x.kind) (others_of s)) vs ≡ true = ap (λ ks. fits_kinds ks vs) i.measures ∙ values_fit k (codes_of id a) in
      (joined_point_is s (others_of s) k vs (columns_split s) (are_others s) own fits, key_of_joined s k vs own)

  abbrev pub pivot_keys : List Row
  pivot_keys = each_once same_row (map (values_in a (other_identifiers id a)) d.points)

  pub keys_typed : AllByRecursion (λ k. is_point (other_identifiers id a) k ≡ true) pivot_keys
  keys_typed =
      let P : Row → Type 0 = λ k. is_point (other_identifiers id a) k ≡ true in
      let f = values_in a (other_identifiers id a) in
      once_hold P same_row (map f d.points) (AllByRecursion-map f P d.points (all_more (λ r. is_point (columns_of a) r ≡ true) (λ r. P (f r)) (λ r t. other_key_is id a r h.well_formed t) d.points h.typed))

  pub pivot_kept : IsDataSet s (pivot_of d id m)
  pivot_kept =
      let f = pivoted_point d id m in
      let all = all_more (λ k. is_point (other_identifiers id a) k ≡ true) (λ k. Pivots k (f k)) pivoted_is pivot_keys keys_typed in
      let back : (k j q z : Row) → Pivots k q → Pivots j z → same_key (key_width s) q z ≡ true → same_row k j ≡ true = λ k j q z t u e. ap (λ x. same_row x j) (sym t.1) ∙ ap (λ x. same_row (take (key_width s) q) x) (sym u.1) ∙ e in
      subst (λ l. IsDataSet s l) (sym (map_drawn f pivot_keys)) (record {
        well_formed = i.well_formed;
        typed = drawn_all Pivots (λ q. is_point (columns_of s) q ≡ true) (λ k q t. t.0) (λ k. f k ∷ []) pivot_keys all;
        distinct = drawn_apart Pivots same_row (same_key (key_width s)) back (λ k. f k ∷ []) pivot_keys all (once_apart same_row (map (values_in a (other_identifiers id a)) d.points));
      })

-- ---- items that are drawn from items, many from all_each
module _ {X Y : Type 0} (R : X → Y → Type 0) (same : X → X → Bool) (drawn_same : Y → Y → Bool) (back : (x t : X) (q z : Y) → R x q → R t z → drawn_same q z ≡ true → same x t ≡ true) (g : X → List Y) where
  all_differ : (x : X) (q : Y) (xs : List X) → R x q → AllByRecursion (λ t. same x t ≡ false) xs → AllByRecursion (λ t. AllByRecursion (R t) (g t)) xs → AllByRecursion (λ z. drawn_same q z ≡ false) (flat_map g xs)
  all_differ x q [] h apart all = tt
  all_differ x q (t ∷ xs) h apart all =
      all_append (λ z. drawn_same q z ≡ false) (g t) (flat_map g xs) (all_more (R t) (λ z. drawn_same q z ≡ false) (λ z i. one z i (drawn_same q z) refl) (g t) all.0) (all_differ x q xs h apart.1 all.1)
    where
      one : (z : Y) → R t z → (b : Bool) → drawn_same q z ≡ b → drawn_same q z ≡ false
      one z i true e = absurd (true≢false (sym (back x t q z h i e) ∙ apart.0))
      one z i false e = e

  pub each_apart : (xs : List X) → AllByRecursion (λ x. AllByRecursion (R x) (g x)) xs → AllByRecursion (λ x. all_apart drawn_same (g x) ≡ true) xs → all_apart same xs ≡ true → all_apart drawn_same (flat_map g xs) ≡ true
  each_apart [] all own e = refl
  each_apart (x ∷ xs) all own e =
      let parts = apart_parts same x xs e in
      apart_append drawn_same (g x) (flat_map g xs) own.0 (each_apart xs all.1 own.1 parts.1)
      (all_more (R x) (λ q. AllByRecursion (λ z. drawn_same q z ≡ false) (flat_map g xs)) (λ q h. all_differ x q xs h parts.0 all.1) (g x) all.0)

-- ---- `unpivot`
pub filter_map_drawn : {X Y : Type 0} (h : X → Option Y) (xs : List X) → filter_map h xs ≡ flat_map (λ x. option_to_list (h x)) xs
filter_map_drawn h [] = refl
filter_map_drawn {Y = Y} h (x ∷ xs) = go (h x) ∙ ap (λ l. option_to_list (h x) ++ l) (filter_map_drawn h xs)
  where
    go : (o : Option Y) → cons_option o (filter_map h xs) ≡ option_to_list o ++ filter_map h xs
    go None = refl
    go (Some y) = refl

-- one cell behind others
pub front_same : (k j : Row) (x y : Cell) → k ++ x ∷ [] ≡ j ++ y ∷ [] → (k ≡ j) × (x ≡ y)
front_same [] [] x y e = let same : x ≡ y = cc in (refl, same)
front_same [] (v ∷ j) x y e = let l = ap length e in let m = length-append j (y ∷ []) in absurd (omega (arith, l, m))
front_same (u ∷ k) [] x y e = let l = ap length e in let m = length-append k (x ∷ []) in absurd (omega (arith, l, m))
front_same (u ∷ k) (v ∷ j) x y e =
    let head : u ≡ v = cc in
    let tail : k ++ x ∷ [] ≡ j ++ y ∷ [] = cc in
    let ih = front_same k j x y tail in
    (ap (λ z. z ∷ k) head ∙ ap (λ l. v ∷ l) ih.0, ih.1)

-- the point of a measure of this name
module _ (id m : List ℕ) (a s : Structure) (i : IsUnpivoted id m a s) (w : IsStructure a) where
  abbrev pub named_key : Row → List ℕ → Row
  named_key r name = take (key_width a) r ++ c.Text name ∷ []

  abbrev pub IsNamed : Row → List ℕ → Row → Type 0
  IsNamed r name q = (is_point (columns_of s) q ≡ true) × (take (key_width s) q ≡ named_key r name)

  pub named_is : (r : Row) (name : List ℕ) (v : Cell) → is_point (columns_of a) r ≡ true → IsOf (first_kind (measures_of a)) v → IsNamed r name (key_of a r ++ c.Text name ∷ v ∷ [])
  named_is r name v h t =
      let key = named_key r name in
      let ids = identifiers_of a ++ names_column id (measures_of a) ∷ [] in
      let whole : key_of a r ++ c.Text name ∷ v ∷ [] ≡ key ++ v ∷ [] = sym (append_assoc (key_of a r) (c.Text name ∷ []) (v ∷ [])) in
      let identify : AllByRecursion IsIdentifier ids = all_append IsIdentifier (identifiers_of a) (names_column id (measures_of a) ∷ []) (are_identifiers a) (refl, tt) in
      let own = point_of_identifiers ids (identifiers_of s) key identify (are_identifiers s) (sym i.identifiers.1) (point_append (identifiers_of a) (names_column id (measures_of a) ∷ []) (key_of a r) (c.Text name ∷ []) (key_of_point a r h) refl) in
      let fits : fits_kinds (map (λ x. x.kind) (others_of s)) (v ∷ []) ≡ true = ap (λ ks. fits_kinds ks (v ∷ [])) i.measured ∙ ap (λ b. b && true) t in
      subst (IsNamed r name) (sym whole) (joined_point_is s (others_of s) key (v ∷ []) (columns_split s) (are_others s) own fits, key_of_joined s key (v ∷ []) own)

  abbrev pub value_here : Row → Component → Cell
  value_here r x = value_named (columns_of a) r x.name

  abbrev pub points_here : Row → Component → List Row
  points_here r x = option_to_list (named_point a r x.name (value_here r x))

  here_are : (r : Row) (x : Component) → is_point (columns_of a) r ≡ true → IsColumnAt (place_of x.name (columns_of a)) x.name x.kind (columns_of a) → x.kind ≡ first_kind (measures_of a) → AllByRecursion (IsNamed r x.name) (points_here r x)
  here_are r x h at e = go (is_null (value_here r x))
    where
      go : (b : Bool) → AllByRecursion (IsNamed r x.name) (option_to_list (cond b None (Some (key_of a r ++ c.Text x.name ∷ value_here r x ∷ []))))
      go true = tt
      go false = (named_is r x.name (value_here r x) h (subst (λ z. IsOf z (value_here r x)) e (cell_is_of (place_of x.name (columns_of a)) x.name x.kind (columns_of a) r at h)), tt)

  pub all_here : (r : Row) → is_point (columns_of a) r ≡ true → AllByRecursion (λ x. AllByRecursion (IsNamed r x.name) (points_here r x)) (measures_of a)
  all_here r h =
      all_both (λ x. IsColumnAt (place_of x.name (columns_of a)) x.name x.kind (columns_of a)) (λ x. x.kind ≡ first_kind (measures_of a)) (λ x. AllByRecursion (IsNamed r x.name) (points_here r x))
      (λ x at e. here_are r x h at e) (measures_of a) (own_measures a w) i.alike

  pub here_is : (r : Row) → unpivoted_points a r ≡ flat_map (points_here r) (measures_of a)
  here_is r = filter_map_drawn (λ x. named_point a r x.name (value_here r x)) (measures_of a)

  -- a point of a row is one with its key
  abbrev pub IsDrawn : Row → Row → Type 0
  IsDrawn r q = (name : List ℕ) × IsNamed r name q

  pub drawn_here : (r : Row) → is_point (columns_of a) r ≡ true → AllByRecursion (IsDrawn r) (unpivoted_points a r)
  drawn_here r h =
      subst (AllByRecursion (IsDrawn r)) (sym (here_is r))
      (all_flat_map (IsDrawn r) (points_here r) (measures_of a) (all_more (λ x. AllByRecursion (IsNamed r x.name) (points_here r x)) (λ x. AllByRecursion (IsDrawn r) (points_here r x)) (λ x all. all_more (IsNamed r x.name) (IsDrawn r) (λ q t. (x.name, t)) (points_here r x) all) (measures_of a) (all_here r h)))

  one_apart : (r : Row) (x : Component) → all_apart (same_key (key_width s)) (points_here r x) ≡ true
  one_apart r x = go (named_point a r x.name (value_here r x))
    where
      go : (o : Option Row) → all_apart (same_key (key_width s)) (option_to_list o) ≡ true
      go None = refl
      go (Some q) = refl

  names_back : (r t : Row) (n j : List ℕ) (q z : Row) → IsNamed r n q → IsNamed t j z → same_key (key_width s) q z ≡ true → (take (key_width a) r ≡ take (key_width a) t) × (c.Text n ≡ c.Text j)
  names_back r t n j q z h k e = front_same (take (key_width a) r) (take (key_width a) t) (c.Text n) (c.Text j) (sym h.1 ∙ same_row-is (take (key_width s) q) (take (key_width s) z) e ∙ k.1)

  here_apart : (r : Row) → is_point (columns_of a) r ≡ true → all_apart (same_key (key_width s)) (unpivoted_points a r) ≡ true
  here_apart r h =
      ap (all_apart (same_key (key_width s))) (here_is r)
      ∙ each_apart (λ x q. IsNamed r x.name q) (λ x y. same_name x.name y.name) (same_key (key_width s)) same_names (points_here r) (measures_of a) (all_here r h) (all_each (λ x. all_apart (same_key (key_width s)) (points_here r x) ≡ true) (one_apart r) (measures_of a))
      (all_apart-filter (λ x y. same_name x.name y.name) (λ x. same_role x.role role.Measure) a.components (sym (apart_map (λ x. x.name) same_name a.components) ∙ w.distinct))
    where
      same_names : (x y : Component) (q z : Row) → IsNamed r x.name q → IsNamed r y.name z → same_key (key_width s) q z ≡ true → same_name x.name y.name ≡ true
      same_names x y q z f g e =
          let texts = (names_back r r x.name y.name q z f g e).1 in
          let same : x.name ≡ y.name = cc in
          ap (same_name x.name) (sym same) ∙ same_itself x.name

  pub unpivoted_kept : (d : List Row) → IsDataSet a d → IsDataSet s (flat_map (unpivoted_points a) d)
  unpivoted_kept d h =
      let P : Row → Type 0 = λ r. is_point (columns_of a) r ≡ true in
      let all = all_more P (λ r. AllByRecursion (IsDrawn r) (unpivoted_points a r)) drawn_here d h.typed in record {
        well_formed = i.well_formed;
        typed = all_flat_map (λ q. is_point (columns_of s) q ≡ true) (unpivoted_points a) d (all_more (λ r. AllByRecursion (IsDrawn r) (unpivoted_points a r)) (λ r. AllByRecursion (λ q. is_point (columns_of s) q ≡ true) (unpivoted_points a r)) (λ r l. all_more (IsDrawn r) (λ q. is_point (columns_of s) q ≡ true) (λ q t. t.1.0) (unpivoted_points a r) l) d all);
        distinct =
            each_apart IsDrawn (same_key (key_width a)) (same_key (key_width s))
            (λ r t q z f g e. ap (same_row (take (key_width a) r)) (sym (names_back r t f.0 g.0 q z f.1 g.1 e).0) ∙ same_row-refl (take (key_width a) r))
            (unpivoted_points a) d all (all_more P (λ r. all_apart (same_key (key_width s)) (unpivoted_points a r) ≡ true) here_apart d h.typed) h.distinct;
      }

pub unpivot_kept : (id m : List ℕ) (d : DataSet) (s : Structure) → IsUnpivoted id m d.structure s → IsDataSet d.structure d.points → IsDataSet s (unpivot_of d)
unpivot_kept id m d s i h = unpivoted_kept id m d.structure s i h.well_formed d.points h
