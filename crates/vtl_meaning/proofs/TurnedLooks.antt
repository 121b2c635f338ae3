-- `pivot` and `unpivot` by look-up.
use Rattle.std.specs.List.{AllByRecursion, find, flat_map, list_any}
use Rattle.std.specs.Option.{option_and_then, option_map_or, option_or, option_to_list}
use Rattle.std.proofs.Common.{◌≡◌, ℕ, Bool, true, false, cond, ◌&&◌, ◌||◌, List, [], ◌∷◌, map, length, take, Some, None, refl, sym, ap, ◌∙◌, subst, true≢false, ◌++◌, Option, ◌<◌}
use Rattle.std.proofs.lemmas.Bool.{and_parts}
use Rattle.std.proofs.lemmas.List.{length-take-le}
use Rattle.vtl_lists.specs.Apart.{all_apart}
use Rattle.vtl_cell.specs.Order.{same_cell}
use Rattle.vtl_cell.specs.Row.{Row, same_key, same_row}
use Rattle.vtl_cell.specs.declared.cell.Cell.TheVariants as c
use Rattle.vtl_lists.proofs.Aparts.{all_apart-filter, apart_parts}
use Rattle.vtl_lists.proofs.Alls.{all_both, all_flat_map, all_more}
use Rattle.vtl_lists.proofs.Filters.{list_any-map}
use Rattle.vtl_lists.proofs.Tests.{or_none, same_tests}
use Rattle.vtl_cell.proofs.Cells.{same_cell-is, same_cell-refl}
use Rattle.vtl_cell.proofs.Rows.{same_row-is, same_row-refl}
use Rattle.vtl_tree.specs.DataSet.{Distinct, IsDataSet, is_point, look}
use Rattle.vtl_tree.specs.Environment.{DataSet}
use Rattle.vtl_tree.specs.Structure.{IsStructure, columns_of, key_width, names_of, same_name, same_role}
use Rattle.vtl_tree.specs.declared.structure.Component.{Component}
use Rattle.vtl_tree.specs.declared.structure.Role.TheVariants as role
use Rattle.vtl_tree.specs.declared.structure.Structure.{Structure}
use Rattle.vtl_tuples.specs.Keys.{each_once}
use Rattle.vtl_tuples.proofs.Onces.{alike, among_once}
use Rattle.vtl_tree.specs.Names.{is_among}
use Rattle.vtl_meaning.specs.Agreement.{values_in}
use Rattle.vtl_tree.specs.Columns.{identifiers_of, measures_of, others_of, place_of}
use Rattle.vtl_tree.proofs.NotNullLemmas.{same_itself}
use Rattle.vtl_meaning.specs.LookUps.{value_named, values_named}
use Rattle.vtl_meaning.specs.Made.{IsColumnAt, IsPivoted, IsUnpivoted}
use Rattle.vtl_meaning.specs.Turned.{coded_value, is_coded, named_point, other_identifiers, pivot_of, pivoted_point, unpivoted_points}
use Rattle.vtl_meaning.proofs.JoinKept.{apart_map}
use Rattle.vtl_meaning.proofs.JoinOrders.{rows_apart}
use Rattle.vtl_meaning.proofs.Kept.{alike_cells, look_is}
use Rattle.vtl_meaning.proofs.LookUps.{among_within, named_front, parts_named, whole_key}
use Rattle.vtl_meaning.proofs.Looks.{behind_none, found_then, look_absent, look_key}
use Rattle.vtl_meaning.proofs.OwnColumns.{column_any, own_among}
use Rattle.vtl_meaning.proofs.Places.{columns_split, key_within, same_name-is, same_name-sym}
use Rattle.vtl_meaning.proofs.SetsLooks.{look-append}
use Rattle.vtl_meaning.proofs.TurnedKept.{IsDrawn, IsNamed, all_here, drawn_here, front_same, here_is, keys_typed, others_among, others_are, pivoted_is, points_here}
use Rattle.vtl_meaning.proofs.TurnedOrders.{alike_others}

-- ---- `pivot`: at each key that there is the point that is made for it
look_made : (m : ℕ) (f : Row → Row) (ks : List Row) (k : Row) → AllByRecursion (λ j. take m (f j) ≡ j) ks → look m (map f ks) k ≡ cond (list_any (λ j. same_row j k) ks) (Some (f k)) None
look_made m f [] k all = refl
look_made m f (j ∷ ks) k all = ap (λ z. cond (same_row z k) (Some (f j)) (look m (map f ks) k)) all.0 ∙ go (same_row j k) refl (look_made m f ks k all.1)
  where
    go : (b : Bool) → same_row j k ≡ b → look m (map f ks) k ≡ cond (list_any (λ i. same_row i k) ks) (Some (f k)) None → cond b (Some (f j)) (look m (map f ks) k) ≡ cond (b || list_any (λ i. same_row i k) ks) (Some (f k)) None
    go true e ih = ap (λ z. Some (f z)) (same_row-is j k e)
    go false e ih = ih

found_where : (p : Row → Bool) (n : ℕ) (d : List Row) (j : Row) → AllByRecursion (λ q. p q ≡ same_row (take n q) j) d → find p d ≡ look n d j
found_where p n [] j all = refl
found_where p n (q ∷ d) j all = ap (λ b. cond b (Some q) (find p d)) all.0 ∙ ap (cond (same_row (take n q) j) (Some q)) (found_where p n d j all.1)

module _ (id m : List ℕ) (d : DataSet) (s : Structure) (i : IsPivoted id m d.structure s) (h : IsDataSet d.structure d.points) where
  abbrev a : Structure
  a = d.structure

  abbrev ids : List Component
  ids = other_identifiers id a

  pub pivot_look : (k : Row) → look (key_width s) (pivot_of d id m) k ≡ cond (list_any (λ r. same_row (values_in a ids r) k) d.points) (Some (pivoted_point d id m k)) None
  pivot_look k =
      let f = pivoted_point d id m in
      let keys = map (values_in a ids) d.points in
      look_made (key_width s) f (each_once same_row keys) k
      (all_more (λ j. is_point ids j ≡ true) (λ j. take (key_width s) (f j) ≡ j) (λ j t. (pivoted_is id m d s i h j t).1) (each_once same_row keys) (keys_typed id m d s i h))
      ∙ ap (λ b. cond b (Some (f k)) None) (among_once same_row (alike same_row rows_apart) keys k ∙ list_any-map (λ j. same_row j k) (values_in a ids) d.points)

-- the value at a code is that of the point with this code among its identifiers
module _ (id m : List ℕ) (d : DataSet) (within : place_of id (identifiers_of d.structure) < length (identifiers_of d.structure)) (h : IsDataSet d.structure d.points) where
  abbrev ours : Structure
  ours = d.structure

  abbrev left : List Component
  left = other_identifiers id ours

  pub coded_look : (code : List ℕ) (j : Row) → length j ≡ key_width ours → value_named (identifiers_of ours) j id ≡ c.Text code → coded_value d id m (values_named (identifiers_of ours) left j) code ≡ option_map_or (λ r. value_named (columns_of ours) r m) (look (key_width ours) d.points j) c.Null
  coded_look code j len has =
      ap (λ o. option_map_or (λ r. value_named (columns_of ours) r m) o c.Null)
      (found_where (is_coded ours id k code) (key_width ours) d.points j (all_more (λ q. is_point (columns_of ours) q ≡ true) (λ q. is_coded ours id k code q ≡ same_row (take (key_width ours) q) j) each_one d.points h.typed))
    where
      k : Row
      k = values_named (identifiers_of ours) left j

      others : (q : Row) → values_in ours left q ≡ values_named (identifiers_of ours) left (take (key_width ours) q)
      others q = parts_named ours left q (among_within left (identifiers_of ours) (others_among id ours h.well_formed))

      one : (q : Row) → value_named (columns_of ours) q id ≡ value_named (identifiers_of ours) (take (key_width ours) q) id
      one q = ap (λ xs. value_named xs q id) (columns_split ours) ∙ named_front (identifiers_of ours) (others_of ours) q id within

      there : (q : Row) → is_point (columns_of ours) q ≡ true → is_coded ours id k code q ≡ true → same_row (take (key_width ours) q) j ≡ true
      there q w e =
          let x = take (key_width ours) q in
          let parts = and_parts (same_row (values_in ours left q) k) (same_cell (value_named (columns_of ours) q id) (c.Text code)) e in
          let same_others : values_named (identifiers_of ours) left x ≡ k = sym (others q) ∙ same_row-is (values_in ours left q) k parts.0 in
          let same_one : value_named (identifiers_of ours) x id ≡ value_named (identifiers_of ours) j id = sym (one q) ∙ same_cell-is (value_named (columns_of ours) q id) (c.Text code) parts.1 ∙ sym has in
          let all = alike_others id (identifiers_of ours) x j (identifiers_of ours) same_one (subst (λ ys. values_named (identifiers_of ours) ys x ≡ values_named (identifiers_of ours) ys j) (others_are id ours.components) same_others) in
          let same : x ≡ j = sym (whole_key ours h.well_formed x (length-take-le (key_width ours) q (key_within ours q w))) ∙ alike_cells (identifiers_of ours) x j (identifiers_of ours) all ∙ whole_key ours h.well_formed j len in
          ap (same_row x) (sym same) ∙ same_row-refl x

      back : (q : Row) → same_row (take (key_width ours) q) j ≡ true → is_coded ours id k code q ≡ true
      back q e =
          let same = same_row-is (take (key_width ours) q) j e in
          let same_others : values_in ours left q ≡ k = others q ∙ ap (values_named (identifiers_of ours) left) same in
          let same_one : value_named (columns_of ours) q id ≡ c.Text code = one q ∙ ap (λ z. value_named (identifiers_of ours) z id) same ∙ has in
          ap (λ z. same_row z k && same_cell (value_named (columns_of ours) q id) (c.Text code)) same_others ∙ ap (λ b. b && same_cell (value_named (columns_of ours) q id) (c.Text code)) (same_row-refl k)
          ∙ ap (λ v. same_cell v (c.Text code)) same_one ∙ same_cell-refl (c.Text code)

      each_one : (q : Row) → is_point (columns_of ours) q ≡ true → is_coded ours id k code q ≡ same_row (take (key_width ours) q) j
      each_one q w = same_tests (is_coded ours id k code q) (same_row (take (key_width ours) q) j) (there q w) (back q)

-- ---- `unpivot`: many points from each
-- where only what is made of the point with a key has a point there
look_each : (n m : ℕ) (g : Row → List Row) (d : List Row) (k j : Row) → AllByRecursion (λ r. same_row (take n r) k ≡ false → look m (g r) j ≡ None) d → Distinct n d → look m (flat_map g d) j ≡ option_and_then (λ r. look m (g r) j) (look n d k)
look_each n m g [] k j all apart = refl
look_each n m g (r ∷ d) k j all apart = look-append m (g r) (flat_map g d) j ∙ go (same_row (take n r) k) refl (look_each n m g d k j all.1 (apart_parts (same_key n) r d apart).1)
  where
    go : (b : Bool) → same_row (take n r) k ≡ b → look m (flat_map g d) j ≡ option_and_then (λ q. look m (g q) j) (look n d k) → option_or (look m (g r) j) (look m (flat_map g d) j) ≡ option_and_then (λ q. look m (g q) j) (cond b (Some r) (look n d k))
    go true e ih = ap (option_or (look m (g r) j)) (ih ∙ ap (option_and_then (λ q. look m (g q) j)) (behind_none n r d k apart e)) ∙ or_none (look m (g r) j)
    go false e ih = ap (λ o. option_or o (look m (flat_map g d) j)) (all.0 e) ∙ ih

module _ (id m : List ℕ) (a s : Structure) (i : IsUnpivoted id m a s) (w : IsStructure a) where
  abbrev Named : Row → List ℕ → Row → Type 0
  Named = IsNamed id m a s i w

  abbrev here : Row → Component → List Row
  here = points_here id m a s i w

  abbrev AllNamed : Row → List Component → Type 0
  AllNamed r xs = AllByRecursion (λ x. AllByRecursion (Named r x.name) (here r x)) xs

  abbrev key_at : Row → List ℕ → Row
  key_at r name = take (key_width a) r ++ c.Text name ∷ []

  abbrev there : Row → List ℕ → Option Row
  there r name = named_point a r name (value_named (columns_of a) r name)

  -- a point of another measure
  other_name : (r : Row) (n name : List ℕ) (q : Row) → Named r n q → same_name n name ≡ false → same_row (take (key_width s) q) (key_at r name) ≡ false
  other_name r n name q h e = go (same_row (take (key_width s) q) (key_at r name)) refl
    where
      go : (b : Bool) → same_row (take (key_width s) q) (key_at r name) ≡ b → b ≡ false
      go false f = refl
      go true f =
          let texts = (front_same (take (key_width a) r) (take (key_width a) r) (c.Text n) (c.Text name) (sym h.1 ∙ same_row-is (take (key_width s) q) (key_at r name) f)).1 in
          let same : n ≡ name = cc in
          absurd (true≢false (sym (ap (same_name n) (sym same) ∙ same_itself n) ∙ e))

  not_there : (r : Row) (name : List ℕ) (xs : List Component) → AllNamed r xs → AllByRecursion (λ n. same_name n name ≡ false) (names_of xs) → look (key_width s) (flat_map (here r) xs) (key_at r name) ≡ None
  not_there r name [] all h = refl
  not_there r name (x ∷ xs) all h =
      look-append (key_width s) (here r x) (flat_map (here r) xs) (key_at r name)
      ∙ ap (λ o. option_or o (look (key_width s) (flat_map (here r) xs) (key_at r name))) (look_absent (key_width s) (here r x) (key_at r name) (all_more (Named r x.name) (λ q. same_row (take (key_width s) q) (key_at r name) ≡ false) (λ q t. other_name r x.name name q t h.0) (here r x) all.0))
      ∙ not_there r name xs all.1 h.1

  own_there : (r : Row) (name : List ℕ) (o : Option Row) → AllByRecursion (Named r name) (option_to_list o) → look (key_width s) (option_to_list o) (key_at r name) ≡ o
  own_there r name None all = refl
  own_there r name (Some q) all = ap (λ z. cond (same_row z (key_at r name)) (Some q) None) all.0.1 ∙ ap (λ b. cond b (Some q) None) (same_row-refl (key_at r name))

  here_look : (r : Row) (name : List ℕ) (xs : List Component) → AllNamed r xs → all_apart same_name (names_of xs) ≡ true → is_among name (names_of xs) ≡ true → look (key_width s) (flat_map (here r) xs) (key_at r name) ≡ there r name
  here_look r name [] all apart e = absurd (true≢false (sym e))
  here_look r name (x ∷ xs) all apart e = go (same_name x.name name) refl e (here_look r name xs all.1 parts.1)
    where
      parts : AllByRecursion (λ n. same_name x.name n ≡ false) (names_of xs) × (all_apart same_name (names_of xs) ≡ true)
      parts = apart_parts same_name x.name (names_of xs) apart

      own : look (key_width s) (flat_map (here r) (x ∷ xs)) (key_at r x.name) ≡ there r x.name
      own =
          look-append (key_width s) (here r x) (flat_map (here r) xs) (key_at r x.name)
          ∙ ap (option_or (look (key_width s) (here r x) (key_at r x.name))) (not_there r x.name xs all.1 (all_more (λ n. same_name x.name n ≡ false) (λ n. same_name n x.name ≡ false) (λ n f. same_name-sym n x.name ∙ f) (names_of xs) parts.0))
          ∙ or_none (look (key_width s) (here r x) (key_at r x.name)) ∙ own_there r x.name (there r x.name) all.0

      go : (b : Bool) → same_name x.name name ≡ b → (b || is_among name (names_of xs)) ≡ true → (is_among name (names_of xs) ≡ true → look (key_width s) (flat_map (here r) xs) (key_at r name) ≡ there r name) → look (key_width s) (flat_map (here r) (x ∷ xs)) (key_at r name) ≡ there r name
      go true f h ih = subst (λ n. look (key_width s) (flat_map (here r) (x ∷ xs)) (key_at r n) ≡ there r n) (same_name-is x.name name f) own
      go false f h ih =
          look-append (key_width s) (here r x) (flat_map (here r) xs) (key_at r name)
          ∙ ap (λ o. option_or o (look (key_width s) (flat_map (here r) xs) (key_at r name))) (look_absent (key_width s) (here r x) (key_at r name) (all_more (Named r x.name) (λ q. same_row (take (key_width s) q) (key_at r name) ≡ false) (λ q t. other_name r x.name name q t f) (here r x) all.0))
          ∙ ih h

  measures_apart : all_apart same_name (names_of (measures_of a)) ≡ true
  measures_apart =
      let p : Component → Bool = λ x. same_role x.role role.Measure in
      apart_map (λ x. x.name) same_name (measures_of a) ∙ all_apart-filter (λ x y. same_name x.name y.name) p a.components (sym (apart_map (λ x. x.name) same_name a.components) ∙ w.distinct)

  row_look : (r : Row) (name : List ℕ) → is_point (columns_of a) r ≡ true → is_among name (names_of (measures_of a)) ≡ true → look (key_width s) (unpivoted_points a r) (key_at r name) ≡ there r name
  row_look r name h e = ap (λ l. look (key_width s) l (key_at r name)) (here_is id m a s i w r) ∙ here_look r name (measures_of a) (all_here id m a s i w r h) measures_apart e

  -- a row with another key
  other_row : (r : Row) (k : Row) (name : List ℕ) → is_point (columns_of a) r ≡ true → same_row (take (key_width a) r) k ≡ false → look (key_width s) (unpivoted_points a r) (k ++ c.Text name ∷ []) ≡ None
  other_row r k name h e = look_absent (key_width s) (unpivoted_points a r) (k ++ c.Text name ∷ []) (all_more (IsDrawn id m a s i w r) (λ q. same_row (take (key_width s) q) (k ++ c.Text name ∷ []) ≡ false) differs (unpivoted_points a r) (drawn_here id m a s i w r h))
    where
      differs : (q : Row) → IsDrawn id m a s i w r q → same_row (take (key_width s) q) (k ++ c.Text name ∷ []) ≡ false
      differs q t = go (same_row (take (key_width s) q) (k ++ c.Text name ∷ [])) refl
        where
          go : (b : Bool) → same_row (take (key_width s) q) (k ++ c.Text name ∷ []) ≡ b → b ≡ false
          go false f = refl
          go true f =
              let keys = (front_same (take (key_width a) r) k (c.Text t.0) (c.Text name) (sym t.1.1 ∙ same_row-is (take (key_width s) q) (k ++ c.Text name ∷ []) f)).0 in
              absurd (true≢false (sym (ap (same_row (take (key_width a) r)) (sym keys) ∙ same_row-refl (take (key_width a) r)) ∙ e))

  pub unpivoted_look : (d : List Row) → IsDataSet a d → (k : Row) (name : List ℕ) → is_among name (names_of (measures_of a)) ≡ true
      → look (key_width s) (flat_map (unpivoted_points a) d) (k ++ c.Text name ∷ []) ≡ option_and_then (λ r. named_point a r name (value_named (columns_of a) r name)) (look (key_width a) d k)
  unpivoted_look d h k name e =
      let P : Row → Type 0 = λ r. is_point (columns_of a) r ≡ true in
      look_each (key_width a) (key_width s) (unpivoted_points a) d k (k ++ c.Text name ∷ [])
      (all_more P (λ r. same_row (take (key_width a) r) k ≡ false → look (key_width s) (unpivoted_points a r) (k ++ c.Text name ∷ []) ≡ None) (λ r t f. other_row r k name t f) d h.typed) h.distinct
      ∙ found_then P (key_width a) d k (λ r. look (key_width s) (unpivoted_points a r) (k ++ c.Text name ∷ [])) (λ r. there r name) h.typed
      (λ r t key. ap (λ z. look (key_width s) (unpivoted_points a r) (z ++ c.Text name ∷ [])) (sym key) ∙ row_look r name t e)

  -- a point is one of a key and the name of a measure
  abbrev IsOfMeasure : Row → Type 0
  IsOfMeasure q = (k : Row) × (name : List ℕ) × (is_among name (names_of (measures_of a)) ≡ true) × (take (key_width s) q ≡ k ++ c.Text name ∷ [])

  pub measure_names : AllByRecursion (λ x. is_among x.name (names_of (measures_of a)) ≡ true) (measures_of a)
  measure_names =
      all_more (λ x. IsColumnAt (place_of x.name (measures_of a)) x.name x.kind (measures_of a)) (λ x. is_among x.name (names_of (measures_of a)) ≡ true)
      (λ x h. list_any-map (λ n. same_name n x.name) (λ y. y.name) (measures_of a) ∙ column_any (place_of x.name (measures_of a)) x.name x.kind (measures_of a) h) (measures_of a) (own_among (measures_of a) measures_apart)

  of_measures : (r : Row) → is_point (columns_of a) r ≡ true → AllByRecursion IsOfMeasure (unpivoted_points a r)
  of_measures r h =
      subst (AllByRecursion IsOfMeasure) (sym (here_is id m a s i w r))
      (all_flat_map IsOfMeasure (here r) (measures_of a)
      (all_both (λ x. is_among x.name (names_of (measures_of a)) ≡ true) (λ x. AllByRecursion (Named r x.name) (here r x)) (λ x. AllByRecursion IsOfMeasure (here r x))
      (λ x among all. all_more (Named r x.name) IsOfMeasure (λ q t. (take (key_width a) r, x.name, among, t.1)) (here r x) all) (measures_of a) measure_names (all_here id m a s i w r h)))

  pub unpivoted_only : (d : List Row) → IsDataSet a d → (j q : Row) → look (key_width s) (flat_map (unpivoted_points a) d) j ≡ Some q → (k : Row) × (name : List ℕ) × (is_among name (names_of (measures_of a)) ≡ true) × (j ≡ k ++ c.Text name ∷ [])
  unpivoted_only d h j q e =
      let all = all_flat_map IsOfMeasure (unpivoted_points a) d (all_more (λ r. is_point (columns_of a) r ≡ true) (λ r. AllByRecursion IsOfMeasure (unpivoted_points a r)) of_measures d h.typed) in
      let is = look_is IsOfMeasure (key_width s) (flat_map (unpivoted_points a) d) j q all e in
      (is.0, is.1, is.2, sym (look_key (key_width s) (flat_map (unpivoted_points a) d) j q e) ∙ is.3)
