-- The columns of a CSV file are the components of the structure, each once, and the places lead from one order to the other.
use Rattle.std.proofs.Common.{◌≡◌, ℕ, zero, suc, ◌+◌, ◌<◌, ◌≤◌, ◌⊎◌, inl, inr, List, [], ◌∷◌, ◌++◌, Bool, true, false, cond, ◌&&◌, Option, Some, None, Result, Ok, Err, length, map, take, get_or, arith, refl, sym, ap, ◌∙◌, subst, true≢false}
use Rattle.std.specs.List.{filter, All, AllByRecursion}
use Rattle.std.specs.Cmp.Lexicographic.{nat_list_eq_equiv}
use Rattle.std.specs.Prelude.{encode_utf8_all, ok_or}
use Rattle.std.proofs.lemmas.List.{get_or-map}
use Rattle.std.proofs.lemmas.List.Elements.{All-take}
use Rattle.std.specs.Option.{is_some}
use Rattle.std.proofs.lemmas.Bool.{and_parts}
use Rattle.vtl_lists.specs.Results.{◌>>=◌}
use Rattle.vtl_lists.specs.Apart.{all_apart}
use Rattle.vtl_lists.specs.Each.{cons_if, each_some}
use Rattle.vtl_lists.proofs.Aparts.{apart_parts}
use Rattle.vtl_cell.specs.declared.kind.Kind.TheVariants as k
use Rattle.vtl_cell.specs.Row.{Row, column_of}
use Rattle.vtl_rows.specs.Tables.{cells_at, column_at}
use Rattle.vtl_tree.specs.DataSet.{is_point}
use Rattle.vtl_tree.specs.declared.structure.Component.{Component}
use Rattle.vtl_tree.specs.declared.structure.Role.TheVariants as role
use Rattle.vtl_tree.specs.declared.structure.Structure.{Structure}
use Rattle.vtl_tree.specs.Structure.{IsStructure, columns_of, key_width, names_of, of_role, same_name, same_role}
use Rattle.vtl_sets.specs.TableOf.{column_for, table_columns}
use Rattle.vtl_sets.proofs.ColumnLemmas.{few_keys, some_columns}
use Rattle.vtl_csv.proofs.InputPointLemmas.{is_good, ok_same}
use Rattle.vtl_csv.specs.InputFile.{Layout, columns_with, layout_of, named_by, newly_named, place_from, place_in, places_in}
use Rattle.vtl_csv.specs.InputSteps.{IsLayout}

-- ---- components of a list
abbrev pub Has : {X : Type 0} → List X → X → Type 0
Has [] x = ⊥
Has (y ∷ ys) x = (y ≡ x) ⊎ Has ys x

has_front : {X : Type 0} (xs ys : List X) (x : X) → Has xs x → Has (xs ++ ys) x
has_front [] ys x h = absurd h
has_front (z ∷ xs) ys x (inl e) = inl e
has_front (z ∷ xs) ys x (inr h) = inr (has_front xs ys x h)

has_back : {X : Type 0} (xs ys : List X) (x : X) → Has ys x → Has (xs ++ ys) x
has_back [] ys x h = h
has_back (z ∷ xs) ys x h = inr (has_back xs ys x h)

-- what each has, all have
all_has : {X : Type 0} (P : X → Type 0) (xs : List X) → ((x : X) → Has xs x → P x) → AllByRecursion P xs
all_has P [] h = tt
all_has P (x ∷ xs) h = (h x (inl refl), all_has P xs (λ y k. h y (inr k)))

each_has : {X : Type 0} (P : X → Type 0) (xs : List X) → AllByRecursion P xs → (x : X) → Has xs x → P x
each_has P [] all x h = absurd h
each_has P (y ∷ ys) all x (inl e) = subst P e all.0
each_has P (y ∷ ys) all x (inr h) = each_has P ys all.1 x h

has_filtered : {X : Type 0} (p : X → Bool) (xs : List X) (x : X) → Has (filter p xs) x → Has xs x
has_filtered p [] x h = absurd h
has_filtered p (y ∷ ys) x h = go (p y) h (λ k. has_filtered p ys x k)
  where
    go : (b : Bool) → Has (cond b (y ∷ filter p ys) (filter p ys)) x → (Has (filter p ys) x → Has ys x) → (y ≡ x) ⊎ Has ys x
    go true (inl e) ih = inl e
    go true (inr k) ih = inr (ih k)
    go false k ih = inr (ih k)

-- one of two lists
has_one : {X : Type 0} (xs ys : List X) (x : X) → Has (xs ++ ys) x → Has xs x ⊎ Has ys x
has_one [] ys x h = inr h
has_one (z ∷ xs) ys x (inl e) = inl (inl e)
has_one (z ∷ xs) ys x (inr h) = elim (has_one xs ys x h) [ inl k ↦ inl (inr k) | inr k ↦ inr k ]

-- the columns are components
column_is_component : (s : Structure) (x : Component) → Has (columns_of s) x → Has s.components x
column_is_component s x h =
    elim (has_one (of_role role.Identifier s ++ of_role role.Measure s) (of_role role.Attribute s) x h) [
      | inl k ↦ elim (has_one (of_role role.Identifier s) (of_role role.Measure s) x k) [
        | inl a ↦ has_filtered (λ y. same_role y.role role.Identifier) s.components x a
        | inr b ↦ has_filtered (λ y. same_role y.role role.Measure) s.components x b
      ]
      | inr k ↦ has_filtered (λ y. same_role y.role role.Attribute) s.components x k
    ]

-- ---- a name has one component
all_names : (P : List ℕ → Type 0) (xs : List Component) → AllByRecursion P (names_of xs) → (x : Component) → Has xs x → P x.name
all_names P [] all x h = absurd h
all_names P (y ∷ ys) all x (inl e) = subst (λ z. P z.name) e all.0
all_names P (y ∷ ys) all x (inr h) = all_names P ys all.1 x h

namesake : (xs : List Component) → all_apart same_name (names_of xs) ≡ true → (x y : Component) → Has xs x → Has xs y → same_name x.name y.name ≡ true → x ≡ y
namesake [] a x y h k e = absurd h
namesake (z ∷ zs) a x y (inl h) (inl k) e = sym h ∙ k
namesake (z ∷ zs) a x y (inl h) (inr k) e =
    let parts = apart_parts same_name z.name (names_of zs) a in
    absurd (true≢false (sym e ∙ ap (λ w. same_name w.name y.name) (sym h) ∙ all_names (λ n. same_name z.name n ≡ false) zs parts.0 y k))
namesake (z ∷ zs) a x y (inr h) (inl k) e =
    let parts = apart_parts same_name z.name (names_of zs) a in
    absurd (true≢false (sym e ∙ nat_list_eq_equiv.symm x.name y.name ∙ ap (λ w. same_name w.name x.name) (sym k) ∙ all_names (λ n. same_name z.name n ≡ false) zs parts.0 x h))
namesake (z ∷ zs) a x y (inr h) (inr k) e = namesake zs (apart_parts same_name z.name (names_of zs) a).1 x y h k e

-- ---- the columns that a header names
some_same : {X : Type 0} {x y : X} → Some x ≡ Some y → x ≡ y
some_same e = cc

named_has : (xs : List Component) (f : List ℕ) (x : Component) → named_by xs f ≡ Some x → Has xs x
named_has [] f x e = cc
named_has (y ∷ ys) f x e = go (same_name f (encode_utf8_all y.name)) e (named_has ys f x)
  where
    go : (b : Bool) → cond b (Some y) (named_by ys f) ≡ Some x → (named_by ys f ≡ Some x → Has ys x) → (y ≡ x) ⊎ Has ys x
    go true q ih = inl (some_same q)
    go false q ih = inr (ih q)

newly_has : (is_taken : Bool) (found : Option Component) (x : Component) → cond is_taken None found ≡ Some x → found ≡ Some x
newly_has true found x e = cc
newly_has false found x e = e

columns_have : (xs : List Component) (fs : List (List ℕ)) (before columns : List Component) → AllByRecursion (Has xs) before → columns_with xs before fs ≡ Ok columns → AllByRecursion (Has xs) columns
columns_have xs [] before columns all e = subst (AllByRecursion (Has xs)) (ok_same e) all
columns_have xs (f ∷ fs) before columns all e = go (newly_named xs before f) refl (λ longer. columns_have xs fs longer columns) e
  where
    one_more : (rows : List Component) (x : Component) → AllByRecursion (Has xs) rows → Has xs x → AllByRecursion (Has xs) (rows ++ x ∷ [])
    one_more [] x all h = (h, tt)
    one_more (y ∷ ys) x all h = (all.0, one_more ys x all.1 h)

    go : (o : Option Component) → newly_named xs before f ≡ o
        → ((longer : List Component) → AllByRecursion (Has xs) longer → columns_with xs longer fs ≡ Ok columns → AllByRecursion (Has xs) columns)
        → (ok_or o (length before + 1) >>= λ x. columns_with xs (before ++ x ∷ []) fs) ≡ Ok columns → AllByRecursion (Has xs) columns
    go None t ih q = cc
    go (Some x) t ih q = ih (before ++ x ∷ []) (one_more before x all (named_has xs f x (newly_has (is_some (named_by before f)) (named_by xs f) x t))) q

-- ---- the places of the components
-- a place within a list, where it has a component
pub record IsPlaceOf (ys : List Component) (x : Component) (i : ℕ) : Type 0 where
  pub within : i < length ys
  pub there : (d : Component) → get_or ys i d ≡ x

-- the columns with this name are this component
abbrev IsOnly : List Component → Component → Type 0
IsOnly ys x = AllByRecursion (λ y. same_name x.name y.name ≡ true → y ≡ x) ys

place_found : (i : ℕ) (ys : List Component) (x : Component) (k : ℕ) → IsOnly ys x → place_from i ys x ≡ Some k → (j : ℕ) × (j + i ≡ k) × IsPlaceOf ys x j
place_found i [] x k only e = cc
place_found i (y ∷ ys) x k only e = go (same_name x.name y.name) refl e (place_found (i + 1) ys x k only.1)
  where
    go : (b : Bool) → same_name x.name y.name ≡ b → cond b (Some i) (place_from (i + 1) ys x) ≡ Some k
        → (place_from (i + 1) ys x ≡ Some k → (j : ℕ) × (j + (i + 1) ≡ k) × IsPlaceOf ys x j)
        → (j : ℕ) × (j + i ≡ k) × IsPlaceOf (y ∷ ys) x j
    go true t q ih =
        let here : i ≡ k = some_same q in
        (0, omega (arith, here), record { within = omega arith; there = λ d. only.0 t })
    go false t q ih =
        let g = ih q in
        (suc g.0, omega (arith, g.1), record { within = let w = g.2.within in omega (arith, w); there = λ d. g.2.there d })

place_is : (ys : List Component) (x : Component) (k : ℕ) → IsOnly ys x → place_in ys x ≡ Some k → IsPlaceOf ys x k
place_is ys x k only e = let g = place_found 0 ys x k only e in let same : g.0 ≡ k = omega (arith, g.1) in subst (IsPlaceOf ys x) same g.2

-- each place is that of its component
abbrev ArePlaces : List Component → List Component → List ℕ → Type 0
ArePlaces ys [] [] = Unit {0}
ArePlaces ys [] (i ∷ is) = ⊥
ArePlaces ys (x ∷ xs) [] = ⊥
ArePlaces ys (x ∷ xs) (i ∷ is) = IsPlaceOf ys x i × ArePlaces ys xs is

places_are : (ys xs : List Component) (places : List ℕ) → AllByRecursion (IsOnly ys) xs → each_some (place_in ys) xs ≡ Some places → ArePlaces ys xs places
places_are ys [] places only e = subst (ArePlaces ys []) (some_same e) tt
places_are ys (x ∷ xs) places only e = go (place_in ys x) refl (each_some (place_in ys) xs) (λ is. places_are ys xs is only.1) e
  where
    go : (o : Option ℕ) → place_in ys x ≡ o → (m : Option (List ℕ)) → ((is : List ℕ) → m ≡ Some is → ArePlaces ys xs is) → cons_if o m ≡ Some places → ArePlaces ys (x ∷ xs) places
    go None t m ih q = cc
    go (Some i) t None ih q = cc
    go (Some i) t (Some is) ih q = subst (ArePlaces ys (x ∷ xs)) (some_same q) (place_is ys x i only.0 t, ih is refl)

-- ---- the layout of a header
pub record IsLaidOut (s : Structure) (layout : Layout) : Type 0 where
  pub places : ArePlaces layout.columns (columns_of s) layout.places

layout_parts : (s : Structure) (fields : List (List ℕ)) (layout : Layout) → layout_of s fields ≡ Ok layout
    → (columns_with s.components [] fields ≡ Ok layout.columns) × (each_some (place_in layout.columns) (columns_of s) ≡ Some layout.places)
layout_parts s fields layout e = columns_go (columns_with s.components [] fields) e
  where
    places_go : (columns : List Component) (m : Option (List ℕ)) → (ok_or m (length columns + 1) >>= λ places. Ok (record { columns = columns; places = places })) ≡ Ok layout → (columns ≡ layout.columns) × (m ≡ Some layout.places)
    places_go columns None q = cc
    places_go columns (Some places) q =
        let same : record { columns = columns; places = places } ≡ layout = ok_same q in
        (ap (λ l. l.columns) same, ap (λ l. Some l.places) same)

    columns_go : (r : Result (List Component) ℕ) → (r >>= λ columns. places_in s columns >>= λ places. Ok (record { columns = columns; places = places })) ≡ Ok layout → (r ≡ Ok layout.columns) × (each_some (place_in layout.columns) (columns_of s) ≡ Some layout.places)
    columns_go (Err column) q = cc
    columns_go (Ok columns) q =
        let h = places_go columns (each_some (place_in columns) (columns_of s)) q in
        (ap Ok h.0, ap (λ ys. each_some (place_in ys) (columns_of s)) (sym h.0) ∙ h.1)

pub layout_lays_out : (s : Structure) (layout : Layout) → IsStructure s → IsLayout s layout → IsLaidOut s layout
layout_lays_out s layout well found =
    let parts = layout_parts s found.0 layout found.1 in
    let have = columns_have s.components found.0 [] layout.columns tt parts.0 in
    let only : (x : Component) → Has (columns_of s) x → IsOnly layout.columns x =
    λ x h. all_has (λ y. same_name x.name y.name ≡ true → y ≡ x) layout.columns
    (λ y k e. sym (namesake s.components well.distinct x y (column_is_component s x h) (each_has (Has s.components) layout.columns have y k) e)) in
    record { places = places_are layout.columns (columns_of s) layout.places (all_has (IsOnly layout.columns) (columns_of s) only) parts.1 }

-- ---- lists of places
all_below : (n : ℕ) (is : List ℕ) → AllByRecursion (λ i. i < n) is → All (λ i. i < n) is
all_below n [] all k d h = absurd (omega arith)
all_below n (i ∷ is) all zero d h = all.0
all_below n (i ∷ is) all (suc k) d h = all_below n is all.1 k d (omega arith)

some_below : (n : ℕ) (is : List ℕ) → 0 < length is → AllByRecursion (λ i. i < n) is → 0 < n
some_below n [] h all = absurd (omega arith)
some_below n (i ∷ is) h all = let b = all.0 in omega (arith, b)

-- ---- a point at a place
good_at : (ys : List Component) (row : Row) (i : ℕ) (d : Component) → is_point ys row ≡ true → i < length ys → is_good (get_or ys i d) (column_of i row) ≡ true
good_at [] row i d e h = absurd (omega arith)
good_at (y ∷ ys) [] i d e h = cc
good_at (y ∷ ys) (v ∷ vs) zero d e h = (and_parts (is_good y v) (is_point ys vs) e).0
good_at (y ∷ ys) (v ∷ vs) (suc i) d e h = good_at ys vs i d (and_parts (is_good y v) (is_point ys vs) e).1 (omega arith)

-- ---- what the places say
module _ (ys : List Component) where
  places_wide : (xs : List Component) (places : List ℕ) → ArePlaces ys xs places → length places ≡ length xs
  places_wide [] [] h = refl
  places_wide [] (i ∷ is) h = absurd h
  places_wide (x ∷ xs) [] h = absurd h
  places_wide (x ∷ xs) (i ∷ is) h = ap suc (places_wide xs is h.1)

  places_within : (xs : List Component) (places : List ℕ) → ArePlaces ys xs places → AllByRecursion (λ i. i < length ys) places
  places_within [] [] h = tt
  places_within [] (i ∷ is) h = absurd h
  places_within (x ∷ xs) [] h = absurd h
  places_within (x ∷ xs) (i ∷ is) h = (h.0.within, places_within xs is h.1)

  column_there : (x : Component) (i : ℕ) → IsPlaceOf ys x i → column_at (map column_for ys) i ≡ column_for x
  column_there x i h = let w = h.within in get_or-map column_for ys i x (record { name = []; kind = k.Null }) w ∙ ap column_for (h.there x)

  columns_there : (xs : List Component) (places : List ℕ) → ArePlaces ys xs places → map (column_at (map column_for ys)) places ≡ map column_for xs
  columns_there [] [] h = refl
  columns_there [] (i ∷ is) h = absurd h
  columns_there (x ∷ xs) [] h = absurd h
  columns_there (x ∷ xs) (i ∷ is) h = ap (λ c. c ∷ map (column_at (map column_for ys)) is) (column_there x i h.0) ∙ ap (λ cs. column_for x ∷ cs) (columns_there xs is h.1)

  -- the cells of a point in another order are a point of the components in that order
  points_there : (row : Row) → is_point ys row ≡ true → (xs : List Component) (places : List ℕ) → ArePlaces ys xs places → is_point xs (cells_at places row) ≡ true
  points_there row e [] [] h = refl
  points_there row e [] (i ∷ is) h = absurd h
  points_there row e (x ∷ xs) [] h = absurd h
  points_there row e (x ∷ xs) (i ∷ is) h =
      let good = subst (λ y. is_good y (column_of i row) ≡ true) (h.0.there x) (good_at ys row i x e h.0.within) in
      ap (λ b. b && is_point xs (cells_at is row)) good ∙ points_there row e xs is h.1

-- ---- of the structure's layout
module _ (s : Structure) (layout : Layout) (well : IsStructure s) (found : IsLayout s layout) where
  laid : IsLaidOut s layout
  laid = layout_lays_out s layout well found

  pub layout_keys : key_width s ≤ length layout.places
  layout_keys = let w = places_wide layout.columns (columns_of s) layout.places laid.places in let f = few_keys s in omega (arith, w, f)

  pub layout_some : 0 < length layout.places
  layout_some = let w = places_wide layout.columns (columns_of s) layout.places laid.places in let f = some_columns s.components well.some in omega (arith, w, f)

  within : AllByRecursion (λ i. i < length layout.columns) layout.places
  within = places_within layout.columns (columns_of s) layout.places laid.places

  pub layout_within : All (λ i. i < length layout.columns) layout.places
  layout_within = all_below (length layout.columns) layout.places within

  pub layout_wide : 0 < length layout.columns
  layout_wide = some_below (length layout.columns) layout.places layout_some within

  pub layout_columns : map (column_at (map column_for layout.columns)) layout.places ≡ table_columns s
  layout_columns = columns_there layout.columns (columns_of s) layout.places laid.places

  pub layout_points : (row : Row) → is_point layout.columns row ≡ true → is_point (columns_of s) (cells_at layout.places row) ≡ true
  layout_points row e = points_there layout.columns row e (columns_of s) layout.places laid.places

  -- the first places, below the columns of a table with as many
  pub layout_below : (count n : ℕ) → count ≡ length layout.columns → All (λ i. i < count) (take n layout.places)
  layout_below count n e = subst (λ m. All (λ i. i < m) (take n layout.places)) (sym e) (All-take (λ i. i < length layout.columns) n layout.places layout_within)

  pub layout_all_below : (count : ℕ) → count ≡ length layout.columns → All (λ i. i < count) layout.places
  layout_all_below count e = subst (λ m. All (λ i. i < m) layout.places) (sym e) layout_within

-- where a component has no place the column behind the last one is at fault
pub missing_place : (s : Structure) (fields : List (List ℕ)) (columns : List Component) (n : ℕ) → Ok columns ≡ columns_with s.components [] fields → None ≡ each_some (place_in columns) (columns_of s) → n ≡ length columns → Err (n + 1) ≡ layout_of s fields
missing_place s fields columns n e h k =
    ap (λ m. fault (m + 1)) k
    ∙ ap (λ o. ok_or o (length columns + 1) >>= laid columns) h
    ∙ ap (λ r. r >>= λ xs. places_in s xs >>= laid xs) e
  where
    fault : ℕ → Result Layout ℕ
    fault m = Err m

    laid : List Component → List ℕ → Result Layout ℕ
    laid xs places = Ok (record { columns = xs; places = places })
