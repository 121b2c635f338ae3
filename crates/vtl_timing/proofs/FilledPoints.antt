-- A filled data set is one: its points are of the operand's columns, and no two have the same identifiers.
use Rattle.std.proofs.Common.{◌≡◌, ℕ, Bool, true, false, not, cond, ◌&&◌, List, [], ◌∷◌, ◌++◌, find, map, take, length, Option, Some, None, refl, sym, ap, ◌∙◌, subst, arith, append_assoc}
use Rattle.std.specs.Prelude.{unwrap_or}
use Rattle.std.specs.List.{AllByRecursion, filter, flat_map}
use Rattle.std.proofs.lemmas.List.{append-nil, take_all}
use Rattle.vtl_lists.specs.Apart.{all_apart}
use Rattle.vtl_lists.proofs.Perms.{AllByRecursion-Perm, Perm-sym}
use Rattle.vtl_lists.proofs.Sorts.{AllByRecursion-filter}
use Rattle.vtl_lists.proofs.Alls.{all_append, all_back, all_each, all_filtered}
use Rattle.vtl_index.specs.Groups.{each_once}
use Rattle.vtl_cell.specs.Row.{Row, same_key, same_row}
use Rattle.vtl_cell.specs.declared.cell.Cell.{Cell}
use Rattle.vtl_cell.specs.declared.cell.Cell.TheVariants as c
use Rattle.vtl_cell.proofs.Rows.{same_row-is, same_row-refl}
use Rattle.vtl_rows.specs.Tables.{cells_at, fits_kinds}
use Rattle.vtl_series.specs.Series.{dated, frequencies, keys_by, numbers_of, rows_by, seen_by, series_at, series_rows, tuple_rows}
use Rattle.vtl_series.specs.declared.extent.Extent.{Extent}
use Rattle.vtl_time.specs.Periods.{period_at}
use Rattle.vtl_time.specs.declared.periods.Frequency.{Frequency}
use Rattle.vtl_tree.specs.Columns.{identifiers_of, measures_of, others_of, place_of, places_in}
use Rattle.vtl_tree.specs.DataSet.{IsDataSet, is_point}
use Rattle.vtl_tree.specs.Environment.{DataSet}
use Rattle.vtl_tree.specs.Structure.{IsStructure, columns_of, key_width, of_role}
use Rattle.vtl_tree.specs.declared.structure.Component.{Component}
use Rattle.vtl_tree.specs.declared.structure.Role.TheVariants as role
use Rattle.vtl_tree.specs.declared.structure.Structure.{Structure}
use Rattle.vtl_meaning.specs.Agreement.{values_in}
use Rattle.vtl_meaning.specs.Joined.{tuple_at, tuple_point, values_or_nulls}
use Rattle.vtl_meaning.specs.LookUps.{value_named, values_named}
use Rattle.vtl_meaning.specs.Made.{AreAmong, IsColumnAt}
use Rattle.vtl_meaning.proofs.Drawn.{drawn_all, drawn_apart, map_drawn}
use Rattle.vtl_meaning.proofs.GroupKinds.{null_is_of}
use Rattle.vtl_meaning.proofs.Kept.{some_identifiers, cells_append}
use Rattle.vtl_meaning.proofs.OwnColumns.{own_columns, own_identifiers}
use Rattle.vtl_meaning.proofs.Places.{IsIdentifier, are_identifiers, are_others, cells_fit, columns_split, first_cells, joined_point_is, key_of_joined, point_append, point_length}
use Rattle.vtl_meaning.proofs.ValueKinds.{point_from}
use Rattle.vtl_meaning.proofs.LookUps.{named_cells}
use Rattle.vtl_tuples.proofs.Lists.{map-map}
use Rattle.vtl_timing.specs.Times.{HasTime, fill_of, in_order, is_time, other_identifiers, series_columns, time_place}
use Rattle.vtl_timing.proofs.SeriesColumns.{identifiers_among, series_apart, series_identifiers, series_perm, time_only}
use Rattle.vtl_timing.proofs.ShiftKept.{period_has}

-- ---- cells by names
nulls_are : (xs ys : List Component) → cells_at (places_in xs ys) [] ≡ map (λ y. c.Null) ys
nulls_are xs [] = refl
nulls_are xs (y ∷ ys) = ap (λ l. c.Null ∷ l) (nulls_are xs ys)

-- ---- what stands behind the identifiers
module _ (a : Structure) where
  abbrev behind : Option Row → Row
  behind o = values_or_nulls a (measures_of a) o ++ values_or_nulls a (of_role role.Attribute a) o

  pub behind_cells : (o : Option Row) → cells_at (places_in (columns_of a) (others_of a)) (unwrap_or o []) ≡ values_or_nulls a (measures_of a) o ++ values_or_nulls a (of_role role.Attribute a) o
  behind_cells o = cells_append (columns_of a) (measures_of a) (of_role role.Attribute a) (unwrap_or o []) ∙ go o
    where
      go : (o : Option Row) → cells_at (places_in (columns_of a) (measures_of a)) (unwrap_or o []) ++ cells_at (places_in (columns_of a) (of_role role.Attribute a)) (unwrap_or o []) ≡ values_or_nulls a (measures_of a) o ++ values_or_nulls a (of_role role.Attribute a) o
      go None = λ j. nulls_are (columns_of a) (measures_of a) j ++ nulls_are (columns_of a) (of_role role.Attribute a) j
      go (Some q) = λ j. named_cells (columns_of a) (measures_of a) q j ++ named_cells (columns_of a) (of_role role.Attribute a) q j

  nulls_fit : (ys : List Component) → fits_kinds (map (λ y. y.kind) ys) (map (λ y. c.Null) ys) ≡ true
  nulls_fit [] = refl
  nulls_fit (y ∷ ys) = ap (λ b. b && fits_kinds (map (λ z. z.kind) ys) (map (λ z. c.Null) ys)) (null_is_of y.kind) ∙ nulls_fit ys

  behind_fits : IsStructure a → (o : Option Row) → ((q : Row) → o ≡ Some q → is_point (columns_of a) q ≡ true) → fits_kinds (map (λ y. y.kind) (others_of a)) (behind o) ≡ true
  behind_fits well o h = ap (fits_kinds (map (λ y. y.kind) (others_of a))) (sym (behind_cells o)) ∙ go o h
    where
      among : AreAmong (others_of a) (columns_of a)
      among =
          let P : Component → Type 0 = λ y. IsColumnAt (place_of y.name (columns_of a)) y.name y.kind (columns_of a) in
          all_back P (identifiers_of a) (others_of a) (subst (AllByRecursion P) (columns_split a) (own_columns a well))

      go : (o : Option Row) → ((q : Row) → o ≡ Some q → is_point (columns_of a) q ≡ true) → fits_kinds (map (λ y. y.kind) (others_of a)) (cells_at (places_in (columns_of a) (others_of a)) (unwrap_or o [])) ≡ true
      go None h = ap (fits_kinds (map (λ y. y.kind) (others_of a))) (nulls_are (columns_of a) (others_of a)) ∙ nulls_fit (others_of a)
      go (Some q) h = cells_fit (others_of a) (columns_of a) q among (h q refl)

-- ---- rows of series
all_flat : {X Y : Type 0} (K : X → Type 0) (P : Y → Type 0) (g : X → List Y) → ((x : X) → K x → AllByRecursion P (g x)) → (xs : List X) → AllByRecursion K xs → AllByRecursion P (flat_map g xs)
all_flat K P g f [] all = tt
all_flat K P g f (x ∷ xs) all = all_append P (g x) (flat_map g xs) (f x all.0) (all_flat K P g f xs all.1)

all_once : (K : Row → Type 0) (xs : List Row) → AllByRecursion K xs → AllByRecursion K (each_once same_row xs)
all_once K [] all = tt
all_once K (x ∷ xs) all = (all.0, AllByRecursion-filter K (λ y. not (same_row x y)) (each_once same_row xs) (all_once K xs all.1))

all_mapped : {X Y : Type 0} (G : X → Type 0) (K : Y → Type 0) (g : X → Y) → ((x : X) → G x → K (g x)) → (xs : List X) → AllByRecursion G xs → AllByRecursion K (map g xs)
all_mapped G K g f [] all = tt
all_mapped G K g f (x ∷ xs) all = (f x all.0, all_mapped G K g f xs all.1)

pub series_each : (e : Extent) (on : ℕ) (by : List ℕ) (G P : Row → Type 0) → ((q : Row) → G q → (f : Frequency) (i : ℕ) → P (dated f (cells_at by q) i)) → (rows : List Row) → AllByRecursion G rows → AllByRecursion P (series_rows e on by rows)
series_each e on by G P h rows all =
    let K : Row → Type 0 = λ key. (f : Frequency) (i : ℕ) → P (dated f key i) in
    all_flat K P (tuple_rows e on by rows)
    (λ key d. all_flat (λ f. Unit {0}) P (series_at e on rows (rows_by by rows key) key)
    (λ f u. all_mapped (λ i. Unit {0}) P (dated f key) (λ i v. d f i) (numbers_of f on (rows_by by rows key) (seen_by e rows (rows_by by rows key))) (all_each (λ i. Unit {0}) (λ i. tt) (numbers_of f on (rows_by by rows key) (seen_by e rows (rows_by by rows key)))))
    frequencies (all_each (λ f. Unit {0}) (λ f. tt) frequencies))
    (keys_by by rows) (all_once K (map (cells_at by) rows) (all_mapped G K (cells_at by) h rows all))

-- ---- their cells
module _ (a : Structure) (well : IsStructure a) (timed : HasTime a) where
  abbrev sc : List Component
  sc = series_columns a

  abbrev ids : List Component
  ids = identifiers_of a

  abbrev by : List ℕ
  by = places_in (columns_of a) (other_identifiers a)

  others_identify : AllByRecursion IsIdentifier (other_identifiers a)
  others_identify = AllByRecursion-filter IsIdentifier (λ x. not (is_time x)) ids (are_identifiers a)

  others_of_ids : AreAmong (other_identifiers a) ids
  others_of_ids = AllByRecursion-filter (λ y. IsColumnAt (place_of y.name ids) y.name y.kind ids) (λ x. not (is_time x)) ids (own_identifiers a well)

  pub front_is : (q : Row) → is_point (columns_of a) q ≡ true → is_point (other_identifiers a) (cells_at by q) ≡ true
  front_is q h =
      subst (λ l. is_point (other_identifiers a) (cells_at (places_in l (other_identifiers a)) q) ≡ true) (sym (columns_split a))
      (some_identifiers (other_identifiers a) ids (others_of a) q others_identify (are_identifiers a) others_of_ids (ap (λ l. is_point l q) (sym (columns_split a)) ∙ h))

  pub last_is : (f : Frequency) (i : ℕ) → is_point (filter is_time ids) (c.Period (period_at f i) ∷ []) ≡ true
  last_is f i =
      let one = time_only a timed in
      let passes = subst (AllByRecursion (λ x. is_time x ≡ true)) one.only (all_filtered is_time ids) in
      let has = period_has one.item (period_at f i) passes.0 in
      ap (λ l. is_point l (c.Period (period_at f i) ∷ [])) one.only ∙ point_from one.item [] (c.Period (period_at f i)) [] has.0 has.1 refl

  pub series_points : (e : Extent) (points : List Row) → AllByRecursion (λ q. is_point (columns_of a) q ≡ true) points → AllByRecursion (λ r. is_point sc r ≡ true) (series_rows e (time_place a) by points)
  series_points e points all =
      series_each e (time_place a) by (λ q. is_point (columns_of a) q ≡ true) (λ r. is_point sc r ≡ true)
      (λ q h f i. point_append (other_identifiers a) (filter is_time ids) (cells_at by q) (c.Period (period_at f i) ∷ []) (front_is q h) (last_is f i)) points all

  -- in the order of identifiers
  pub key_is : (r : Row) → is_point sc r ≡ true → is_point ids (in_order a r) ≡ true
  key_is r h =
      ap (is_point ids) (sym (named_cells sc ids r))
      ∙ subst (λ l. is_point ids (cells_at (places_in l ids) r) ≡ true) (append-nil sc)
      (some_identifiers ids sc [] r (are_identifiers a) (series_identifiers a) (identifiers_among a well) (ap (λ l. is_point l r) (append-nil sc) ∙ h))

  pub maps_same : (f g : Component → Cell) (ys : List Component) → map f ys ≡ map g ys → AllByRecursion (λ y. f y ≡ g y) ys
  maps_same f g [] e = tt
  maps_same f g (y ∷ ys) e = let one : f y ≡ g y = cc in let more : map f ys ≡ map g ys = cc in (one, maps_same f g ys more)

  same_maps : (f g : Component → Cell) (ys : List Component) → AllByRecursion (λ y. f y ≡ g y) ys → map f ys ≡ map g ys
  same_maps f g [] all = refl
  same_maps f g (y ∷ ys) all = λ j. all.0 j ∷ same_maps f g ys all.1 j

  pub own_row : (r : Row) → is_point sc r ≡ true → values_named sc sc r ≡ r
  own_row r h =
      let many = point_length sc r h in
      sym (named_cells sc sc r) ∙ ap (λ l. cells_at (places_in l sc) r) (sym (append-nil sc)) ∙ first_cells sc [] r (series_apart a well) (omega (arith, many)) ∙ take_all (length sc) r (omega (arith, many))

  pub order_back : (r q : Row) → is_point sc r ≡ true → is_point sc q ≡ true → in_order a r ≡ in_order a q → r ≡ q
  order_back r q h i e =
      let f : Component → Cell = λ y. value_named sc r y.name in
      let g : Component → Cell = λ y. value_named sc q y.name in
      sym (own_row r h) ∙ same_maps f g sc (AllByRecursion-Perm (λ y. f y ≡ g y) (Perm-sym (series_perm a)) (maps_same f g ids e)) ∙ own_row q i

-- ---- data sets
found_point : (p : Row → Bool) (P : Row → Type 0) (points : List Row) (q : Row) → AllByRecursion P points → find p points ≡ Some q → P q
found_point p P [] q all e = cc
found_point p P (x ∷ xs) q all e = go (p x) e (λ later. found_point p P xs q all.1 later)
  where
    go : (b : Bool) → cond b (Some x) (find p xs) ≡ Some q → (find p xs ≡ Some q → P q) → P q
    go true f later = let s : x ≡ q = cc in subst P s all.0
    go false f later = later f

module _ (e : Extent) (d : DataSet) (timed : HasTime d.structure) (h : IsDataSet d.structure d.points)
    (once : all_apart same_row (series_rows e (time_place d.structure) (places_in (columns_of d.structure) (other_identifiers d.structure)) d.points) ≡ true) where
  abbrev a : Structure
  a = d.structure

  abbrev rows : List Row
  rows = series_rows e (time_place a) (places_in (columns_of a) (other_identifiers a)) d.points

  abbrev point : Row → Row
  point r = tuple_point (tuple_at (identifiers_of a) (d ∷ []) (in_order a r))

  abbrev there : Row → Option Row
  there r = find (λ q. same_row (values_in a (identifiers_of a) q) (in_order a r)) d.points

  pub point_is : (r : Row) → point r ≡ in_order a r ++ behind a (there r)
  point_is r =
      let ms = values_or_nulls a (measures_of a) (there r) in
      let ts = values_or_nulls a (of_role role.Attribute a) (there r) in
      (λ j. (in_order a r ++ append-nil ms j) ++ append-nil ts j) ∙ append_assoc (in_order a r) ms ts

  abbrev IsRow : Row → Type 0
  IsRow r = is_point (series_columns a) r ≡ true

  abbrev Drawn : Row → Row → Type 0
  Drawn r z = IsRow r × (z ≡ point r)

  pub whole : (r : Row) → IsRow r → is_point (columns_of a) (point r) ≡ true
  whole r i =
      ap (is_point (columns_of a)) (point_is r)
      ∙ joined_point_is a (others_of a) (in_order a r) (behind a (there r)) (columns_split a) (are_others a) (key_is a h.well_formed timed r i)
      (behind_fits a h.well_formed (there r) (λ q f. found_point (λ z. same_row (values_in a (identifiers_of a) z) (in_order a r)) (λ z. is_point (columns_of a) z ≡ true) d.points q h.typed f))

  pub key_of : (r : Row) → IsRow r → take (key_width a) (point r) ≡ in_order a r
  key_of r i = ap (take (key_width a)) (point_is r) ∙ key_of_joined a (in_order a r) (behind a (there r)) (key_is a h.well_formed timed r i)

  back : (r t q z : Row) → Drawn r q → Drawn t z → same_key (key_width a) q z ≡ true → same_row r t ≡ true
  back r t q z i j s =
      let keys = same_row-is (take (key_width a) q) (take (key_width a) z) s in
      let orders = sym (ap (take (key_width a)) i.1 ∙ key_of r i.0) ∙ keys ∙ ap (take (key_width a)) j.1 ∙ key_of t j.0 in
      ap (same_row r) (sym (order_back a h.well_formed timed r t i.0 j.0 orders)) ∙ same_row-refl r

  drawn : AllByRecursion (λ r. Drawn r (point r)) rows
  drawn = all_more (λ r i. (i, refl)) rows (series_points a h.well_formed timed e d.points h.typed)
    where
      all_more : ((r : Row) → is_point (series_columns d.structure) r ≡ true → Drawn r (point r)) → (xs : List Row) → AllByRecursion (λ r. is_point (series_columns d.structure) r ≡ true) xs → AllByRecursion (λ r. Drawn r (point r)) xs
      all_more f [] all = tt
      all_more f (x ∷ xs) all = (f x all.0, all_more f xs all.1)

  pub fill_kept : IsDataSet a (fill_of e d)
  fill_kept =
      subst (IsDataSet a) (sym (map_drawn point rows) ∙ sym (map-map (λ key. tuple_point (tuple_at (identifiers_of a) (d ∷ []) key)) (in_order a) rows)) (record {
        well_formed = h.well_formed;
        typed = drawn_all Drawn (λ q. is_point (columns_of a) q ≡ true) (λ r q i. ap (is_point (columns_of a)) i.1 ∙ whole r i.0) (λ r. point r ∷ []) rows drawn;
        distinct = drawn_apart Drawn same_row (same_key (key_width a)) back (λ r. point r ∷ []) rows drawn once;
      })
