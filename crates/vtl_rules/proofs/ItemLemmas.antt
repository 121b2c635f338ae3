-- What a look-up by keys gives of items.
use Rattle.std.proofs.Common.{◌≡◌, ℕ, zero, suc, ◌+◌, ◌<◌, ◌≤◌, Bool, true, false, not, cond, ◌&&◌, ◌||◌, List, [], ◌∷◌, ◌++◌, length, map, Option, Some, None, refl, sym, ap, ◌∙◌, subst, arith}
use Rattle.std.specs.Prelude.{option_map, slice_get, slice_index_or}
use Rattle.std.specs.List.{AllByRecursion, filter, find, position_or_len, range_with_len}
use Rattle.std.proofs.lemmas.List.{length-map, length_push, map-append}
use Rattle.std.proofs.lemmas.List.Folds.{find_at}
use Rattle.vtl_decimal.specs.declared.number.Fault.{Fault}
use Rattle.vtl_lists.specs.Apart.{all_apart}
use Rattle.vtl_lists.proofs.Aparts.{all_apart-filter, apart_parts}
use Rattle.vtl_lists.proofs.Alls.{all_back, all_filtered, all_from_filtered, all_more}
use Rattle.vtl_lists.proofs.Tests.{and_true}
use Rattle.vtl_cell.specs.Order.{same_cell}
use Rattle.vtl_cell.specs.Outcome.{faults_by, join}
use Rattle.vtl_cell.specs.Row.{Row, column_of, same_row}
use Rattle.vtl_cell.specs.declared.cell.Cell.{Cell}
use Rattle.vtl_cell.specs.declared.cell.Cell.TheVariants as c
use Rattle.vtl_cell.specs.declared.kind.Kind.{Kind}
use Rattle.vtl_rows.specs.Places.{row_at}
use Rattle.vtl_rows.specs.Tables.{cells_at}
use Rattle.vtl_index.specs.Seekers.{is_meant}
use Rattle.vtl_index.proofs.KeyGroups.{keys_once}
use Rattle.vtl_index.proofs.Ranges.{all_indexed}
use Rattle.vtl_tree.specs.Columns.{identifiers_of, measures_of, place_of}
use Rattle.vtl_tree.specs.Environment.{DataSet}
use Rattle.vtl_tree.specs.Names.{is_among}
use Rattle.vtl_tree.specs.Structure.{IsStructure, columns_of, key_width, names_of, same_name}
use Rattle.vtl_tree.specs.declared.structure.Component.{Component}
use Rattle.vtl_tree.specs.declared.structure.Structure.{Structure}
use Rattle.vtl_tree.proofs.NotNullLemmas.{same_itself}
use Rattle.vtl_tuples.specs.Keys.{each_once}
use Rattle.vtl_tuples.proofs.Lists.{map-map, map_each, map_same}
use Rattle.vtl_meaning.specs.Agreement.{values_in}
use Rattle.vtl_meaning.specs.LookUps.{value_named}
use Rattle.vtl_meaning.specs.Made.{attributes_of, component_kinds}
use Rattle.vtl_meaning.specs.Turned.{is_coded, other_identifiers}
use Rattle.vtl_meaning.proofs.JoinKept.{apart_map, same_row-append}
use Rattle.vtl_meaning.proofs.LookUps.{among_within, named_cells}
use Rattle.vtl_meaning.proofs.OwnColumns.{columns_apart, own_among}
use Rattle.vtl_meaning.proofs.Places.{all_of_map, columns_split, identifiers_apart, place_here, place_later, same_name-is, same_name-sym}
use Rattle.vtl_meaning.proofs.TurnedKept.{others_are}
use Rattle.vtl_rulings.specs.HierarchyChecks.{Ruled, combinations, items_at, key_at, key_cell, only_name}
use Rattle.vtl_rules.specs.Itemized.{Itemized, combination_at, given_at, item_key, itemized_by, numbers_of, other_places, sought_items}

-- ---- lists
pub faults_by-map : {X Y : Type 0} (h : Y → Option Fault) (f : X → Y) (xs : List X) → faults_by h (map f xs) ≡ faults_by (λ x. h (f x)) xs
faults_by-map h f [] = refl
faults_by-map h f (x ∷ xs) = ap (join (h (f x))) (faults_by-map h f xs)

-- ---- a cell behind others
cell_last : (k : Row) (v : Cell) → column_of (length k) (k ++ v ∷ []) ≡ v
cell_last [] v = refl
cell_last (u ∷ k) v = cell_last k v

cell_before : (k : Row) (v : Cell) (i : ℕ) → i < length k → column_of i (k ++ v ∷ []) ≡ column_of i k
cell_before [] v i h = absurd (omega (arith, h))
cell_before (u ∷ k) v zero h = refl
cell_before (u ∷ k) v (suc i) h = cell_before k v i (omega (arith, h))

-- ---- a look-up
-- what was found at the place that a look-up gives
pub given_none : (x : Itemized) (k : Row) (item : List ℕ) (place : ℕ) → place ≡ position_or_len (is_meant x.sought (item_key k item)) x.sought.rows → length x.sought.rows ≤ place → given_at x k item ≡ None
given_none x k item place e h =
    ap (option_map (column_of x.measure)) (find_at (is_meant x.sought (item_key k item)) x.sought.rows ∙ ap (slice_get x.sought.rows) (sym e) ∙ past x.sought.rows place h)
  where
    past : (rows : List Row) (i : ℕ) → length rows ≤ i → slice_get rows i ≡ None
    past [] i l = refl
    past (r ∷ rows) zero l = absurd (omega (arith, l))
    past (r ∷ rows) (suc i) l = past rows i (omega (arith, l))

pub given_some : (x : Itemized) (k : Row) (item : List ℕ) (place : ℕ) (r : Row) → place ≡ position_or_len (is_meant x.sought (item_key k item)) x.sought.rows → place < length x.sought.rows → r ≡ slice_index_or x.sought.rows place r
    → given_at x k item ≡ Some (column_of x.measure r)
given_some x k item place r e h at =
    ap (option_map (column_of x.measure)) (find_at (is_meant x.sought (item_key k item)) x.sought.rows ∙ ap (slice_get x.sought.rows) (sym e) ∙ here x.sought.rows place h at)
  where
    here : (rows : List Row) (i : ℕ) → i < length rows → r ≡ slice_index_or rows i r → slice_get rows i ≡ Some r
    here [] i l f = absurd (omega (arith, l))
    here (q ∷ rows) zero l f = ap Some (sym f)
    here (q ∷ rows) (suc i) l f = here rows i (omega (arith, l)) f

-- ---- of an operand
-- the place of a column between others
first_place : (xs : List Component) (y : Component) (zs : List Component) → all_apart same_name (names_of (xs ++ y ∷ zs)) ≡ true → place_of y.name (xs ++ y ∷ zs) ≡ length xs
first_place [] y zs apart = place_here y.name y zs (same_itself y.name)
first_place (x ∷ xs) y zs apart =
    let parts = apart_parts same_name x.name (names_of (xs ++ y ∷ zs)) apart in
    let others : AllByRecursion (λ (z : Component). same_name x.name z.name ≡ false) (xs ++ y ∷ zs) = all_of_map (λ (z : Component). z.name) (λ n. same_name x.name n ≡ false) (xs ++ y ∷ zs) parts.0 in
    place_later y.name x (xs ++ y ∷ zs) (all_back (λ (z : Component). same_name x.name z.name ≡ false) xs (y ∷ zs) others).0 ∙ ap suc (first_place xs y zs parts.1)

no_place : (name : List ℕ) (zs : List Component) → AllByRecursion (λ z. same_name z.name name ≡ false) zs → place_of name zs ≡ length zs
no_place name [] h = refl
no_place name (z ∷ zs) h = place_later name z zs h.0 ∙ ap suc (no_place name zs h.1)

module _ (id : List ℕ) (d : DataSet) where
  abbrev a : Structure
  a = d.structure

  abbrev others : List Component
  others = other_identifiers id a

  abbrev places : List ℕ
  places = other_places id a

  abbrev x : Itemized
  x = itemized_by id d

  -- ---- combinations
  pub combinations_are : map (combination_at x) (numbers_of x) ≡ combinations id d
  combinations_are =
      sym (map-map (λ f. cells_at places (row_at d.points f)) (λ k. slice_index_or x.leading k 0) (numbers_of x))
      ∙ ap (map (λ f. cells_at places (row_at d.points f))) (all_indexed x.leading 0)
      ∙ keys_once (cells_at places) d.points ∙ ap (each_once same_row) (map_each (cells_at places) (values_in a others) (named_cells (columns_of a) others) d.points)

  pub combination_wide : (n : ℕ) → length (combination_at x n) ≡ length others
  combination_wide n = length-map places (λ i. column_of i (row_at d.points (slice_index_or x.leading n 0))) ∙ length-map others (λ y. place_of y.name (columns_of a))

  -- ---- values
  meant_is : (k : Row) (item : List ℕ) → length k ≡ length others → (r : Row) → is_meant (sought_items id d) (item_key k item) r ≡ is_coded a id k item r
  meant_is k item l r =
      let asking = item_key k item in
      let wide : length places ≡ length others = length-map others (λ y. place_of y.name (columns_of a)) in
      let count : length places + 1 ≡ length asking = sym (length_push k (c.Text item) ∙ ap (λ n. n + 1) (l ∙ sym wide)) in
      let asked : cells_at (range_with_len 0 (length places + 1)) asking ≡ asking = ap (λ n. cells_at (range_with_len 0 n) asking) count ∙ all_indexed asking c.Null in
      let own : cells_at (places ++ place_of id (columns_of a) ∷ []) r ≡ cells_at places r ++ value_named (columns_of a) r id ∷ [] = map-append (λ i. column_of i r) places (place_of id (columns_of a) ∷ []) in
      ap (λ z. same_row z (cells_at (range_with_len 0 (length places + 1)) asking)) own ∙ ap (same_row (cells_at places r ++ value_named (columns_of a) r id ∷ [])) asked
      ∙ same_row-append (cells_at places r) k (value_named (columns_of a) r id ∷ []) (c.Text item ∷ []) (length-map places (λ i. column_of i r) ∙ wide ∙ sym l)
      ∙ ap (λ b. same_row (cells_at places r) k && b) (and_true (same_cell (value_named (columns_of a) r id) (c.Text item)))
      ∙ ap (λ z. same_row z k && same_cell (value_named (columns_of a) r id) (c.Text item)) (named_cells (columns_of a) others r)

  -- the only measure stands behind the identifiers
  measure_place : (kind : Kind) → IsStructure a → component_kinds (measures_of a) ≡ kind ∷ [] → place_of (only_name (measures_of a)) (columns_of a) ≡ key_width a
  measure_place kind w e =
      ap (place_of (only_name (measures_of a))) (columns_split a) ∙ go (measures_of a) e (subst (λ xs. all_apart same_name (names_of xs) ≡ true) (columns_split a) (columns_apart a w))
    where
      go : (ms : List Component) → component_kinds ms ≡ kind ∷ [] → all_apart same_name (names_of (identifiers_of a ++ (ms ++ attributes_of a))) ≡ true → place_of (only_name ms) (identifiers_of a ++ (ms ++ attributes_of a)) ≡ key_width a
      go [] f apart = cc
      go (m ∷ ms) f apart = first_place (identifiers_of a) m (ms ++ attributes_of a) apart

  module _ (h : Ruled) (same_id : h.id ≡ id) (named : h.measure ≡ only_name (measures_of a)) (w : IsStructure a) (only : component_kinds (measures_of a) ≡ h.kind ∷ []) where
    pub given_is : (k : Row) (item : List ℕ) → length k ≡ length others → given_at x k item ≡ items_at h d k item
    given_is k item l =
        ap (λ (p : Row → Bool). option_map (column_of (key_width a)) (find p d.points)) (λ j r. meant_is k item l r j)
        ∙ ap (λ n. option_map (column_of n) (find (is_coded a id k item) d.points)) (sym (ap (λ n. place_of n (columns_of a)) named ∙ measure_place h.kind w only))
        ∙ ap (λ n. option_map (λ r. value_named (columns_of a) r h.measure) (find (is_coded a n k item) d.points)) (sym same_id)

  -- ---- keys
  abbrev is_other : Component → Bool
  is_other y = not (is_among y.name (id ∷ []))

  pub key_is : (w : IsStructure a) (k : Row) (item : List ℕ) → length k ≡ length others → cells_at x.places (item_key k item) ≡ key_at id a k item
  key_is w k item l = map-map (λ i. column_of i (item_key k item)) (λ (y : Component). place_of y.name others) ids ∙ map_same (λ (y : Component). column_of (place_of y.name others) (item_key k item)) (key_cell id others k item) ids cells
    where
      ids : List Component
      ids = identifiers_of a

      others_is : others ≡ filter is_other ids
      others_is = others_are id a.components

      others_apart : all_apart same_name (names_of others) ≡ true
      others_apart =
          let namesakes : Component → Component → Bool = λ y z. same_name y.name z.name in
          apart_map (λ (y : Component). y.name) same_name others ∙ ap (all_apart namesakes) others_is ∙ all_apart-filter namesakes is_other ids (sym (apart_map (λ (y : Component). y.name) same_name ids) ∙ identifiers_apart a w)

      own_within : AllByRecursion (λ (y : Component). is_other y ≡ true → place_of y.name others < length others) ids
      own_within = all_from_filtered (λ (y : Component). place_of y.name others < length others) is_other ids (subst (AllByRecursion (λ (y : Component). place_of y.name others < length others)) others_is (among_within others others (own_among others others_apart)))

      -- no other one has the name
      other_name : (b : Bool) → not (b || false) ≡ true → b ≡ false
      other_name true f = sym f
      other_name false f = refl

      none_named : AllByRecursion (λ (z : Component). same_name z.name id ≡ false) others
      none_named = all_more (λ (z : Component). is_other z ≡ true) (λ (z : Component). same_name z.name id ≡ false) (λ z e. same_name-sym z.name id ∙ other_name (same_name id z.name) e) others (subst (AllByRecursion (λ (z : Component). is_other z ≡ true)) (sym others_is) (all_filtered is_other ids))

      cell : (y : Component) → (is_other y ≡ true → place_of y.name others < length others) → column_of (place_of y.name others) (item_key k item) ≡ key_cell id others k item y
      cell y within = go (same_name y.name id) refl
        where
          go : (b : Bool) → same_name y.name id ≡ b → column_of (place_of y.name others) (item_key k item) ≡ cond b (c.Text item) (value_named others k y.name)
          go true e =
              ap (λ n. column_of (place_of n others) (item_key k item)) (same_name-is y.name id e) ∙ ap (λ n. column_of n (item_key k item)) (no_place id others none_named ∙ sym l) ∙ cell_last k (c.Text item)
          go false e =
              let inside = within (ap (λ b. not (b || false)) (same_name-sym id y.name ∙ e)) in
              cell_before k (c.Text item) (place_of y.name others) (omega (arith, inside, l))

      cells : AllByRecursion (λ (y : Component). column_of (place_of y.name others) (item_key k item) ≡ key_cell id others k item y) ids
      cells = all_more (λ (y : Component). is_other y ≡ true → place_of y.name others < length others) (λ (y : Component). column_of (place_of y.name others) (item_key k item) ≡ key_cell id others k item y) cell ids own_within
