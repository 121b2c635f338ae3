-- The rows of a lead beside those that they find are the points of the join.
use Rattle.std.proofs.Common.{◌≡◌, ℕ, ◌+◌, ◌<◌, Bool, true, false, not, ◌||◌, List, [], ◌∷◌, ◌++◌, length, length-append, get_or, map, take, drop, Option, Some, None, refl, sym, ap, ◌∙◌, subst, arith, zero-add}
use Rattle.std.specs.Prelude.{slice_get}
use Rattle.std.specs.List.{AllByRecursion, filter, find, flat_map, range_with_len}
use Rattle.std.proofs.lemmas.List.{length-map}
use Rattle.std.proofs.lemmas.Option.{slice_get-get_or}
use Rattle.vtl_cell.specs.Row.{Row, same_row}
use Rattle.vtl_lists.proofs.Sorts.{AllByRecursion-filter}
use Rattle.vtl_lists.proofs.Alls.{all_back, all_each, all_more}
use Rattle.vtl_lists.proofs.Filters.{filter_true}
use Rattle.vtl_rows.specs.Gathered.{picked}
use Rattle.vtl_rows.specs.Places.{row_at}
use Rattle.vtl_rows.specs.Tables.{Listed, cells_at}
use Rattle.vtl_index.specs.Seekers.{Sought, is_meant}
use Rattle.vtl_tree.specs.DataSet.{IsDataSet, is_point}
use Rattle.vtl_tree.specs.Environment.{DataSet}
use Rattle.vtl_tree.specs.Structure.{columns_of}
use Rattle.vtl_tree.specs.declared.structure.Role.TheVariants as role
use Rattle.vtl_tree.specs.declared.structure.Structure.{Structure}
use Rattle.vtl_tuples.proofs.Lists.{filter-map, map-map, map_same}
use Rattle.vtl_tree.specs.Columns.{common_identifiers, identifiers_of}
use Rattle.vtl_meaning.specs.Agreement.{agree_in, first_agreeing}
use Rattle.vtl_meaning.specs.Joined.{Tuple, attributes_in, inner_tuples, is_whole, left_tuples, measures_in, part_of, structures_of, tuple_beside, tuple_point}
use Rattle.vtl_meaning.proofs.Agreements.{own_values}
use Rattle.vtl_meaning.proofs.JoinAgreements.{agreeing_own}
use Rattle.vtl_meaning.proofs.LookUps.{named_cells}
use Rattle.vtl_meaning.proofs.JoinParts.{AreSets}
use Rattle.vtl_join.specs.Finding.{all_numbers, is_kept, number, numbers, sought_beside, sources_around}
use Rattle.vtl_join.specs.Picks.{joined_rows, picks_at, picks_behind, places_of, table_of}
use Rattle.vtl_join.proofs.Found.{AllFind, Finds, all_found, as_many, find_append, find_each, own_finds, parts_found, sought_finds}
use Rattle.vtl_join.proofs.Picked.{parts_at, picked_behind, picked_lead}
use Rattle.vtl_join.proofs.Pieced.{all_at, around, by_places, pieces_of_tuples}

-- ---- the rows that are joined, for any lead
-- the identifiers of a row of the lead and the parts that it finds
abbrev pub tuple_by : (Row → Row) → (Row → DataSet → Option Row) → List DataSet → Row → Tuple
tuple_by key part ds r = record { identifiers = key r; parts = map (λ d. part_of d (part r d)) ds }

module _ (lead : Listed) (ds : List DataSet) (xs : List (Option Sought)) (places : List ℕ) (part : Row → DataSet → Option Row)
    (found : (i : ℕ) → i < length lead.rows → AllFind i (get_or lead.rows i []) (part (get_or lead.rows i [])) xs ds) (many : length xs ≡ length ds) where
  abbrev made : Row → Tuple
  made = tuple_by (cells_at places) part ds

  one_row : (i : ℕ) → i < length lead.rows → picked (lead ∷ map table_of ds) (picks_behind (picks_at 0 places) (structures_of ds)) (numbers xs i (row_at lead.rows i)) ≡ tuple_point (made (get_or lead.rows i []))
  one_row i h =
      let r = get_or lead.rows i [] in
      let ns = map (number i r) xs in
      let f = found i h in
      picked_behind lead ds (picks_at 0 places) i ns (as_many i r (part r) xs ds f)
      ∙ ap (λ l. l ++ flat_map measures_in (parts_at ds ns) ++ flat_map attributes_in (parts_at ds ns)) (picked_lead lead (map table_of ds) places i ns)
      ∙ ap (λ ps. cells_at places r ++ flat_map measures_in ps ++ flat_map attributes_in ps) (parts_found i r (part r) xs ds f)

  kept_row : (whole : Bool) (i : ℕ) → i < length lead.rows → is_kept whole xs i (row_at lead.rows i) ≡ (not whole || is_whole (made (get_or lead.rows i [])))
  kept_row whole i h = ap (λ b. not whole || b) (all_found i (get_or lead.rows i []) (part (get_or lead.rows i [])) xs ds (found i h))

  pub rows_by_lead : (whole : Bool) → joined_rows lead ds (picks_at 0 places) (all_numbers whole xs lead.rows (range_with_len 0 (length lead.rows))) ≡ map (λ r. tuple_point (made r)) (filter (λ r. not whole || is_whole (made r)) lead.rows)
  rows_by_lead whole =
      let wide : (i : ℕ) → length (numbers xs i (row_at lead.rows i)) ≡ length ds + 1 = λ i. let l = length-map xs (number i (row_at lead.rows i)) in omega (arith, l, many) in
      let row : List ℕ → Row = picked (lead ∷ map table_of ds) (picks_behind (picks_at 0 places) (structures_of ds)) in
      let on : (k : ℕ) → 0 + k ≡ k = λ k. zero-add k in
      ap (map row) (pieces_of_tuples (λ i. is_kept whole xs i (row_at lead.rows i)) (λ i. numbers xs i (row_at lead.rows i)) (length ds + 1) (range_with_len 0 (length lead.rows)) (omega arith) (all_each (λ i. length (numbers xs i (row_at lead.rows i)) ≡ length ds + 1) wide (range_with_len 0 (length lead.rows))))
      ∙ map-map row (λ i. numbers xs i (row_at lead.rows i)) (filter (λ i. is_kept whole xs i (row_at lead.rows i)) (range_with_len 0 (length lead.rows)))
      ∙ by_places (λ i. is_kept whole xs i (row_at lead.rows i)) (λ i. row (numbers xs i (row_at lead.rows i))) (λ r. not whole || is_whole (made r)) (λ r. tuple_point (made r)) [] 0 lead.rows
      (λ k h. ap (λ i. is_kept whole xs i (row_at lead.rows i)) (on k) ∙ kept_row whole k h)
      (λ k h. ap (λ i. row (numbers xs i (row_at lead.rows i))) (on k) ∙ one_row k h)

pub all_rows : {X Y : Type 0} (f : X → Y) (p : X → Bool) (xs : List X) → map f (filter (λ x. not false || p x) xs) ≡ map f xs
all_rows f p xs = ap (map f) (filter_true xs)

-- ---- left and inner joins: the lead is the reference
beside_finds : (i : ℕ) (q : Row) (a : Structure) (d : DataSet) → Finds i q (λ e. first_agreeing a e q) (Some (sought_beside a d)) d
beside_finds i q a d =
    let b = d.structure in
    let ids = common_identifiers a b in
    let test : is_meant (sought_beside a d) q ≡ agree_in a b q = λ j t. same_row (named_cells (columns_of b) ids t j) (named_cells (columns_of a) ids q j) in
    sought_finds i q (λ e. first_agreeing a e q) (sought_beside a d) d refl (ap (λ p. find p d.points) test)

module _ (ds : List DataSet) (place : ℕ) (r : DataSet) (there : slice_get ds place ≡ Some r) (all : AreSets ds) where
  abbrev a : Structure
  a = r.structure

  abbrev pre : List DataSet
  pre = take place ds

  abbrev post : List DataSet
  post = drop (place + 1) ds

  pub reference_is : IsDataSet a r.points
  reference_is = (all_back (λ d. IsDataSet d.structure d.points) pre (r ∷ post) (subst (AllByRecursion (λ d. IsDataSet d.structure d.points)) (around ds place r there) all)).0

  finds_all : (i : ℕ) → i < length r.points → AllFind i (get_or r.points i []) (λ e. first_agreeing a e (get_or r.points i [])) (sources_around a ds place) ds
  unfolding AllFind
  finds_all i h =
      let q = get_or r.points i [] in
      let part : DataSet → Option Row = λ e. first_agreeing a e q in
      let f : DataSet → Option Sought = λ d. Some (sought_beside a d) in
      let own = own_finds i q part r (slice_get-get_or r.points i [] h) (all_at (λ t. first_agreeing a r t ≡ Some t) r.points i [] (agreeing_own r reference_is) h) in
      subst (AllFind i q part (sources_around a ds place)) (sym (around ds place r there))
      (find_append i q part (map f pre) (None ∷ map f post) pre (r ∷ post) (find_each i q part f pre (all_each (λ d. Finds i q part (f d) d) (beside_finds i q a) pre))
      (own, find_each i q part f post (all_each (λ d. Finds i q part (f d) d) (beside_finds i q a) post)))

  as_many_sources : length (sources_around a ds place) ≡ length ds
  as_many_sources =
      let f : DataSet → Option Sought = λ d. Some (sought_beside a d) in
      let l = length-append (map f pre) (None ∷ map f post) in
      let m = length-append pre (r ∷ post) in
      let n = ap length (around ds place r there) in
      let o = length-map pre f in
      let p = length-map post f in
      omega (arith, l, m, n, o, p)

  abbrev beside : Row → Tuple
  beside = tuple_beside a ds

  same_points : (t : List Row) → AllByRecursion (λ q. is_point (columns_of a) q ≡ true) t → map (λ q. tuple_point (tuple_by (cells_at (places_of role.Identifier a)) (λ q e. first_agreeing a e q) ds q)) t ≡ map (λ q. tuple_point (beside q)) t
  same_points t typed =
      map_same (λ q. tuple_point (tuple_by (cells_at (places_of role.Identifier a)) (λ q e. first_agreeing a e q) ds q)) (λ q. tuple_point (beside q)) t
      (all_more (λ q. is_point (columns_of a) q ≡ true) (λ q. tuple_point (tuple_by (cells_at (places_of role.Identifier a)) (λ q e. first_agreeing a e q) ds q) ≡ tuple_point (beside q))
      (λ q w. ap (λ k. k ++ flat_map measures_in (beside q).parts ++ flat_map attributes_in (beside q).parts) (named_cells (columns_of a) (identifiers_of a) q ∙ own_values a q reference_is.well_formed w)) t typed)

  rows_beside : (whole : Bool) → joined_rows (table_of r) ds (picks_at 0 (places_of role.Identifier a)) (all_numbers whole (sources_around a ds place) r.points (range_with_len 0 (length r.points))) ≡ map (λ q. tuple_point (beside q)) (filter (λ q. not whole || is_whole (beside q)) r.points)
  rows_beside whole =
      rows_by_lead (table_of r) ds (sources_around a ds place) (places_of role.Identifier a) (λ q e. first_agreeing a e q) finds_all as_many_sources whole
      ∙ same_points (filter (λ q. not whole || is_whole (beside q)) r.points) (AllByRecursion-filter (λ q. is_point (columns_of a) q ≡ true) (λ q. not whole || is_whole (beside q)) r.points reference_is.typed)

  pub left_rows : joined_rows (table_of r) ds (picks_at 0 (places_of role.Identifier a)) (all_numbers false (sources_around a ds place) r.points (range_with_len 0 (length r.points))) ≡ map tuple_point (left_tuples r ds)
  left_rows = rows_beside false ∙ all_rows (λ q. tuple_point (beside q)) (λ q. is_whole (beside q)) r.points ∙ sym (map-map tuple_point beside r.points)

  pub inner_rows : joined_rows (table_of r) ds (picks_at 0 (places_of role.Identifier a)) (all_numbers true (sources_around a ds place) r.points (range_with_len 0 (length r.points))) ≡ map tuple_point (inner_tuples r ds)
  inner_rows = rows_beside true ∙ sym (ap (map tuple_point) (filter-map is_whole beside r.points) ∙ map-map tuple_point beside (filter (λ q. is_whole (beside q)) r.points))
