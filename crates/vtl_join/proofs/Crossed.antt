-- The combinations of row numbers are the points of the cross join.
use Rattle.std.proofs.Common.{◌≡◌, ℕ, suc, ◌+◌, true, List, [], ◌∷◌, ◌++◌, length, map, Option, refl, sym, ap, ◌∙◌, arith}
use Rattle.std.specs.Prelude.{slice_get}
use Rattle.std.specs.List.{AllByRecursion, flat_map}
use Rattle.std.proofs.lemmas.List.{length-map}
use Rattle.std.proofs.lemmas.List.Folds.{flat_map-map}
use Rattle.vtl_lists.proofs.Alls.{all_append, all_more}
use Rattle.vtl_lists.proofs.Sorts.{AllByRecursion-map}
use Rattle.vtl_lists.proofs.Filters.{filter_true}
use Rattle.vtl_cell.specs.Row.{Row}
use Rattle.vtl_rows.specs.Gathered.{picked, pieces}
use Rattle.vtl_rows.specs.Tables.{Listed}
use Rattle.vtl_tree.specs.Environment.{DataSet}
use Rattle.vtl_tree.specs.declared.structure.Role.TheVariants as role
use Rattle.vtl_tuples.specs.Tuples.{combinations}
use Rattle.vtl_tuples.proofs.Lists.{flat_map_each, map-flat_map, map-map, map_same}
use Rattle.vtl_meaning.specs.Agreement.{OperandPoint, key_of, operand_point, operand_points}
use Rattle.vtl_meaning.specs.Joined.{Part, attributes_in, cross_tuples, crossed, measures_in, part_of, present, structures_of, tuple_point}
use Rattle.vtl_meaning.proofs.Agreements.{own_values}
use Rattle.vtl_meaning.proofs.JoinKept.{IsCombination, IsOperandPoint, combinations_are}
use Rattle.vtl_meaning.proofs.JoinParts.{AreSets}
use Rattle.vtl_join.specs.Crossing.{all_combinations, row_counts, row_numbers, tuples_behind, up_to}
use Rattle.vtl_join.specs.Picks.{joined_rows, picks_behind, picks_from, table_of}
use Rattle.vtl_join.proofs.Picked.{parts_at, picked_behind, picked_identifiers, values_of}
use Rattle.vtl_join.proofs.Pieced.{items_by_places, pieces_of_tuples}

-- ---- combinations of numbers
fronts_long : (n : ℕ) (ns : List ℕ) (ts : List (List ℕ)) → AllByRecursion (λ t. length t ≡ n) ts → AllByRecursion (λ t. length t ≡ suc n) (flat_map (λ m. map (λ t. m ∷ t) ts) ns)
fronts_long n [] ts all = tt
fronts_long n (m ∷ ns) ts all =
    all_append (λ t. length t ≡ suc n) (map (λ t. m ∷ t) ts) (flat_map (λ k. map (λ t. k ∷ t) ts) ns)
    (AllByRecursion-map (λ t. m ∷ t) (λ t. length t ≡ suc n) ts (all_more (λ t. length t ≡ n) (λ t. length (m ∷ t) ≡ suc n) (λ t e. ap suc e) ts all)) (fronts_long n ns ts all)

as_long : (nss : List (List ℕ)) → AllByRecursion (λ t. length t ≡ length nss) (combinations nss)
as_long [] = (refl, tt)
as_long (ns ∷ nss) = fronts_long (length nss) ns (combinations nss) (as_long nss)

-- row numbers by the counts of rows
counted : (ds : List DataSet) → map up_to (map (λ d. length d.points) ds) ≡ map row_numbers ds
counted ds = map-map up_to (λ d. length d.points) ds

numbers_are : (ds : List DataSet) → map (parts_at ds) (combinations (map row_numbers ds)) ≡ map (map present) (combinations (map operand_points ds))
numbers_are [] = refl
numbers_are (d ∷ ds) =
    let C = combinations (map row_numbers ds) in
    let P = map (map present) (combinations (map operand_points ds)) in
    let g : Option Row → List (List Part) = λ o. map (λ t. part_of d o ∷ t) P in
    let left : (n : ℕ) → map (parts_at (d ∷ ds)) (map (λ t. n ∷ t) C) ≡ g (slice_get d.points n) = λ n.
    map-map (parts_at (d ∷ ds)) (λ t. n ∷ t) C ∙ sym (map-map (λ t. part_of d (slice_get d.points n) ∷ t) (parts_at ds) C) ∙ ap (map (λ t. part_of d (slice_get d.points n) ∷ t)) (numbers_are ds) in
    let right : (x : OperandPoint) → map (map present) (map (λ t. x ∷ t) (combinations (map operand_points ds))) ≡ map (λ t. present x ∷ t) P = λ x.
    map-map (map present) (λ t. x ∷ t) (combinations (map operand_points ds)) ∙ sym (map-map (λ t. present x ∷ t) (map present) (combinations (map operand_points ds))) in
    map-flat_map (parts_at (d ∷ ds)) (λ n. map (λ t. n ∷ t) C) (row_numbers d)
    ∙ flat_map_each (λ n. map (parts_at (d ∷ ds)) (map (λ t. n ∷ t) C)) (λ n. g (slice_get d.points n)) left (row_numbers d)
    ∙ items_by_places g 0 [] d.points refl
    ∙ sym (map-flat_map (map present) (λ x. map (λ t. x ∷ t) (combinations (map operand_points ds))) (operand_points d)
    ∙ flat_map_each (λ x. map (map present) (map (λ t. x ∷ t) (combinations (map operand_points ds)))) (λ x. map (λ t. present x ∷ t) P) right (operand_points d)
    ∙ flat_map-map (λ x. map (λ t. present x ∷ t) P) (operand_point d.structure) d.points)

-- ---- points of combinations
abbrev point_of_parts : List Part → Row
point_of_parts ps = flat_map (values_of role.Identifier) ps ++ flat_map measures_in ps ++ flat_map attributes_in ps

keys_are : (xs : List OperandPoint) → AllByRecursion IsOperandPoint xs → flat_map (values_of role.Identifier) (map present xs) ≡ flat_map (λ x. key_of x.structure x.point) xs
keys_are [] all = refl
keys_are (x ∷ xs) all =
    ap (λ k. k ++ flat_map (values_of role.Identifier) (map present xs)) (own_values x.structure x.point all.0.well_formed all.0.typed) ∙ ap (λ l. key_of x.structure x.point ++ l) (keys_are xs all.1)

module _ (lead : Listed) (ds : List DataSet) (all : AreSets ds) where
  abbrev C : List (List ℕ)
  C = combinations (map row_numbers ds)

  abbrev row : List ℕ → Row
  row = picked (lead ∷ map table_of ds) (picks_behind (picks_from role.Identifier 1 (structures_of ds)) (structures_of ds))

  one_row : (t : List ℕ) → length t ≡ length ds → row (0 ∷ t) ≡ point_of_parts (parts_at ds t)
  one_row t l =
      picked_behind lead ds (picks_from role.Identifier 1 (structures_of ds)) 0 t l
      ∙ ap (λ k. k ++ flat_map measures_in (parts_at ds t) ++ flat_map attributes_in (parts_at ds t)) (picked_identifiers lead ds 0 t l)

  long : AllByRecursion (λ t. length t ≡ length ds) C
  long = let l = length-map ds row_numbers in all_more (λ t. length t ≡ length (map row_numbers ds)) (λ t. length t ≡ length ds) (λ t e. e ∙ l) C (as_long (map row_numbers ds))

  tuples_are : tuples_behind (0 ∷ []) (row_counts ds) ≡ map (λ t. 0 ∷ t) C
  tuples_are = ap (λ nss. map (λ t. 0 ∷ t) (combinations nss)) (counted ds)

  pub cross_points : map row (tuples_behind (0 ∷ []) (row_counts ds)) ≡ map tuple_point (cross_tuples ds)
  cross_points =
      let D = combinations (map operand_points ds) in
      ap (map row) tuples_are
      ∙ map-map row (λ t. 0 ∷ t) C
      ∙ map_same (λ t. row (0 ∷ t)) (λ t. point_of_parts (parts_at ds t)) C (all_more (λ t. length t ≡ length ds) (λ t. row (0 ∷ t) ≡ point_of_parts (parts_at ds t)) one_row C long)
      ∙ sym (map-map point_of_parts (parts_at ds) C) ∙ ap (map point_of_parts) (numbers_are ds) ∙ map-map point_of_parts (map present) D
      ∙ map_same (λ xs. point_of_parts (map present xs)) (λ xs. tuple_point (crossed xs)) D
      (all_more (IsCombination (structures_of ds)) (λ xs. point_of_parts (map present xs) ≡ tuple_point (crossed xs))
      (λ xs c. ap (λ k. k ++ flat_map measures_in (map present xs) ++ flat_map attributes_in (map present xs)) (keys_are xs c.points)) D (combinations_are ds all))
      ∙ sym (map-map tuple_point crossed D)

  pub cross_rows : joined_rows lead ds (picks_from role.Identifier 1 (structures_of ds)) (all_combinations ds) ≡ map tuple_point (cross_tuples ds)
  cross_rows =
      ap (λ nss. map row (pieces (length ds + 1) (flat_map (λ t. (0 ∷ []) ++ t) (combinations nss)))) (counted ds)
      ∙ ap (map row) (pieces_of_tuples (λ t. true) (λ t. 0 ∷ t) (length ds + 1) C (omega arith) (all_more (λ t. length t ≡ length ds) (λ t. length (0 ∷ t) ≡ length ds + 1) (λ t e. omega (arith, e)) C long))
      ∙ ap (λ l. map row (map (λ t. 0 ∷ t) l)) (filter_true C)
      ∙ ap (map row) (sym tuples_are) ∙ cross_points
