-- The cells of joins: they are those of the operands, or null.
use Rattle.std.proofs.Common.{◌≡◌, ℕ, zero, suc, Bool, List, [], ◌∷◌, ◌++◌, map, take, Option, Some, None, refl, subst}
use Rattle.std.specs.Prelude.{slice_get}
use Rattle.std.specs.List.{AllByRecursion, flat_map}
use Rattle.std.specs.Option.{option_map_or}
use Rattle.vtl_cell.specs.Profile.{IsOfProfile}
use Rattle.vtl_cell.specs.Row.{Row, column_of, same_row}
use Rattle.vtl_decimal.specs.Settings.{Settings}
use Rattle.vtl_cell.specs.declared.cell.Cell.{Cell}
use Rattle.vtl_cell.specs.declared.cell.Cell.TheVariants as c
use Rattle.vtl_lists.proofs.Sorts.{AllByRecursion-filter, AllByRecursion-map}
use Rattle.vtl_lists.proofs.Alls.{all_append, all_each, all_more}
use Rattle.vtl_syntax.specs.declared.word_groups.JoinKind.{JoinKind}
use Rattle.vtl_syntax.specs.declared.word_groups.JoinKind.TheVariants as join
use Rattle.vtl_tree.specs.DataSet.{AreOfProfile}
use Rattle.vtl_tree.specs.Environment.{DataSet}
use Rattle.vtl_tree.specs.Structure.{columns_of, key_width}
use Rattle.vtl_tree.specs.declared.structure.Component.{Component}
use Rattle.vtl_tree.specs.declared.structure.Structure.{Structure}
use Rattle.vtl_tuples.specs.Tuples.{combinations}
use Rattle.vtl_meaning.specs.Agreement.{OperandPoint, agree_in, operand_point, operand_points, values_in}
use Rattle.vtl_tree.specs.Columns.{identifiers_of, measures_of, place_of}
use Rattle.vtl_meaning.specs.Joined.{Part, Tuple, all_keys, attributes_in, crossed, is_whole, join_of, joined_of, keys_in, left_tuples, measures_in, present, reference_of, reference_place, structures_of, tuple_at, tuple_beside, tuple_point, tuples_of, values_or_nulls}
use Rattle.vtl_meaning.specs.LookUps.{values_named}
use Rattle.vtl_meaning.specs.Made.{attributes_of}
use Rattle.vtl_tuples.proofs.Onces.{once_hold}
use Rattle.vtl_meaning.proofs.JoinKept.{fronts, key_at}
use Rattle.vtl_meaning.proofs.JoinParts.{found_is, parts_by}

-- ---- what holds of null and of all_each cell of the operands
module _ (P : Cell → Type 0) (null : P c.Null) where
  abbrev Holds : Row → Type 0
  Holds r = AllByRecursion P r

  -- of all_each cell of an operand
  abbrev HoldsIn : DataSet → Type 0
  HoldsIn d = AllByRecursion Holds d.points

  all_flat : {X : Type 0} (f : X → Row) (xs : List X) → AllByRecursion (λ x. Holds (f x)) xs → Holds (flat_map f xs)
  all_flat f [] all = tt
  all_flat f (x ∷ xs) all = all_append P (f x) (flat_map f xs) all.0 (all_flat f xs all.1)

  pub cell_holds : (place : ℕ) (r : Row) → Holds r → P (column_of place r)
  cell_holds zero [] h = null
  cell_holds (suc place) [] h = null
  cell_holds zero (v ∷ r) h = h.0
  cell_holds (suc place) (v ∷ r) h = cell_holds place r h.1

  pub front_holds : (n : ℕ) (r : Row) → Holds r → Holds (take n r)
  front_holds zero r h = tt
  front_holds (suc n) [] h = tt
  front_holds (suc n) (v ∷ r) h = (h.0, front_holds n r h.1)

  pub values_hold : (xs ys : List Component) (r : Row) → Holds r → Holds (values_named xs ys r)
  values_hold xs ys r h = AllByRecursion-map (λ y. column_of (place_of y.name xs) r) P ys (all_each (λ y. P (column_of (place_of y.name xs) r)) (λ y. cell_holds (place_of y.name xs) r h) ys)

  -- ---- tuples
  abbrev HoldsOf : Part → Type 0
  HoldsOf p = (q : Row) → p.point ≡ Some q → Holds q

  record HoldsAt (t : Tuple) : Type 0 where
    identifiers : Holds t.identifiers
    parts : AllByRecursion HoldsOf t.parts

  part_holds : (a : Structure) (ys : List Component) (o : Option Row) → ((q : Row) → o ≡ Some q → Holds q) → Holds (values_or_nulls a ys o)
  part_holds a ys None h = AllByRecursion-map (λ y. c.Null) P ys (all_each (λ y. P c.Null) (λ y. null) ys)
  part_holds a ys (Some q) h = values_hold (columns_of a) ys q (h q refl)

  tuple_holds : (t : Tuple) → HoldsAt t → Holds (tuple_point t)
  tuple_holds t h =
      all_append P (t.identifiers ++ flat_map measures_in t.parts) (flat_map attributes_in t.parts)
      (all_append P t.identifiers (flat_map measures_in t.parts) h.identifiers (all_flat measures_in t.parts (all_more HoldsOf (λ p. Holds (measures_in p)) (λ p i. part_holds p.structure (measures_of p.structure) p.point i) t.parts h.parts)))
      (all_flat attributes_in t.parts (all_more HoldsOf (λ p. Holds (attributes_in p)) (λ p i. part_holds p.structure (attributes_of p.structure) p.point i) t.parts h.parts))

  parts_hold : (test : DataSet → Row → Bool) (ds : List DataSet) → AllByRecursion HoldsIn ds → AllByRecursion HoldsOf (parts_by test ds)
  parts_hold test [] all = tt
  parts_hold test (d ∷ ds) all = ((λ q e. found_is Holds (test d) d.points q all.0 e), parts_hold test ds all.1)

  -- ---- the tuples of all_each kind
  left_holds : (r : DataSet) (ds : List DataSet) → HoldsIn r → AllByRecursion HoldsIn ds → AllByRecursion HoldsAt (left_tuples r ds)
  left_holds r ds h all =
      let a = r.structure in
      AllByRecursion-map (tuple_beside a ds) HoldsAt r.points
      (all_more Holds (λ q. HoldsAt (tuple_beside a ds q)) (λ q w. record { identifiers = front_holds (key_width a) q w; parts = parts_hold (λ d. agree_in a d.structure q) ds all }) r.points h)

  keys_hold : (ids : List Component) (ds : List DataSet) → AllByRecursion HoldsIn ds → AllByRecursion Holds (flat_map (keys_in ids) ds)
  keys_hold ids [] all = tt
  keys_hold ids (d ∷ ds) all =
      all_append Holds (keys_in ids d) (flat_map (keys_in ids) ds)
      (AllByRecursion-map (values_in d.structure ids) Holds d.points (all_more Holds (λ q. Holds (values_in d.structure ids q)) (λ q w. values_hold (columns_of d.structure) ids q w) d.points all.0)) (keys_hold ids ds all.1)

  full_holds : (ids : List Component) (ds : List DataSet) → AllByRecursion HoldsIn ds → AllByRecursion HoldsAt (map (tuple_at ids ds) (all_keys ids ds))
  full_holds ids ds all =
      AllByRecursion-map (tuple_at ids ds) HoldsAt (all_keys ids ds)
      (all_more Holds (λ k. HoldsAt (tuple_at ids ds k)) (λ k w. record { identifiers = w; parts = parts_hold (λ d q. same_row (values_in d.structure ids q) k) ds all }) (all_keys ids ds)
      (once_hold Holds same_row (flat_map (keys_in ids) ds) (keys_hold ids ds all)))

  abbrev HoldsFor : OperandPoint → Type 0
  HoldsFor x = Holds x.point

  combinations_hold : (ds : List DataSet) → AllByRecursion HoldsIn ds → AllByRecursion (AllByRecursion HoldsFor) (combinations (map operand_points ds))
  combinations_hold [] all = (tt, tt)
  combinations_hold (d ∷ ds) all =
      fronts HoldsFor (AllByRecursion HoldsFor) (AllByRecursion HoldsFor) (operand_points d) (combinations (map operand_points ds)) (λ x t h i. (h, i)) (AllByRecursion-map (operand_point d.structure) HoldsFor d.points all.0) (combinations_hold ds all.1)

  present_holds : (xs : List OperandPoint) → AllByRecursion HoldsFor xs → AllByRecursion HoldsOf (map present xs)
  present_holds [] all = tt
  present_holds (x ∷ xs) all = ((λ q e. let same : x.point ≡ q = cc in subst Holds same all.0), present_holds xs all.1)

  crossed_holds : (xs : List OperandPoint) → AllByRecursion HoldsFor xs → HoldsAt (crossed xs)
  crossed_holds xs all = record {
    identifiers = all_flat key_at xs (all_more HoldsFor (λ x. Holds (key_at x)) (λ x h. front_holds (key_width x.structure) x.point h) xs all);
    parts = present_holds xs all;
  }

  tuples_hold : (kind : JoinKind) (r : DataSet) (ds : List DataSet) → HoldsIn r → AllByRecursion HoldsIn ds → AllByRecursion HoldsAt (tuples_of kind r ds)
  tuples_hold join.Inner r ds h all = AllByRecursion-filter HoldsAt is_whole (left_tuples r ds) (left_holds r ds h all)
  tuples_hold join.Left r ds h all = left_holds r ds h all
  tuples_hold join.Full r ds h all = full_holds (identifiers_of r.structure) ds all
  tuples_hold join.Cross r ds h all =
      let ts = combinations (map operand_points ds) in
      AllByRecursion-map crossed HoldsAt ts (all_more (AllByRecursion HoldsFor) (λ t. HoldsAt (crossed t)) crossed_holds ts (combinations_hold ds all))

  at_place : (ds : List DataSet) (n : ℕ) (r : DataSet) → slice_get ds n ≡ Some r → AllByRecursion HoldsIn ds → HoldsIn r
  at_place [] n r e all = cc
  at_place (d ∷ ds) zero r e all = let same : d ≡ r = cc in subst HoldsIn same all.0
  at_place (d ∷ ds) (suc n) r e all = at_place ds n r e all.1

  pub join_holds : (kind : JoinKind) (ds : List DataSet) → AllByRecursion HoldsIn ds → AllByRecursion Holds (join_of kind ds)
  join_holds kind ds all = go (reference_of kind ds) refl
    where
      go : (o : Option DataSet) → reference_of kind ds ≡ o → AllByRecursion Holds (option_map_or (λ r. joined_of kind r ds) o [])
      go None e = tt
      go (Some r) e =
          let ts = tuples_of kind r ds in
          AllByRecursion-map tuple_point Holds ts (all_more HoldsAt (λ t. Holds (tuple_point t)) tuple_holds ts (tuples_hold kind r ds (at_place ds (reference_place kind (structures_of ds)) r e all) all))

-- the integers of a join are of the profile where those of the operands are
pub join_profile : (p : Settings) (kind : JoinKind) (ds : List DataSet) → AllByRecursion (λ d. AreOfProfile p d.points) ds → AreOfProfile p (join_of kind ds)
join_profile p kind ds all = join_holds (IsOfProfile p) tt kind ds all
