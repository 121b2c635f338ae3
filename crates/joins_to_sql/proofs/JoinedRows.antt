-- The rows of joined sources show a part of each operand.
use Rattle.std.proofs.Common.{◌≡◌, ◌<◌, ◌+◌, ℕ, zero, suc, true, cond, List, [], ◌∷◌, ◌++◌, length, map, Option, Some, None, refl, ap, ◌∙◌, subst, arith, append-nil, length-append}
use Rattle.std.specs.Prelude.{Bool, is_some, slice_get}
use Rattle.std.specs.List.{AllByRecursion, flat_map, list_all}
use Rattle.std.proofs.lemmas.List.{get_or_append_left, get_or-append-add, length-map, map-append}
use Rattle.vtl_cell.specs.Row.{Row, column_of}
use Rattle.vtl_decimal.specs.Settings.{Settings}
use Rattle.vtl_cell.specs.declared.cell.Cell.TheVariants as c
use Rattle.vtl_tree.specs.DataSet.{is_point}
use Rattle.vtl_tree.specs.Environment.{DataSet}
use Rattle.vtl_tree.specs.Structure.{IsStructure, columns_of}
use Rattle.vtl_tree.specs.declared.structure.Component.{Component}
use Rattle.vtl_tree.specs.declared.structure.Structure.{Structure}
use Rattle.vtl_tree.specs.Columns.{identifiers_of, measures_of}
use Rattle.vtl_meaning.specs.Joined.{Part, Tuple, part_of, structures_of, tuple_point, values_or_nulls}
use Rattle.vtl_meaning.specs.Made.{AreFor, attributes_of, component_kinds, kinds_of_all}
use Rattle.vtl_meaning.specs.Points.{point_of}
use Rattle.vtl_meaning.proofs.Places.{point_length}
use Rattle.sql_tree.specs.declared.word_groups.JoinKind.TheVariants as joining
use Rattle.joins_to_sql.specs.Joins.{Placed, columns_in, joined_exps, placed_around, placed_from, width_of, without}
use Rattle.joins_to_sql.proofs.Chains.{cells_or_nulls, extended_by}
use Rattle.joins_to_sql.proofs.JoinedColumns.{AllShown, ArePlaced, AreWell, Shows, are_attributes_part, are_identifiers_part, are_measures_part, columns_kinds, for_kinds, of_kinds_append, parts_values, structures_in}
use Rattle.selects_to_sql.proofs.Loose.{all_loose, loose, loose_nulls}

-- ---- a row with a part of each operand

abbrev pub with_parts : Row → List (ℕ × Option Row) → Row
with_parts x [] = x
with_parts x (o ∷ os) = with_parts (x ++ cells_or_nulls o.0 o.1) os

pub left_extended : (os : List (ℕ × Option Row)) (x : Row) → extended_by joining.Left os x ≡ with_parts x os ∷ []
left_extended [] x = refl
left_extended (o ∷ os) x = append-nil (extended_by joining.Left os (x ++ cells_or_nulls o.0 o.1)) ∙ left_extended os (x ++ cells_or_nulls o.0 o.1)

-- no part is missing
abbrev pub all_there : List (ℕ × Option Row) → Bool
all_there os = list_all (λ o. is_some o.1) os

pub inner_extended : (os : List (ℕ × Option Row)) (x : Row) → extended_by joining.Inner os x ≡ cond (all_there os) (with_parts x os ∷ []) []
inner_extended [] x = refl
inner_extended ((w, None) ∷ os) x = refl
inner_extended ((w, Some t) ∷ os) x = append-nil (extended_by joining.Inner os (x ++ t)) ∙ inner_extended os (x ++ t)

-- the cells that were there stay
front_kept : (os : List (ℕ × Option Row)) (x : Row) (place : ℕ) → place < length x → column_of place (with_parts x os) ≡ column_of place x
front_kept [] x place h = refl
front_kept (o ∷ os) x place h =
    let cells = cells_or_nulls o.0 o.1 in
    let size = length-append x cells in
    front_kept os (x ++ cells) place (omega (arith, h, size)) ∙ get_or_append_left x cells c.Null place (omega (arith, h))

behind_kept : (os : List (ℕ × Option Row)) (x cells : Row) (n place : ℕ) → n ≡ length x → place < length cells → column_of (n + place) (with_parts (x ++ cells) os) ≡ column_of place cells
behind_kept os x cells n place e h =
    let size = length-append x cells in
    front_kept os (x ++ cells) (n + place) (omega (arith, e, h, size))
    ∙ ap (λ m. column_of (m + place) (x ++ cells)) e
    ∙ get_or-append-add x cells place c.Null

-- ---- what is found in operands

-- a point of the operand, where it is there
pub record IsFound (u : DataSet → Option Row) (d : DataSet) : Type 0 where
  pub well : IsStructure d.structure
  pub typed : (t : Row) → u d ≡ Some t → is_point (columns_of d.structure) t ≡ true

cells_wide : (ys : List Component) (o : Option Row) → ((t : Row) → o ≡ Some t → is_point ys t ≡ true) → length (cells_or_nulls (length ys) o) ≡ length ys
cells_wide ys None h = point_length (all_loose ys) _ (loose_nulls ys) ∙ length-map ys loose
cells_wide ys (Some t) h = point_length ys t (h t refl)

module _ (u : DataSet → Option Row) where
  abbrev pub founds : List DataSet → List (ℕ × Option Row)
  founds ds = map (λ d. (width_of d.structure, u d)) ds

  abbrev pub parts_found : List DataSet → List Part
  parts_found ds = map (λ d. part_of d (u d)) ds

  wide : (d : DataSet) → IsFound u d → length (cells_or_nulls (width_of d.structure) (u d)) ≡ width_of d.structure
  wide d i = cells_wide (columns_of d.structure) (u d) i.typed

  pub shown_from : (ds : List DataSet) (x : Row) (n : ℕ) → n ≡ length x → AllByRecursion (IsFound u) ds → AllShown (with_parts x (founds ds)) (placed_from n (structures_of ds)) (parts_found ds)
  shown_from [] x n e all = tt
  shown_from (d ∷ ds) x n e all =
      let cells = cells_or_nulls (width_of d.structure) (u d) in
      let size = wide d all.0 in
      let sum = length-append x cells in
      (refl, all.0.well, (λ place h. behind_kept (founds ds) x cells n place e (omega (arith, h, size))), shown_from ds (x ++ cells) (n + width_of d.structure) (omega (arith, e, size, sum)) all.1)

  -- where one stands before all others
  pub shown_around : (r : DataSet) (i : ℕ) (ds : List DataSet) (x : Row) (n : ℕ) → n ≡ length x → slice_get ds i ≡ Some r → Shows (with_parts x (founds (without i ds))) 0 (part_of r (u r)) → AllByRecursion (IsFound u) ds
      → AllShown (with_parts x (founds (without i ds))) (placed_around i n (structures_of ds)) (parts_found ds)
  shown_around r i [] x n e g own all = tt
  shown_around r zero (d ∷ ds) x n e g own all =
      let same : r ≡ d = cc in
      (refl, all.0.well, subst (λ z. Shows (with_parts x (founds ds)) 0 (part_of z (u z))) same own, shown_from ds x n e all.1)
  shown_around r (suc i) (d ∷ ds) x n e g own all =
      let cells = cells_or_nulls (width_of d.structure) (u d) in
      let size = wide d all.0 in
      let sum = length-append x cells in
      (refl, all.0.well, (λ place h. behind_kept (founds (without i ds)) x cells n place e (omega (arith, h, size))), shown_around r i ds (x ++ cells) (n + width_of d.structure) (omega (arith, e, size, sum)) g own all.1)

-- the first source is shown
pub first_shown : (a : Structure) (q : Row) (os : List (ℕ × Option Row)) → is_point (columns_of a) q ≡ true → Shows (with_parts q os) 0 (record { structure = a; point = Some q })
first_shown a q os h place l =
    let long = point_length (columns_of a) q h in
    let same : 0 + place ≡ place = omega arith in
    ap (λ n. column_of n (with_parts q os)) same ∙ front_kept os q place (omega (arith, l, long))

-- ---- the expressions of a joined set

pub from_structures : (n : ℕ) (ss : List Structure) → structures_in (placed_from n ss) ≡ ss
from_structures n [] = refl
from_structures n (a ∷ ss) = ap (λ l. a ∷ l) (from_structures (n + width_of a) ss)

pub around_structures : (i n : ℕ) (ss : List Structure) → structures_in (placed_around i n ss) ≡ ss
around_structures i n [] = refl
around_structures zero n (a ∷ ss) = ap (λ l. a ∷ l) (from_structures n ss)
around_structures (suc i) n (a ∷ ss) = ap (λ l. a ∷ l) (around_structures i (n + width_of a) ss)

module _ (p : Settings) (xs : List Component) (s : Structure) (ids all : List Placed) where
  -- they make the columns of the result
  pub joined_for : AreWell ids → AreWell all → ArePlaced xs ids → ArePlaced xs all → component_kinds (identifiers_of s) ≡ kinds_of_all identifiers_of (structures_in ids) → component_kinds (measures_of s) ≡ kinds_of_all measures_of (structures_in all) → component_kinds (attributes_of s) ≡ kinds_of_all attributes_of (structures_in all)
      → AreFor p (all_loose xs) (joined_exps ids all) (columns_of s)
  joined_for wi wa i a e m t =
      let ks = kinds_of_all identifiers_of (structures_in ids) in
      let ms = kinds_of_all measures_of (structures_in all) in
      let ts = kinds_of_all attributes_of (structures_in all) in
      let kinds : component_kinds (columns_of s) ≡ (ks ++ ms) ++ ts =
      map-append (λ y. y.kind) (identifiers_of s ++ measures_of s) (attributes_of s)
      ∙ ap (λ l. l ++ component_kinds (attributes_of s)) (map-append (λ y. y.kind) (identifiers_of s) (measures_of s) ∙ ap (λ l. l ++ component_kinds (measures_of s)) e ∙ ap (λ l. ks ++ l) m)
      ∙ ap (λ l. (ks ++ ms) ++ l) t in
      for_kinds p (all_loose xs) (joined_exps ids all) ((ks ++ ms) ++ ts) (columns_of s) kinds
      (of_kinds_append p (all_loose xs) (columns_in identifiers_of ids ++ columns_in measures_of all) (columns_in attributes_of all) (ks ++ ms) ts
      (of_kinds_append p (all_loose xs) (columns_in identifiers_of ids) (columns_in measures_of all) ks ms (columns_kinds p xs identifiers_of are_identifiers_part ids wi i) (columns_kinds p xs measures_of are_measures_part all wa a))
      (columns_kinds p xs attributes_of are_attributes_part all wa a))

-- and have the values of a tuple's point
pub joined_values : (p : Settings) (l : Row) (ids all : List Placed) (qs : List Part) (t : Tuple) → AllShown l ids qs → AllShown l all t.parts → flat_map (λ q. values_or_nulls q.structure (identifiers_of q.structure) q.point) qs ≡ t.identifiers → point_of p (joined_exps ids all) l ≡ tuple_point t
joined_values p l ids all qs t i a e =
    map-append (λ z. _) (columns_in identifiers_of ids ++ columns_in measures_of all) (columns_in attributes_of all)
    ∙ ap (λ r. r ++ point_of p (columns_in attributes_of all) l)
    (map-append (λ z. _) (columns_in identifiers_of ids) (columns_in measures_of all)
    ∙ ap (λ r. r ++ point_of p (columns_in measures_of all) l) (parts_values p l identifiers_of are_identifiers_part ids qs i ∙ e)
    ∙ ap (λ r. t.identifiers ++ r) (parts_values p l measures_of are_measures_part all t.parts a))
    ∙ ap (λ r. (t.identifiers ++ flat_map (λ q. values_or_nulls q.structure (measures_of q.structure) q.point) t.parts) ++ r) (parts_values p l attributes_of are_attributes_part all t.parts a)
