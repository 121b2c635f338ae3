-- `pivot` and `unpivot` do not depend on the order of points.
use Rattle.std.proofs.Common.{◌≡◌, ℕ, Bool, true, false, not, cond, ◌||◌, List, [], ◌∷◌, ◌++◌, map, take, refl, sym, ap, ◌∙◌, subst}
use Rattle.std.specs.List.{AllByRecursion, filter}
use Rattle.std.specs.Option.{option_map_or}
use Rattle.std.proofs.lemmas.Bool.{and_parts}
use Rattle.vtl_cell.specs.Order.{same_cell}
use Rattle.vtl_lists.specs.Perm.{Perm, chain}
use Rattle.vtl_cell.specs.Row.{Row, same_key, same_row}
use Rattle.vtl_cell.specs.declared.cell.Cell.TheVariants as c
use Rattle.vtl_cell.proofs.Cells.{same_cell-is}
use Rattle.vtl_lists.proofs.Perms.{Perm-flat_map, Perm-map, Perm-same}
use Rattle.vtl_cell.proofs.Rows.{same_row-is, same_row-refl}
use Rattle.vtl_tree.specs.DataSet.{IsDataSet, is_point}
use Rattle.vtl_tree.specs.Structure.{columns_of, key_width, same_name}
use Rattle.vtl_tree.specs.declared.structure.Component.{Component}
use Rattle.vtl_tree.specs.declared.structure.Structure.{Structure}
use Rattle.vtl_tuples.specs.Keys.{each_once}
use Rattle.vtl_tuples.proofs.Lists.{map_each}
use Rattle.vtl_tree.specs.Names.{is_among}
use Rattle.vtl_meaning.specs.Agreement.{values_in}
use Rattle.vtl_tree.specs.Columns.{identifiers_of}
use Rattle.vtl_meaning.specs.LookUps.{value_named, values_named}
use Rattle.vtl_meaning.specs.Points.{with_points}
use Rattle.vtl_meaning.specs.Turned.{coded_value, codes_of, is_coded, other_identifiers, pivot_of, pivoted_point, unpivot_of, unpivoted_points}
use Rattle.vtl_meaning.proofs.JoinAgreements.{only_one}
use Rattle.vtl_meaning.proofs.JoinOrders.{find_respects, once_respects, rows_apart}
use Rattle.vtl_meaning.proofs.Kept.{Alike, alike_cells}
use Rattle.vtl_meaning.proofs.Places.{key_cells, key_within, same_name-is}
use Rattle.vtl_meaning.proofs.TurnedKept.{others_are}

-- rows that have the same value of one identifier and the same values of the others
pub alike_others : (id : List ℕ) (xs : List Component) (r t : Row) (ys : List Component) → value_named xs r id ≡ value_named xs t id → values_named xs (filter (λ y. not (is_among y.name (id ∷ []))) ys) r ≡ values_named xs (filter (λ y. not (is_among y.name (id ∷ []))) ys) t
    → AllByRecursion (λ y. Alike xs r t y.name) ys
alike_others id xs r t [] one others = tt
alike_others id xs r t (y ∷ ys) one others = go (same_name id y.name) refl others (alike_others id xs r t ys one)
  where
    left : List Component
    left = filter (λ z. not (is_among z.name (id ∷ []))) ys

    go : (b : Bool) → same_name id y.name ≡ b → values_named xs (cond (not (b || false)) (y ∷ left) left) r ≡ values_named xs (cond (not (b || false)) (y ∷ left) left) t
        → (values_named xs left r ≡ values_named xs left t → AllByRecursion (λ z. Alike xs r t z.name) ys) → AllByRecursion (λ z. Alike xs r t z.name) (y ∷ ys)
    go true e f ih = (subst (Alike xs r t) (same_name-is id y.name e) one, ih f)
    go false e f ih =
        let here : Alike xs r t y.name = cc in
        let rest : values_named xs left r ≡ values_named xs left t = cc in
        (here, ih rest)

-- a point of a data set is one for its code and the values of the other identifiers
module _ (a : Structure) (id : List ℕ) (d : List Row) (h : IsDataSet a d) where
  one_key : (k : Row) (code : List ℕ) (r t : Row) → is_point (columns_of a) r ≡ true → is_point (columns_of a) t ≡ true → is_coded a id k code r ≡ true → is_coded a id k code t ≡ true → same_key (key_width a) r t ≡ true
  one_key k code r t i j e f =
      let ids = other_identifiers id a in
      let left = and_parts (same_row (values_in a ids r) k) (same_cell (value_named (columns_of a) r id) (c.Text code)) e in
      let right = and_parts (same_row (values_in a ids t) k) (same_cell (value_named (columns_of a) t id) (c.Text code)) f in
      let others : values_in a ids r ≡ values_in a ids t = same_row-is (values_in a ids r) k left.0 ∙ sym (same_row-is (values_in a ids t) k right.0) in
      let one : value_named (columns_of a) r id ≡ value_named (columns_of a) t id = same_cell-is (value_named (columns_of a) r id) (c.Text code) left.1 ∙ sym (same_cell-is (value_named (columns_of a) t id) (c.Text code) right.1) in
      let all = alike_others id (columns_of a) r t (identifiers_of a) one (subst (λ ys. values_in a ys r ≡ values_in a ys t) (others_are id a.components) others) in
      let keys : take (key_width a) r ≡ take (key_width a) t =
      sym (key_cells a a r h.well_formed (refl, refl) (key_within a r i)) ∙ alike_cells (columns_of a) r t (identifiers_of a) all ∙ key_cells a a t h.well_formed (refl, refl) (key_within a t j) in
      ap (same_row (take (key_width a) r)) (sym keys) ∙ same_row-refl (take (key_width a) r)

  module _ (e : List Row) (p : Perm d e) (m : List ℕ) where
    coded_respects : (k : Row) (code : List ℕ) → coded_value (with_points a d) id m k code ≡ coded_value (with_points a e) id m k code
    coded_respects k code =
        ap (λ o. option_map_or (λ r. value_named (columns_of a) r m) o c.Null)
        (find_respects (is_coded a id k code) d e p (only_one (λ r. is_point (columns_of a) r ≡ true) (same_key (key_width a)) (is_coded a id k code) d h.typed h.distinct (one_key k code)))

    pub pivot_order : Perm (pivot_of (with_points a d) id m) (pivot_of (with_points a e) id m)
    pivot_order =
        let f = values_in a (other_identifiers id a) in
        let old = pivoted_point (with_points a d) id m in
        let new = pivoted_point (with_points a e) id m in
        let same : (k : Row) → old k ≡ new k = λ k. ap (λ vs. k ++ vs) (map_each (coded_value (with_points a d) id m k) (coded_value (with_points a e) id m k) (coded_respects k) (codes_of id a)) in
        chain (Perm-map old (once_respects same_row rows_apart (Perm-map f p))) (Perm-same (map old (each_once same_row (map f e))) (map new (each_once same_row (map f e))) (map_each old new same (each_once same_row (map f e))))

pub unpivot_order : (a : Structure) (d e : List Row) → Perm d e → Perm (unpivot_of (with_points a d)) (unpivot_of (with_points a e))
unpivot_order a d e p = Perm-flat_map (unpivoted_points a) p
