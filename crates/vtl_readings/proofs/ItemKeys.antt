-- The identifiers of an item's point at a combination: read by name they are the item and the combination, and the operand's point of an
-- item has them.
use Rattle.std.proofs.Common.{◌≡◌, ◌≤◌, ℕ, zero, suc, Bool, true, false, not, ◌||◌, cond, List, [], ◌∷◌, length, map, take, refl, sym, ap, ◌∙◌, subst, arith}
use Rattle.std.specs.List.{AllByRecursion, filter}
use Rattle.std.proofs.lemmas.Bool.{and_parts}
use Rattle.std.proofs.lemmas.List.{append-nil, length-map, take_all}
use Rattle.vtl_lists.specs.Apart.{all_apart}
use Rattle.vtl_lists.proofs.Aparts.{all_apart-filter}
use Rattle.vtl_lists.proofs.Sorts.{AllByRecursion-filter}
use Rattle.vtl_lists.proofs.Alls.{all_both, all_filtered}
use Rattle.vtl_cell.specs.Order.{same_cell}
use Rattle.vtl_cell.specs.Row.{Row, column_of, same_row}
use Rattle.vtl_cell.specs.declared.cell.Cell.{Cell}
use Rattle.vtl_cell.specs.declared.cell.Cell.TheVariants as c
use Rattle.vtl_cell.specs.declared.kind.Kind.{Kind}
use Rattle.vtl_cell.specs.declared.kind.Kind.TheVariants as k
use Rattle.vtl_cell.proofs.Cells.{same_cell-is}
use Rattle.vtl_cell.proofs.Rows.{same_row-is}
use Rattle.vtl_tree.specs.Columns.{identifiers_of, place_of}
use Rattle.vtl_tree.specs.DataSet.{is_point}
use Rattle.vtl_tree.specs.Names.{is_among}
use Rattle.vtl_tree.specs.Structure.{IsStructure, columns_of, key_width, names_of, same_name}
use Rattle.vtl_tree.specs.declared.structure.Component.{Component}
use Rattle.vtl_tree.specs.declared.structure.Structure.{Structure}
use Rattle.vtl_tree.proofs.NotNullLemmas.{same_itself}
use Rattle.vtl_tuples.proofs.Lists.{map_same}
use Rattle.vtl_meaning.specs.Agreement.{values_in}
use Rattle.vtl_meaning.specs.LookUps.{value_named, values_named}
use Rattle.vtl_meaning.specs.Made.{HasIdentifiers, IsColumnAt}
use Rattle.vtl_meaning.specs.Turned.{is_coded, other_identifiers}
use Rattle.vtl_meaning.proofs.JoinKept.{apart_map}
use Rattle.vtl_meaning.proofs.Kept.{alike_cells}
use Rattle.vtl_meaning.proofs.LookUps.{named_cells}
use Rattle.vtl_meaning.proofs.Places.{first_cells, identifiers_apart, key_cells, key_within, point_length, same_name-sym}
use Rattle.vtl_meaning.proofs.TurnedKept.{others_are}
use Rattle.vtl_meaning.proofs.TurnedOrders.{alike_others}
use Rattle.vtl_rulings.specs.HierarchyChecks.{key_at, key_cell}
use Rattle.vtl_rulings.proofs.HierarchyKeys.{each_same}

column_there : (P : Component → Type 0) (place : ℕ) (name : List ℕ) (kind : Kind) (xs : List Component) → IsColumnAt place name kind xs → AllByRecursion P xs → (y : Component) × (y.name ≡ name) × P y
column_there P place name kind [] at h = absurd at
column_there P zero name kind (x ∷ xs) at h = (x, at.0, h.0)
column_there P (suc place) name kind (x ∷ xs) at h = column_there P place name kind xs at h.1

other_name : (b : Bool) → not (b || false) ≡ true → b ≡ false
other_name true f = sym f
other_name false f = refl

module _ (id : List ℕ) (a : Structure) (w : IsStructure a) where
  abbrev ids : List Component
  ids = identifiers_of a

  abbrev others : List Component
  others = other_identifiers id a

  abbrev is_other : Component → Bool
  is_other y = not (is_among y.name (id ∷ []))

  others_is : others ≡ filter is_other ids
  others_is = others_are id a.components

  -- the values of the other identifiers, by their names
  whole : (row : Row) → is_point others row ≡ true → values_named others others row ≡ row
  whole row t =
      let namesakes : Component → Component → Bool = λ x y. same_name x.name y.name in
      let apart : all_apart same_name (names_of others) ≡ true = apart_map (λ x. x.name) same_name others ∙ ap (all_apart namesakes) others_is ∙ all_apart-filter namesakes is_other ids (sym (apart_map (λ x. x.name) same_name ids) ∙ identifiers_apart a w) in
      let size = point_length others row t in
      sym (named_cells others others row) ∙ ap (λ xs. map (λ i. column_of i row) (map (λ y. place_of y.name xs) others)) (sym (append-nil others)) ∙ first_cells others [] row apart (omega (arith, size)) ∙ take_all (length others) row (omega (arith, size))

  -- a row of a structure with the same identifiers that begins with those of an item's point
  module _ (s : Structure) (v : IsStructure s) (same : HasIdentifiers s ids) (row : Row) (item : List ℕ) (q : Row) (len : key_width s ≤ length q) (e : take (key_width s) q ≡ key_at id a row item) where
    abbrev cell_at : Component → Cell
    cell_at y = key_cell id others row item y

    abbrev read : Component → Cell
    read y = value_named (columns_of s) q y.name

    all_read : AllByRecursion (λ y. read y ≡ cell_at y) ids
    all_read = each_same read cell_at ids (sym (named_cells (columns_of s) ids q) ∙ key_cells s a q v (sym same.0, sym same.1) len ∙ e)

    pub item_read : IsColumnAt (place_of id ids) id k.Text ids → value_named (columns_of s) q id ≡ c.Text item
    item_read coded =
        let there = column_there (λ y. read y ≡ cell_at y) (place_of id ids) id k.Text ids coded all_read in
        let is : same_name there.0.name id ≡ true = ap (λ l. same_name l id) there.1 ∙ same_itself id in
        ap (value_named (columns_of s) q) (sym there.1) ∙ there.2 ∙ ap (λ b. cond b (c.Text item) (value_named others row there.0.name)) is

    pub row_read : is_point others row ≡ true → values_in s others q ≡ row
    row_read t =
        let Read : Component → Type 0 = λ y. read y ≡ cell_at y in
        let value : Component → Cell = λ y. value_named others row y.name in
        let all = subst (AllByRecursion Read) (sym others_is) (AllByRecursion-filter Read is_other ids all_read) in
        let passed = subst (AllByRecursion (λ y. is_other y ≡ true)) (sym others_is) (all_filtered is_other ids) in
        let cells = all_both (λ y. is_other y ≡ true) Read (λ y. read y ≡ value y) (λ y f g. g ∙ ap (λ b. cond b (c.Text item) (value y)) (same_name-sym y.name id ∙ other_name (same_name id y.name) f)) others passed all in
        map_same read value others cells ∙ whole row t

  -- the operand's point of an item at a combination
  pub key_of_item : IsColumnAt (place_of id ids) id k.Text ids → (row : Row) (item : List ℕ) (r : Row) → is_point others row ≡ true → is_point (columns_of a) r ≡ true → is_coded a id row item r ≡ true → take (key_width a) r ≡ key_at id a row item
  key_of_item coded row item r t h e =
      let key = key_at id a row item in
      let size : length key ≡ key_width a = length-map ids (key_cell id others row item) in
      let within : key_width a ≤ length key = omega (arith, size) in
      let all_of_it : take (key_width a) key ≡ key = take_all (key_width a) key (omega (arith, size)) in
      let parts = and_parts (same_row (values_in a others r) row) (same_cell (value_named (columns_of a) r id) (c.Text item)) e in
      let one : value_named (columns_of a) r id ≡ value_named (columns_of a) key id = same_cell-is (value_named (columns_of a) r id) (c.Text item) parts.1 ∙ sym (item_read a w (refl, refl) row item key within all_of_it coded) in
      let rest : values_in a others r ≡ values_in a others key = same_row-is (values_in a others r) row parts.0 ∙ sym (row_read a w (refl, refl) row item key within all_of_it t) in
      let all = alike_others id (columns_of a) r key ids one (subst (λ ys. values_in a ys r ≡ values_in a ys key) (others_are id a.components) rest) in
      sym (key_cells a a r w (refl, refl) (key_within a r h)) ∙ alike_cells (columns_of a) r key ids all ∙ key_cells a a key w (refl, refl) within ∙ all_of_it
