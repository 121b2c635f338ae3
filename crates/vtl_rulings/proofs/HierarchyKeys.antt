-- The identifiers of an item's point at a combination, and what there is of the items there.
use Rattle.std.proofs.Common.{◌≡◌, ℕ, zero, suc, Bool, true, false, not, ◌&&◌, ◌||◌, cond, List, [], ◌∷◌, length, map, Option, Some, None, refl, sym, ap, ◌∙◌, subst, arith}
use Rattle.std.specs.Prelude.{IfSome, option_map}
use Rattle.std.specs.List.{AllByRecursion, filter, find}
use Rattle.std.proofs.lemmas.List.{append-nil, take_all}
use Rattle.std.proofs.lemmas.Bool.{not-true}
use Rattle.vtl_lists.specs.Apart.{all_apart}
use Rattle.vtl_lists.proofs.Aparts.{all_apart-filter}
use Rattle.vtl_lists.proofs.Sorts.{AllByRecursion-filter, AllByRecursion-map}
use Rattle.vtl_lists.proofs.Alls.{all_both, all_filtered, all_from_filtered, all_more}
use Rattle.vtl_cell.specs.Kinds.{is_null}
use Rattle.vtl_cell.specs.Row.{Row, column_of, same_row}
use Rattle.vtl_cell.specs.declared.cell.Cell.{Cell}
use Rattle.vtl_cell.specs.declared.cell.Cell.TheVariants as c
use Rattle.vtl_cell.specs.declared.kind.Kind.{Kind}
use Rattle.vtl_cell.specs.declared.kind.Kind.TheVariants as k
use Rattle.vtl_tree.specs.Columns.{identifiers_of, place_of}
use Rattle.vtl_tree.specs.DataSet.{IsDataSet, is_point}
use Rattle.vtl_tree.specs.Names.{is_among}
use Rattle.vtl_tree.specs.Structure.{IsStructure, columns_of, names_of, same_name, same_role}
use Rattle.vtl_tree.specs.declared.structure.Component.{Component}
use Rattle.vtl_tree.specs.declared.structure.Role.TheVariants as role
use Rattle.vtl_tree.specs.declared.structure.Structure.{Structure}
use Rattle.vtl_tree.proofs.NotNullLemmas.{same_itself}
use Rattle.vtl_meaning.specs.Agreement.{values_in}
use Rattle.vtl_meaning.specs.LookUps.{value_named, values_named}
use Rattle.vtl_meaning.specs.Made.{AreAmong, IsColumnAt}
use Rattle.vtl_meaning.specs.Points.{with_points}
use Rattle.vtl_meaning.specs.Turned.{is_coded, other_identifiers}
use Rattle.vtl_tuples.proofs.Onces.{once_hold}
use Rattle.vtl_meaning.proofs.JoinKept.{apart_map}
use Rattle.vtl_meaning.proofs.JoinParts.{found_is}
use Rattle.vtl_meaning.proofs.LookUps.{named_cells}
use Rattle.vtl_meaning.proofs.OwnColumns.{own_among, own_identifiers}
use Rattle.vtl_meaning.proofs.Places.{IsIdentifier, first_cells, identifiers_apart, point_length, same_name-is, same_name-sym}
use Rattle.vtl_meaning.proofs.TurnedKept.{other_key_is, others_are, others_identify}
use Rattle.vtl_meaning.proofs.ValueKinds.{IsOf, cell_is_of, point_from, point_parts}
use Rattle.vtl_rulings.specs.HierarchyChecks.{Ruled, combinations, items_at, key_at, key_cell}
use Rattle.vtl_rulings.specs.HierarchyShapes.{IsItemized}
use Rattle.vtl_rulings.proofs.SideKinds.{AreOf}

-- ---- lists
pub each_same : (f g : Component → Cell) (ys : List Component) → map f ys ≡ map g ys → AllByRecursion (λ y. f y ≡ g y) ys
each_same f g [] e = tt
each_same f g (y ∷ ys) e =
    let here : f y ≡ g y = cc in
    let rest : map f ys ≡ map g ys = cc in
    (here, each_same f g ys rest)

all_same : (f g : Component → Cell) (ys : List Component) → AllByRecursion (λ y. f y ≡ g y) ys → map f ys ≡ map g ys
all_same f g [] h = refl
all_same f g (y ∷ ys) h = ap (λ v. v ∷ map f ys) h.0 ∙ ap (λ l. g y ∷ l) (all_same f g ys h.1)

-- ---- columns
pub one_kind : (place : ℕ) (name : List ℕ) (a b : Kind) (xs : List Component) → IsColumnAt place name a xs → IsColumnAt place name b xs → a ≡ b
one_kind place name a b [] h i = absurd h
one_kind zero name a b (x ∷ xs) h i = sym h.1 ∙ i.1
one_kind (suc place) name a b (x ∷ xs) h i = one_kind place name a b xs h i

-- no identifier is null
filled : (place : ℕ) (name : List ℕ) (kind : Kind) (xs : List Component) (r : Row) → IsColumnAt place name kind xs → AllByRecursion IsIdentifier xs → is_point xs r ≡ true → is_null (column_of place r) ≡ false
filled place name kind [] r h all t = absurd h
filled zero name kind (x ∷ xs) [] h all t = cc
filled zero name kind (x ∷ xs) (v ∷ r) h all t = not-true (is_null v) (sym (ap (λ b. not (b && is_null v)) all.0) ∙ (point_parts x xs v r t).1)
filled (suc place) name kind (x ∷ xs) [] h all t = cc
filled (suc place) name kind (x ∷ xs) (v ∷ r) h all t = filled place name kind xs r h all.1 (point_parts x xs v r t).2

never_null : (b n : Bool) → n ≡ false → not (b && n) ≡ true
never_null true n e = ap not e
never_null false n e = refl

-- ---- keys
module _ (id : List ℕ) (a : Structure) (w : IsStructure a) where
  abbrev ids : List Component
  ids = identifiers_of a

  abbrev others : List Component
  others = other_identifiers id a

  abbrev is_other : Component → Bool
  is_other y = not (is_among y.name (id ∷ []))

  others_is : others ≡ filter is_other ids
  others_is = others_are id a.components

  others_apart : all_apart same_name (names_of others) ≡ true
  others_apart =
      let namesakes : Component → Component → Bool = λ x y. same_name x.name y.name in
      apart_map (λ x. x.name) same_name others ∙ ap (all_apart namesakes) others_is ∙ all_apart-filter namesakes is_other ids (sym (apart_map (λ x. x.name) same_name ids) ∙ identifiers_apart a w)

  others_own : AreAmong others others
  others_own = own_among others others_apart

  abbrev cell_at : Row → (item : List ℕ) → Component → Cell
  cell_at row item y = key_cell id others row item y

  abbrev Fits : Row → (item : List ℕ) → Component → Type 0
  Fits row item y = IsOf y.kind (cell_at row item y) × (is_null (cell_at row item y) ≡ false)

  module _ (coded : IsColumnAt (place_of id ids) id k.Text ids) where
    cell_fits : (row : Row) (item : List ℕ) → is_point others row ≡ true → (y : Component) → IsColumnAt (place_of y.name ids) y.name y.kind ids → (is_other y ≡ true → IsColumnAt (place_of y.name others) y.name y.kind others) → Fits row item y
    cell_fits row item t y own other = go (same_name y.name id) refl
      where
        go : (b : Bool) → same_name y.name id ≡ b → IsOf y.kind (cond b (c.Text item) (value_named others row y.name)) × (is_null (cond b (c.Text item) (value_named others row y.name)) ≡ false)
        go true e =
            let same : y.name ≡ id = same_name-is y.name id e in
            let text : k.Text ≡ y.kind = one_kind (place_of id ids) id k.Text y.kind ids coded (subst (λ n. IsColumnAt (place_of n ids) n y.kind ids) same own) in
            (subst (λ z. IsOf z (c.Text item)) text refl, refl)
        go false e =
            let at = other (ap (λ b. not (b || false)) (same_name-sym id y.name ∙ e)) in
            (cell_is_of (place_of y.name others) y.name y.kind others row at t, filled (place_of y.name others) y.name y.kind others row at (others_identify id a) t)

    all_fit : (row : Row) (item : List ℕ) → is_point others row ≡ true → AllByRecursion (Fits row item) ids
    all_fit row item t =
        let Own : Component → Type 0 = λ y. IsColumnAt (place_of y.name ids) y.name y.kind ids in
        let Other : Component → Type 0 = λ y. IsColumnAt (place_of y.name others) y.name y.kind others in
        all_both Own (λ y. is_other y ≡ true → Other y) (Fits row item) (cell_fits row item t) ids (own_identifiers a w) (all_from_filtered Other is_other ids (subst (AllByRecursion Other) others_is others_own))

    pub key_is_point : (row : Row) (item : List ℕ) → is_point others row ≡ true → is_point ids (key_at id a row item) ≡ true
    key_is_point row item t = go ids (all_fit row item t)
      where
        go : (ys : List Component) → AllByRecursion (Fits row item) ys → is_point ys (map (cell_at row item) ys) ≡ true
        go [] h = refl
        go (y ∷ ys) h = point_from y ys (cell_at row item y) (map (cell_at row item) ys) h.0.0 (never_null (same_role y.role role.Identifier) (is_null (cell_at row item y)) h.0.1) (go ys h.1)

  -- the values of the other identifiers are read back
  whole : (row : Row) → is_point others row ≡ true → values_named others others row ≡ row
  whole row t =
      let size = point_length others row t in
      sym (named_cells others others row) ∙ ap (λ xs. map (λ i. column_of i row) (map (λ y. place_of y.name xs) others)) (sym (append-nil others)) ∙ first_cells others [] row others_apart (omega (arith, size)) ∙ take_all (length others) row (omega (arith, size))

  named : (row : Row) (item : List ℕ) (y : Component) → is_other y ≡ true → cell_at row item y ≡ value_named others row y.name
  named row item y e = ap (λ b. cond b (c.Text item) (value_named others row y.name)) (same_name-sym y.name id ∙ other_name (same_name id y.name) e)
    where
      other_name : (b : Bool) → not (b || false) ≡ true → b ≡ false
      other_name true f = sym f
      other_name false f = refl

  pub key_back : (row other : Row) (item name : List ℕ) → is_point others row ≡ true → is_point others other ≡ true → key_at id a row item ≡ key_at id a other name → row ≡ other
  key_back row other item name t u e =
      let Same : Component → Type 0 = λ y. cell_at row item y ≡ cell_at other name y in
      let all = subst (AllByRecursion Same) (sym others_is) (AllByRecursion-filter Same is_other ids (each_same (cell_at row item) (cell_at other name) ids e)) in
      let passed = subst (AllByRecursion (λ y. is_other y ≡ true)) (sym others_is) (all_filtered is_other ids) in
      let values = all_both (λ y. is_other y ≡ true) Same (λ y. value_named others row y.name ≡ value_named others other y.name) (λ y p q. sym (named row item y p) ∙ q ∙ named other name y p) others passed all in
      sym (whole row t) ∙ all_same (λ y. value_named others row y.name) (λ y. value_named others other y.name) others values ∙ whole other u

  -- and so is the item
  column_there : (P : Component → Type 0) (place : ℕ) (name : List ℕ) (kind : Kind) (xs : List Component) → IsColumnAt place name kind xs → AllByRecursion P xs → (y : Component) × (y.name ≡ name) × P y
  column_there P place name kind [] at h = absurd at
  column_there P zero name kind (x ∷ xs) at h = (x, at.0, h.0)
  column_there P (suc place) name kind (x ∷ xs) at h = column_there P place name kind xs at h.1

  pub item_back : (row other : Row) (item name : List ℕ) → IsColumnAt (place_of id ids) id k.Text ids → key_at id a row item ≡ key_at id a other name → item ≡ name
  item_back row other item name coded e =
      let there = column_there (λ y. cell_at row item y ≡ cell_at other name y) (place_of id ids) id k.Text ids coded (each_same (cell_at row item) (cell_at other name) ids e) in
      let is : same_name there.0.name id ≡ true = ap (λ l. same_name l id) there.1 ∙ same_itself id in
      let texts : c.Text item ≡ c.Text name = sym (ap (λ b. cond b (c.Text item) (value_named others row there.0.name)) is) ∙ there.2 ∙ ap (λ b. cond b (c.Text name) (value_named others other there.0.name)) is in
      cc

-- ---- combinations
pub combinations_typed : (id : List ℕ) (a : Structure) (d : List Row) → IsDataSet a d → AllByRecursion (λ row. is_point (other_identifiers id a) row ≡ true) (combinations id (with_points a d))
combinations_typed id a d set =
    let P : Row → Type 0 = λ row. is_point (other_identifiers id a) row ≡ true in
    let f = values_in a (other_identifiers id a) in
    once_hold P same_row (map f d) (AllByRecursion-map f P d (all_more (λ r. is_point (columns_of a) r ≡ true) (λ r. P (f r)) (λ r t. other_key_is id a r set.well_formed t) d set.typed))

pub items_are : (h : Ruled) (a : Structure) (d : List Row) → IsItemized h a → IsDataSet a d → (row : Row) → AreOf h.kind (items_at h (with_points a d) row)
items_are h a d i set row name = go (find (is_coded a h.id row name) d) refl
  where
    go : (found : Option Row) → find (is_coded a h.id row name) d ≡ found → IfSome (option_map (λ r. value_named (columns_of a) r h.measure) found) (IsOf h.kind)
    go None e = tt
    go (Some r) e = cell_is_of (place_of h.measure (columns_of a)) h.measure h.kind (columns_of a) r i.measured (found_is (λ z. is_point (columns_of a) z ≡ true) (is_coded a h.id row name) d r set.typed e)
