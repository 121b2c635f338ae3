-- The computed points of an item, from a table of its values.
use Rattle.std.proofs.Common.{◌≡◌, ◌+◌, ℕ, Bool, true, false, cond, List, [], ◌∷◌, ◌++◌, length, map, None, Ok, refl, sym, ap, ◌∙◌, subst, arith}
use Rattle.std.specs.List.{AllByRecursion}
use Rattle.std.proofs.lemmas.List.{get_or-append-add, get_or_append_left}
use Rattle.vtl_lists.proofs.Alls.{all_append, all_each}
use Rattle.vtl_decimal.specs.Settings.{Settings}
use Rattle.vtl_cell.specs.Held.{IsHeld as IsHeldCell}
use Rattle.vtl_cell.specs.Literals.{is_null_kind}
use Rattle.vtl_cell.specs.Row.{Row, column_of}
use Rattle.vtl_cell.specs.declared.cell.Cell.{Cell}
use Rattle.vtl_cell.specs.declared.cell.Cell.TheVariants as c
use Rattle.vtl_tree.specs.Columns.{column_named, identifiers_of, others_of, place_of}
use Rattle.vtl_tree.specs.CompExp.{CompExp, const}
use Rattle.vtl_tree.specs.DataSet.{is_point}
use Rattle.vtl_tree.specs.Kinds.{exp_kind}
use Rattle.vtl_tree.specs.Measures.{made}
use Rattle.vtl_tree.specs.Structure.{columns_of, same_name}
use Rattle.vtl_tree.specs.Value.{value}
use Rattle.vtl_tree.specs.declared.structure.Component.{Component}
use Rattle.vtl_tree.specs.declared.structure.Role.TheVariants as role
use Rattle.vtl_tree.specs.declared.structure.Structure.{Structure}
use Rattle.vtl_meaning.specs.LookUps.{value_named}
use Rattle.vtl_meaning.specs.Made.{AreFor, HasIdentifiers, IsColumnAt, IsTyped, component_kinds}
use Rattle.vtl_meaning.specs.Points.{cell_or_null, each_point, point_fault, point_of}
use Rattle.vtl_meaning.proofs.Kept.{column_front, column_within, place_front}
use Rattle.vtl_meaning.proofs.OwnColumns.{columns_apart}
use Rattle.vtl_meaning.proofs.Places.{point_length}
use Rattle.vtl_rulings.specs.HierarchyChecks.{Ruled, key_at, key_cell}
use Rattle.sql_tree.specs.Formed.{IsName}
use Rattle.sql_tree.specs.Trees.{Text}
use Rattle.sql_meaning.specs.Scripts.{Data}
use Rattle.selects_to_sql.specs.Queries.{first_alias, of_one, select_of, source_as}
use Rattle.selects_to_sql.specs.Runs.{IsTable}
use Rattle.selects_to_sql.specs.Writable.{AllCanBeWritten, CanBeWritten, HaveNames}
use Rattle.selects_to_sql.proofs.Expressions.{Translates}
use Rattle.selects_to_sql.proofs.Givens.{AreGiven}
use Rattle.selects_to_sql.proofs.OneOperand.{kind_at, rows_give, rows_there}
use Rattle.selects_to_sql.proofs.SelectItems.{GivesRows, gives_same}
use Rattle.rules_to_sql.proofs.Columns.{for_append, for_like, kinds_behind, points_append}
use Rattle.rules_to_sql.proofs.Lists.{each_sure}
use Rattle.hierarchies_to_sql.specs.ComputedTables.{points_exps}
use Rattle.hierarchies_to_sql.specs.ItemTables.{key_exp}
use Rattle.hierarchies_to_sql.proofs.ItemColumns.{IsSided, behind, item_columns, item_is_structure, item_named, measure_place, others, t}
use Rattle.hierarchies_to_sql.proofs.ItemTables.{item_row}
use Rattle.hierarchies_to_sql.proofs.SideColumns.{IsId, are_ids, ids_written}

module _ (p : Settings) (h : Ruled) (a : Structure) (is : IsSided h a) (item : List ℕ) where
  abbrev T : Structure
  T = t h a is

  abbrev ts : List Component
  ts = columns_of T

  abbrev ks : List Component
  ks = others h a is

  abbrev ids : List Component
  ids = identifiers_of a

  abbrev es : List CompExp
  es = points_exps h a item

  abbrev key : List CompExp
  key = map (key_exp h.id ts item) ids

  abbrev measure : CompExp
  measure = column_named ts h.measure

  -- ---- columns

  other_there : (y : Component) → IsColumnAt (place_of y.name ks) y.name y.kind ks → (place_of y.name ts ≡ place_of y.name ks) × IsColumnAt (place_of y.name ts) y.name y.kind ts
  other_there y i =
      let low = column_within (place_of y.name ks) y.name y.kind ks i in
      let same : place_of y.name ts ≡ place_of y.name ks = ap (place_of y.name) (item_columns h a is) ∙ place_front y.name ks (behind h a is) low in
      (same, subst (λ n. IsColumnAt n y.name y.kind ts) (sym same) (subst (IsColumnAt (place_of y.name ks) y.name y.kind) (sym (item_columns h a is)) (column_front (place_of y.name ks) y.name y.kind ks (behind h a is) i)))

  named_typed : (name : List ℕ) (y : Component) → IsColumnAt (place_of y.name ts) y.name y.kind ts → IsTyped p ts (column_named ts y.name) × (exp_kind (column_named ts y.name) ≡ y.kind)
  named_typed name y i =
      let kind = kind_at (place_of y.name ts) y.name y.kind ts i (columns_apart T (item_is_structure h a is)) in
      (subst (λ q. IsColumnAt (place_of y.name ts) y.name q ts) (sym kind) i, kind)

  key_typed : (y : Component) → IsId p h a is y → IsTyped p ts (key_exp h.id ts item y) × (exp_kind (key_exp h.id ts item y) ≡ y.kind)
  key_typed y i = go (same_name y.name h.id) refl
    where
      go : (b : Bool) → same_name y.name h.id ≡ b → IsTyped p ts (cond b (const (c.Text item)) (column_named ts y.name)) × (exp_kind (cond b (const (c.Text item)) (column_named ts y.name)) ≡ y.kind)
      go true e = (tt, i.coded e)
      go false e = named_typed item y (other_there y (i.kept e).0).1

  keys_for : (ys : List Component) → AllByRecursion (IsId p h a is) ys → AreFor p ts (map (key_exp h.id ts item) ys) ys
  keys_for [] all = tt
  keys_for (y ∷ ys) all = let one = key_typed y all.0 in (one.0, one.1, keys_for ys all.1)

  measure_there : IsColumnAt (place_of h.measure ts) h.measure h.kind ts
  measure_there =
      subst (λ n. IsColumnAt n h.measure h.kind ts) (sym (measure_place h a is))
      (subst (IsColumnAt (length ks) h.measure h.kind) (sym (item_columns h a is)) (go ks))
    where
      go : (xs : List Component) → IsColumnAt (length xs) h.measure h.kind (xs ++ behind h a is)
      go [] = (refl, refl)
      go (x ∷ xs) = go xs

  exps_for : (s : Structure) → HasIdentifiers s ids → component_kinds (others_of s) ≡ h.kind ∷ [] → AreFor p ts es (columns_of s)
  exps_for s i others =
      let y = made h.measure role.Measure h.kind in
      let one = named_typed item y measure_there in
      for_like p ts es (ids ++ (y ∷ [])) (columns_of s) (kinds_behind s ids (y ∷ []) i others)
      (for_append p ts key (measure ∷ []) ids (y ∷ []) (keys_for ids (are_ids p h a is)) (one.0, one.1, tt))

  exps_written : IsHeldCell (c.Text item) → AllCanBeWritten es
  exps_written writable = all_append CanBeWritten key (measure ∷ []) (ids_written h.id ts item writable ids) (record { constants = tt; shallow = omega arith }, tt)

  -- ---- points

  quiet : (r : Row) → point_fault p es r ≡ None
  quiet r = go ids
    where
      go : (ys : List Component) → point_fault p (map (key_exp h.id ts item) ys ++ (measure ∷ [])) r ≡ None
      go [] = refl
      go (y ∷ ys) = one (same_name y.name h.id) (go ys)
        where
          one : (b : Bool) → point_fault p (map (key_exp h.id ts item) ys ++ (measure ∷ [])) r ≡ None → point_fault p (cond b (const (c.Text item)) (column_named ts y.name) ∷ (map (key_exp h.id ts item) ys ++ (measure ∷ []))) r ≡ None
          one true ih = ih
          one false ih = ih

  key_value : (k : Row) (v : Cell) → length k ≡ length ks → (y : Component) → IsId p h a is y → value p (key_exp h.id ts item y) (item_row k v) ≡ Ok (key_cell h.id ks k item y)
  key_value k v wide y i = go (same_name y.name h.id) refl
    where
      go : (b : Bool) → same_name y.name h.id ≡ b → value p (cond b (const (c.Text item)) (column_named ts y.name)) (item_row k v) ≡ Ok (cond b (c.Text item) (value_named ks k y.name))
      go true e = refl
      go false e =
          let at = (i.kept e).0 in
          let low = column_within (place_of y.name ks) y.name y.kind ks at in
          ap (λ n. Ok (column_of n (item_row k v))) (other_there y at).0 ∙ ap (λ z. Ok z) (get_or_append_left k (v ∷ c.Bool true ∷ []) c.Null (place_of y.name ks) (omega (arith, low, wide)))

  keys_are : (k : Row) (v : Cell) → length k ≡ length ks → (ys : List Component) → AllByRecursion (IsId p h a is) ys → point_of p (map (key_exp h.id ts item) ys) (item_row k v) ≡ map (key_cell h.id ks k item) ys
  keys_are k v wide [] all = refl
  keys_are k v wide (y ∷ ys) all = ap (λ z. cell_or_null z ∷ point_of p (map (key_exp h.id ts item) ys) (item_row k v)) (key_value k v wide y all.0) ∙ ap (λ l. key_cell h.id ks k item y ∷ l) (keys_are k v wide ys all.1)

  -- the point of an item's row
  pub item_shown : (k : Row) (v : Cell) → is_point ks k ≡ true → point_of p es (item_row k v) ≡ key_at h.id a k item ++ (v ∷ [])
  item_shown k v i =
      let wide = point_length ks k i in
      let same : length ks ≡ length k + 0 = omega (arith, wide) in
      points_append p key (measure ∷ []) (item_row k v)
      ∙ ap (λ l. l ++ point_of p (measure ∷ []) (item_row k v)) (keys_are k v wide ids (are_ids p h a is))
      ∙ ap (λ n. key_at h.id a k item ++ (column_of n (item_row k v) ∷ [])) (measure_place h a is ∙ same)
      ∙ ap (λ z. key_at h.id a k item ++ (z ∷ [])) (get_or-append-add k (v ∷ c.Bool true ∷ []) 0 c.Null)

  -- ---- the select

  pub points_give : Translates p → (now : Data) (s : Structure) → AreGiven (columns_of s) → HasIdentifiers s ids → component_kinds (others_of s) ≡ h.kind ∷ [] → IsHeldCell (c.Text item) → HaveNames (columns_of a) → AllByRecursion (λ y. is_null_kind y.kind ≡ false) ids
      → (name : Text) (rows : List Row) → IsTable now name T rows → IsName name → AllByRecursion (λ r. is_point ts r ≡ true) rows → GivesRows p now s (select_of p of_one es s (source_as first_alias name) [] None) (Ok (map (point_of p es) rows))
  points_give law now s given i others writable na kinds name rows table named typed =
      let w = item_is_structure h a is in
      let nt = item_named h a is na kinds in
      gives_same p now s (select_of p of_one es s (source_as first_alias name) [] None) (each_point p es rows) (Ok (map (point_of p es) rows))
      (each_sure p (λ r. Unit {0}) es (λ r u. quiet r) rows (all_each (λ r. Unit {0}) (λ r. tt) rows))
      (rows_give p law now name T rows table named w nt es s (exps_for s i others) (exps_written writable) given None tt tt (Ok rows) (ap Ok (rows_there p law now name T rows table named w nt)) typed)
