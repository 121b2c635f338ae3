-- The columns that a rule's select sees: those of the combinations, and two for each item.
use Rattle.std.proofs.Common.{◌≡◌, ◌+◌, ℕ, zero, suc, Bool, true, false, not, ◌||◌, cond, List, [], ◌∷◌, ◌++◌, length, map, refl, sym, ap, ◌∙◌, subst, arith}
use Rattle.std.specs.List.{AllByRecursion, filter}
use Rattle.vtl_decimal.specs.Settings.{Settings}
use Rattle.vtl_cell.specs.Held.{IsHeld}
use Rattle.vtl_cell.specs.declared.cell.Cell.TheVariants as c
use Rattle.vtl_cell.specs.declared.kind.Kind.TheVariants as k
use Rattle.vtl_tree.specs.Columns.{column_behind, column_named, columns_named, identifiers_of, kind_named, place_of}
use Rattle.vtl_tree.specs.CompExp.{const}
use Rattle.vtl_tree.specs.Kinds.{exp_kind}
use Rattle.vtl_tree.specs.Names.{is_among}
use Rattle.vtl_tree.specs.Structure.{columns_of, same_name}
use Rattle.vtl_tree.specs.declared.structure.Component.{Component}
use Rattle.vtl_tree.specs.declared.structure.Structure.{Structure}
use Rattle.vtl_meaning.specs.Made.{AreAmong, AreFor, IsColumnAt, IsTyped}
use Rattle.vtl_meaning.proofs.Kept.{column_front}
use Rattle.vtl_meaning.proofs.OwnColumns.{own_among, own_identifiers, own_measures}
use Rattle.vtl_meaning.proofs.Places.{same_name-is, same_name-sym}
use Rattle.vtl_meaning.proofs.TurnedKept.{others_are}
use Rattle.vtl_rulings.specs.HierarchyChecks.{Ruled}
use Rattle.vtl_rulings.proofs.HierarchyKeys.{one_kind}
use Rattle.sql_tree.specs.Trees.{Text}
use Rattle.joins_to_sql.specs.Joins.{placed_from, width_of}
use Rattle.joins_to_sql.proofs.JoinedColumns.{ArePlaced, IsPlaced, OfKinds, column_kinds, placed_all}
use Rattle.selects_to_sql.specs.Writable.{AllCanBeWritten, CanBeWritten}
use Rattle.selects_to_sql.proofs.Identifiers.{AreIdentifiersAt, identifiers_there}
use Rattle.selects_to_sql.proofs.Loose.{all_loose, column_loose}
use Rattle.hierarchies_to_sql.specs.ItemTables.{key_exp, leaf_at, structures_for}
use Rattle.hierarchies_to_sql.proofs.ChainRows.{all_columns, first, source_columns}
use Rattle.hierarchies_to_sql.proofs.TypedSides.{IsLeaf}
use Rattle.hierarchies_to_sql.proofs.ItemColumns.{IsSided, behind, item_is_structure, item_measures, keys, keys_identifiers, keys_well, others, others_apart, t}

-- what holds of the items that pass holds of each that does
passing : {X : Type 0} (P : X → Type 0) (t : X → Bool) (xs : List X) → AllByRecursion P (filter t xs) → AllByRecursion (λ x. t x ≡ true → P x) xs
passing P t [] all = tt
passing P t (x ∷ xs) all = go (t x) refl all (passing P t xs)
  where
    go : (b : Bool) → t x ≡ b → AllByRecursion P (cond b (x ∷ filter t xs) (filter t xs)) → (AllByRecursion P (filter t xs) → AllByRecursion (λ y. t y ≡ true → P y) xs) → AllByRecursion (λ y. t y ≡ true → P y) (x ∷ xs)
    go true e h ih = ((λ f. h.0), ih h.1)
    go false e h ih = ((λ f. let same : true ≡ false = sym f ∙ e in cc), ih h)

module _ (p : Settings) (h : Ruled) (a : Structure) (is : IsSided h a) where
  abbrev T : Structure
  T = t h a is

  abbrev ks : List Component
  ks = others h a is

  abbrev F : List Component
  F = first h a is

  abbrev ids : List Component
  ids = identifiers_of a

  -- ---- items

  abbrev items_placed : (n : ℕ) → List Text → (ws : List Component) → Type 0
  items_placed n xs ws = ArePlaced ws (placed_from n (structures_for h a xs))

  leaf_typed : (ws : List Component) (n : ℕ) → IsPlaced ws (record { before = n; structure = T }) → IsLeaf p (all_loose ws) h.kind is.itemized.numeric (leaf_at h (record { before = n; structure = T }))
  leaf_typed ws n placed =
      let among : AreAmong (behind h a is) (columns_of T) = subst (λ ys. AreAmong ys (columns_of T)) (item_measures h a is) (own_measures T (item_is_structure h a is)) in
      let all : OfKinds p (all_loose ws) (column_behind n (columns_of T) h.measure ∷ column_behind n (columns_of T) h.id ∷ []) (h.kind ∷ k.Bool ∷ []) = column_kinds p ws (record { before = n; structure = T }) (behind h a is) (item_is_structure h a is) placed among in
      record { value = record { typed = all.0; kind = all.1; holds = tt; low = omega arith }; there = record { typed = all.2.0; kind = all.2.1; holds = tt; low = omega arith } }

  leaves_from : (ws : List Component) (n : ℕ) (xs : List Text) → items_placed n xs ws → AllByRecursion (IsLeaf p (all_loose ws) h.kind is.itemized.numeric) (map (leaf_at h) (placed_from n (structures_for h a xs)))
  leaves_from ws n [] placed = tt
  leaves_from ws n (x ∷ xs) placed = (leaf_typed ws n placed.0, leaves_from ws (n + width_of T) xs placed.1)

  pub leaves_typed : (xs : List Text) → AllByRecursion (IsLeaf p (all_columns h a is xs) h.kind is.itemized.numeric) (map (leaf_at h) (placed_from (width_of (keys h a is)) (structures_for h a xs)))
  leaves_typed xs = leaves_from (source_columns h a is xs) (width_of (keys h a is)) xs (placed_all F (width_of (keys h a is)) (structures_for h a xs) refl)

  -- one for each item
  pub leaves_count : (n : ℕ) (xs : List Text) → length (map (leaf_at h) (placed_from n (structures_for h a xs))) ≡ length xs
  leaves_count n [] = refl
  leaves_count n (x ∷ xs) = ap suc (leaves_count (n + width_of T) xs)

  -- ---- identifiers

  pub others_there : AreIdentifiersAt F ks
  others_there = identifiers_there (keys h a is) (keys_well h a is) ks (subst (AreAmong ks) (sym (keys_identifiers h a is)) (own_among ks (others_apart h a is)))

  -- of the combinations
  abbrev pub IsKept : Component → Type 0
  IsKept y = IsColumnAt (place_of y.name ks) y.name y.kind ks × IsColumnAt (place_of y.name F) y.name y.kind F × (kind_named y.name F ≡ y.kind)

  kept_by : (ys : List Component) → AreAmong ys ks → AreIdentifiersAt F ys → AllByRecursion IsKept ys
  kept_by [] i j = tt
  kept_by (y ∷ ys) i j = ((i.0, j.0.column, j.0.named), kept_by ys i.1 j.1)

  pub others_kept : AllByRecursion IsKept ks
  others_kept = kept_by ks (own_among ks (others_apart h a is)) others_there

  -- each identifier is that of the items or one of the combinations
  pub record IsId (y : Component) : Type 0 where
    pub kept : same_name y.name h.id ≡ false → IsKept y
    pub coded : same_name y.name h.id ≡ true → k.Text ≡ y.kind

  is_id : (y : Component) → IsColumnAt (place_of y.name ids) y.name y.kind ids → (not (is_among y.name (h.id ∷ [])) ≡ true → IsKept y) → IsId y
  is_id y own other = record {
    kept = λ e. other (ap (λ b. not (b || false)) (same_name-sym h.id y.name ∙ e));
    coded = λ e. one_kind (place_of h.id ids) h.id k.Text y.kind ids is.itemized.coded (subst (λ n. IsColumnAt (place_of n ids) n y.kind ids) (same_name-is y.name h.id e) own);
  }

  pub are_ids : AllByRecursion IsId ids
  are_ids = both_ids ids (own_identifiers a is.well) (passing IsKept (λ y. not (is_among y.name (h.id ∷ []))) ids (subst (AllByRecursion IsKept) (others_are h.id a.components) others_kept))
    where
      both_ids : (ys : List Component) → AreAmong ys ids → AllByRecursion (λ y. not (is_among y.name (h.id ∷ [])) ≡ true → IsKept y) ys → AllByRecursion IsId ys
      both_ids [] i j = tt
      both_ids (y ∷ ys) i j = (is_id y i.0 j.0, both_ids ys i.1 j.1)

  module _ (more : List Component) where
    abbrev ws : List Component
    ws = all_loose (F ++ more)

    kept_typed : (y : Component) → IsKept y → IsTyped p ws (column_named F y.name) × (exp_kind (column_named F y.name) ≡ y.kind)
    kept_typed y i = (column_loose (place_of y.name F) y.name (kind_named y.name F) (F ++ more) (column_front (place_of y.name F) y.name (kind_named y.name F) F more (subst (λ q. IsColumnAt (place_of y.name F) y.name q F) (sym i.2) i.1)), i.2)

    kept_for : (ys : List Component) → AllByRecursion IsKept ys → AreFor p ws (columns_named F ys) ys
    kept_for [] all = tt
    kept_for (y ∷ ys) all = let one = kept_typed y all.0 in (one.0, one.1, kept_for ys all.1)

    -- the columns of the combinations
    pub others_for : AreFor p ws (columns_named F ks) ks
    others_for = kept_for ks others_kept

    key_typed : (item : List ℕ) (y : Component) → IsId y → IsTyped p ws (key_exp h.id F item y) × (exp_kind (key_exp h.id F item y) ≡ y.kind)
    key_typed item y i = go (same_name y.name h.id) refl
      where
        go : (b : Bool) → same_name y.name h.id ≡ b → IsTyped p ws (cond b (const (c.Text item)) (column_named F y.name)) × (exp_kind (cond b (const (c.Text item)) (column_named F y.name)) ≡ y.kind)
        go true e = (tt, i.coded e)
        go false e = kept_typed y (i.kept e)

    keys_for : (item : List ℕ) (ys : List Component) → AllByRecursion IsId ys → AreFor p ws (map (key_exp h.id F item) ys) ys
    keys_for item [] all = tt
    keys_for item (y ∷ ys) all = let one = key_typed item y all.0 in (one.0, one.1, keys_for item ys all.1)

    -- the identifiers of an item's point
    pub ids_for : (item : List ℕ) → AreFor p ws (map (key_exp h.id F item) ids) ids
    ids_for item = keys_for item ids are_ids

-- ---- they can be written

pub ids_written : (id : List ℕ) (columns : List Component) (item : List ℕ) → IsHeld (c.Text item) → (ys : List Component) → AllCanBeWritten (map (key_exp id columns item) ys)
ids_written id columns item writable [] = tt
ids_written id columns item writable (y ∷ ys) = (go (same_name y.name id), ids_written id columns item writable ys)
  where
    go : (b : Bool) → CanBeWritten (cond b (const (c.Text item)) (column_named columns y.name))
    go true = record { constants = writable; shallow = omega arith }
    go false = record { constants = tt; shallow = omega arith }
