-- The tables of the combinations and of the items that the operand gives stand for these.
use Rattle.std.proofs.Common.{◌≡◌, ◌<◌, ◌+◌, ◌^◌, ℕ, Bool, true, false, ◌||◌, cond, List, [], ◌∷◌, ◌++◌, length, map, Ok, refl, sym, ap, ◌∙◌, subst, arith, append-nil, length-append}
use Rattle.std.specs.List.{AllByRecursion, flat_map, list_any}
use Rattle.vtl_decimal.specs.Settings.{Settings}
use Rattle.vtl_cell.specs.Held.{IsHeld as IsHeldCell}
use Rattle.vtl_cell.specs.Literals.{is_null_kind}
use Rattle.vtl_cell.specs.Row.{Row, same_row}
use Rattle.vtl_cell.specs.declared.cell.Cell.TheVariants as c
use Rattle.vtl_lists.specs.Perm.{Perm, chain}
use Rattle.vtl_lists.proofs.Perms.{Perm-filter, Perm-map, Perm-same}
use Rattle.vtl_lists.proofs.Sorts.{AllByRecursion-map}
use Rattle.vtl_lists.proofs.Alls.{all_more}
use Rattle.vtl_rows.specs.Tables.{cells_at}
use Rattle.vtl_text.specs.Words.{is_word}
use Rattle.vtl_tree.specs.Columns.{identifiers_of, places_in}
use Rattle.vtl_tree.specs.DataSet.{IsDataSet, is_point}
use Rattle.vtl_tree.specs.Environment.{DataSet}
use Rattle.vtl_tree.specs.Structure.{columns_of, same_name}
use Rattle.vtl_tree.specs.declared.structure.Component.{Component}
use Rattle.vtl_tree.specs.declared.structure.Structure.{Structure}
use Rattle.vtl_tuples.specs.Keys.{each_once}
use Rattle.vtl_tuples.proofs.Lists.{map-map}
use Rattle.vtl_meaning.specs.Agreement.{values_in}
use Rattle.vtl_meaning.specs.Joined.{keys_in}
use Rattle.vtl_meaning.specs.Made.{AreAmong}
use Rattle.vtl_meaning.specs.Points.{with_points}
use Rattle.vtl_meaning.proofs.Places.{same_name-is}
use Rattle.vtl_meaning.proofs.TurnedKept.{other_key_is, others_among}
use Rattle.vtl_meaning.proofs.JoinOrders.{keys_respect}
use Rattle.vtl_rulings.specs.HierarchyChecks.{Ruled, combinations, items_at}
use Rattle.vtl_rulings.proofs.HierarchyKeys.{combinations_typed}
use Rattle.sql_tree.specs.Trees.{Text}
use Rattle.sql_meaning.specs.Scripts.{Data}
use Rattle.joins_to_sql.specs.FullJoins.{keys_query, once_query, or_spare}
use Rattle.joins_to_sql.proofs.FullMeans.{beside_there, keys_stand, once_means}
use Rattle.joins_to_sql.proofs.HeldOperands.{IsHeld}
use Rattle.joins_to_sql.proofs.KeyColumns.{keyed, keyed_cells, keyed_point, once_keyed}
use Rattle.joins_to_sql.proofs.KeyTables.{keys_exactly}
use Rattle.selects_to_sql.specs.Means.{AreEarlier, AreThere, Means, NodeGives, SourcesGive, StandsAs}
use Rattle.selects_to_sql.specs.Runs.{held}
use Rattle.selects_to_sql.specs.Tables.{Made, Sources, by_names, over, stored, with_one}
use Rattle.selects_to_sql.specs.Writable.{HaveNames}
use Rattle.selects_to_sql.proofs.Composition.{no_tables, over_gives, stands_still, stored_gives}
use Rattle.selects_to_sql.proofs.Exact.{means_by, set_turned}
use Rattle.selects_to_sql.proofs.Expressions.{Translates}
use Rattle.selects_to_sql.proofs.Running.{columns_there}
use Rattle.hierarchies_to_sql.specs.CheckTables.{sided}
use Rattle.hierarchies_to_sql.specs.ItemTables.{combinations_of, item_query, item_tables, others_structure, tables_by}
use Rattle.hierarchies_to_sql.proofs.ChainRows.{AllKnown, combination, first}
use Rattle.hierarchies_to_sql.proofs.ItemColumns.{IsSided, keys, keys_are_given, keys_columns, keys_well, others, others_apart, own_others, t}
use Rattle.hierarchies_to_sql.proofs.ItemTables.{Knows, item_exactly, item_points, items_known, knows_by}
use Rattle.hierarchies_to_sql.proofs.RuleSelects.{found_of}

-- items of operands that can be written
abbrev pub CanBeItems : List (List ℕ) → Type 0
CanBeItems items = AllByRecursion (λ item. IsHeldCell (c.Text item)) items

-- a name is among these
abbrev pub Holds : List (List ℕ) → List ℕ → Type 0
Holds items name = list_any (λ item. same_name item name) items ≡ true

module _ (h : Ruled) (a : Structure) (is : IsSided h a) (d : List Row) (set : IsDataSet a d) where
  abbrev A : DataSet
  A = with_points a d

  abbrev T : Structure
  T = t h a is

  abbrev K : Structure
  K = keys h a is

  abbrev ks : List Component
  ks = others h a is

  -- ---- what they stand for

  abbrev pub key_rows : List Row
  key_rows = map (keyed ks) (map (values_in a ks) d)

  -- the table of the combinations
  abbrev pub all_keys : DataSet
  all_keys = with_points K (each_once same_row key_rows)

  abbrev pub item_set : List ℕ → DataSet
  item_set item = with_points T (item_points h a is d set item)

  abbrev pub item_sets : List (List ℕ) → List DataSet
  item_sets items = map item_set items

  keys_once : each_once same_row key_rows ≡ map (keyed ks) (combinations h.id A)
  keys_once = once_keyed ks (map (values_in a ks) d)

  keys_typed : AllByRecursion (λ q. is_point (columns_of K) q ≡ true) key_rows
  keys_typed =
      subst (λ ys. AllByRecursion (λ q. is_point ys q ≡ true) key_rows) (sym (keys_columns h a is))
      (AllByRecursion-map (keyed ks) (λ q. is_point (or_spare ks) q ≡ true) (map (values_in a ks) d)
      (AllByRecursion-map (values_in a ks) (λ k. is_point (or_spare ks) (keyed ks k) ≡ true) d
      (all_more (λ r. is_point (columns_of a) r ≡ true) (λ r. is_point (or_spare ks) (keyed ks (values_in a ks r)) ≡ true) (λ r i. keyed_point ks (values_in a ks r) (other_key_is h.id a r is.well i)) d set.typed)))

  pub all_keys_typed : AllByRecursion (λ q. is_point (first h a is) q ≡ true) all_keys.points
  all_keys_typed =
      subst (AllByRecursion (λ q. is_point (columns_of K) q ≡ true)) (sym keys_once)
      (subst (λ ys. AllByRecursion (λ q. is_point ys q ≡ true) (map (keyed ks) (combinations h.id A))) (sym (keys_columns h a is))
      (AllByRecursion-map (keyed ks) (λ q. is_point (or_spare ks) q ≡ true) (combinations h.id A) (all_more (λ k. is_point ks k ≡ true) (λ k. is_point (or_spare ks) (keyed ks k) ≡ true) (λ k i. keyed_point ks k i) (combinations h.id A) (combinations_typed h.id a d set))))

  key_back : (k : Row) → is_point ks k ≡ true → combination h a is (keyed ks k) ≡ k
  key_back k i = ap (λ ys. cells_at (places_in ys ks) (keyed ks k)) (keys_columns h a is) ∙ keyed_cells ks k (others_apart h a is) i

  -- the rows of their table are the combinations
  pub keys_are : (rows : List Row) → Perm rows all_keys.points → Perm (map (combination h a is) rows) (combinations h.id A)
  keys_are rows same =
      let all = combinations h.id A in
      let at = combination h a is in
      chain (Perm-map at same)
      (Perm-same (map at all_keys.points) all
      (ap (map at) keys_once
      ∙ map-map at (keyed ks) all
      ∙ own all (combinations_typed h.id a d set)))
    where
      own : (l : List Row) → AllByRecursion (λ k. is_point ks k ≡ true) l → map (λ k. combination h a is (keyed ks k)) l ≡ l
      own [] all = refl
      own (k ∷ l) all = ap (λ r. r ∷ map (λ j. combination h a is (keyed ks j)) l) (key_back k all.0) ∙ ap (λ r. k ∷ r) (own l all.1)

  -- ---- tables of items by their names

  table_known : (now : Data) (rows : List Row) (items : List (List ℕ)) (xs : List Text) → AreThere now xs (item_sets items) → (name : List ℕ) → Holds items name → Knows h a is now (tables_by items xs name) (found_of (items_at h A) name) rows
  table_known now rows [] xs there name e = let never : false ≡ true = e in cc
  table_known now rows (item ∷ items) [] there name e = absurd there
  table_known now rows (item ∷ items) (x ∷ xs) there name e = go (same_name item name) refl e (table_known now rows items xs there.1 name)
    where
      go : (b : Bool) → same_name item name ≡ b → (b || list_any (λ i. same_name i name) items) ≡ true → (Holds items name → Knows h a is now (tables_by items xs name) (found_of (items_at h A) name) rows) → Knows h a is now (cond b x (tables_by items xs name)) (found_of (items_at h A) name) rows
      go true f g ih = subst (λ n. Knows h a is now x (found_of (items_at h A) n) rows) (same_name-is item name f) (knows_by h a is now x (found_of (items_at h A) item) (item_points h a is d set item) rows there.0 (items_known h a is d set item rows))
      go false f g ih = ih g

  pub tables_known : (now : Data) (rows : List Row) (items : List (List ℕ)) (xs : List Text) → AreThere now xs (item_sets items) → (names : List (List ℕ)) → AllByRecursion (Holds items) names → AllKnown h a is now rows (map (tables_by items xs) names) (map (found_of (items_at h A)) names)
  tables_known now rows items xs there [] all = tt
  tables_known now rows items xs there (name ∷ names) all = (table_known now rows items xs there name all.0, tables_known now rows items xs there names all.1)

  -- ---- the queries

  module _ (p : Settings) (law : Translates p) (na : HaveNames (columns_of a)) (kinds : AllByRecursion (λ y. is_null_kind y.kind ≡ false) (identifiers_of a)) where
    keys_mean : (now : Data) (xs : List Text) → AreThere now xs (A ∷ []) → Means p now (keys_query p (others_structure h a) (a ∷ []) xs) K (Ok key_rows)
    keys_mean now [] there = absurd there
    keys_mean now (x ∷ y ∷ ys) there = absurd there.1
    keys_mean now (x ∷ []) there =
        let st = there.0 in
        let e = with_points a st.rows in
        let ids = identifiers_of (others_structure h a) in
        let here : IsHeld now x e = record { word = st.named; table = st.table; known = columns_there now x (held a st.rows) st.table } in
        let among : AreAmong ids (identifiers_of a) = subst (λ ys. AreAmong ys (identifiers_of a)) (sym (own_others h a is)) (others_among h.id a is.well) in
        let turned : Perm (flat_map (keys_in ids) (e ∷ [])) (flat_map (keys_in ids) (A ∷ [])) = keys_respect ids (e ∷ []) (A ∷ []) (refl, st.same, tt) in
        let same : map (keyed ids) (flat_map (keys_in ids) (A ∷ [])) ≡ key_rows = ap (λ l. map (keyed l) (flat_map (keys_in l) (A ∷ []))) (own_others h a is) ∙ ap (map (keyed ks)) (append-nil (map (values_in a ks) d)) in
        means_by p now (keys_query p (others_structure h a) (a ∷ []) (x ∷ [])) K (Ok (map (keyed ids) (flat_map (keys_in ids) (e ∷ [])))) (Ok key_rows)
        (chain (Perm-map (keyed ids) turned) (Perm-same (map (keyed ids) (flat_map (keys_in ids) (A ∷ []))) key_rows same))
        (keys_exactly p law now (others_structure h a) (keys_are_given h a is na kinds) e [] (x ∷ []) (here, tt) (set_turned a d st.rows st.same set, tt) (na, tt) (among, tt))

    once_mean : (now : Data) (x : Text) → StandsAs now x K key_rows → Means p now (once_query p K x) K (Ok (each_once same_row key_rows))
    once_mean = once_means p law K (keys_well h a is) (keys_are_given h a is na kinds) key_rows keys_typed

    item_mean : (now : Data) (x : Text) (item : List ℕ) → IsHeldCell (c.Text item) → StandsAs now x a d → Means p now (item_query p h a item x) T (Ok (item_points h a is d set item))
    item_mean now x item writable st =
        let turned = set_turned a d st.rows st.same set in
        means_by p now (item_query p h a item x) T (Ok (item_points h a is st.rows turned item)) (Ok (item_points h a is d set item))
        (Perm-map _ (Perm-filter _ st.same))
        (item_exactly h a is st.rows turned item p law now x st.table st.named na kinds writable)

    -- ---- the tables

    module _ (r : Text) (word : is_word r ≡ true) where
      items_give : (items : List (List ℕ)) → CanBeItems items → (now : Data) (x : Text) (n : ℕ) → StandsAs now x a d → AreEarlier r n now → n + length (item_tables p r h a (x ∷ []) items n).tables < 2 ^ 64 → SourcesGive p now r n (item_tables p r h a (x ∷ []) items n) (Ok (item_sets items))
      items_give [] writable now x n st apart few = (no_tables p r word now n, tt)
      items_give (item ∷ items) writable now x n st apart few =
          let points = item_points h a is d set item in
          let q : Text → _ = item_query p h a item in
          let m : Made = over (by_names (x ∷ []) n) (with_one q) in
          let one = stored r m in
          let rest : ℕ → Sources = item_tables p r h a (x ∷ []) items in
          let size = length-append one.tables (rest one.next).tables in
          let own : SourcesGive p now r n (by_names (x ∷ []) n) (Ok (A ∷ [])) = (no_tables p r word now n, (stands_still now [] x a d st, tt)) in
          let node : NodeGives p now r n m T (Ok points) = over_gives p r word now n (by_names (x ∷ []) n) (with_one q) T (Ok (A ∷ [])) (λ l. Ok points) own (λ later l e there. let same : A ∷ [] ≡ l = cc in item_mean later x item writable.0 (subst (AreThere later (x ∷ [])) (sym same) there).0) in
          let first : SourcesGive p now r n one (Ok (item_set item ∷ [])) = stored_gives p r word now n m T (Ok points) apart (omega (arith, few, size)) node in
          beside_there p r word now n one rest (item_set item ∷ []) (Ok (item_sets items)) apart first
          (λ more there earlier counted. items_give items writable.1 (now ++ more) x one.next (stands_still now more x a d st) earlier (omega (arith, few, size, counted)))

      pub sided_give : (items : List (List ℕ)) → CanBeItems items → (now : Data) (names : List Text) (n : ℕ) → AreThere now names (A ∷ []) → AreEarlier r n now → n + length (sided p r h a items names n).tables < 2 ^ 64 → SourcesGive p now r n (sided p r h a items names n) (Ok (all_keys ∷ item_sets items))
      sided_give items writable now [] n there apart few = absurd there
      sided_give items writable now (x ∷ y ∷ ys) n there apart few = absurd there.1
      sided_give items writable now (x ∷ []) n there apart few =
          let first = combinations_of p r h a (x ∷ []) in
          let rest : ℕ → Sources = item_tables p r h a (x ∷ []) items in
          let size = length-append (first n).tables (rest (first n).next).tables in
          let two : length (first n).tables ≡ 2 = refl in
          beside_there p r word now n (first n) rest (all_keys ∷ []) (Ok (item_sets items)) apart
          (keys_stand p r word (others_structure h a) (a ∷ []) key_rows (A ∷ []) keys_mean once_mean now (x ∷ []) n there apart (omega (arith, few, size, two)))
          (λ more kept earlier counted. items_give items writable (now ++ more) x (first n).next (stands_still now more x a d there.0) earlier (omega (arith, few, size, counted)))
