-- The table of an item stands for the item's points of the operand: at all_each combination it has what the operand has of the item.
use Rattle.std.proofs.Common.{◌≡◌, ℕ, Bool, true, false, ◌&&◌, cond, List, [], ◌∷◌, ◌++◌, map, take, Some, None, Ok, refl, sym, ap, ◌∙◌, subst, arith}
use Rattle.std.specs.Prelude.{option_map}
use Rattle.std.specs.List.{AllByRecursion, filter, find}
use Rattle.std.specs.Option.{IfSome}
use Rattle.vtl_cell.specs.Held.{IsHeld}
use Rattle.vtl_cell.specs.Literals.{is_null_kind}
use Rattle.vtl_cell.specs.Order.{same_cell}
use Rattle.vtl_cell.specs.Outcome.{after, fault_in, faults_by, unless}
use Rattle.vtl_cell.specs.Outcomes.{is_true}
use Rattle.vtl_cell.specs.Row.{Row, same_key, same_row}
use Rattle.vtl_cell.specs.ScalarKinds.{kinds_of}
use Rattle.vtl_cell.specs.declared.cell.Cell.{Cell}
use Rattle.vtl_cell.specs.declared.cell.Cell.TheVariants as c
use Rattle.vtl_cell.specs.declared.kind.Kind.TheVariants as k
use Rattle.vtl_cell.specs.declared.operator.ScalarOp.TheVariants as op
use Rattle.vtl_cell.proofs.Cells.{same_cell-is}
use Rattle.vtl_cell.proofs.Rows.{same_row-is, same_row-refl}
use Rattle.vtl_decimal.specs.Settings.{Settings}
use Rattle.vtl_lists.specs.Perm.{Perm}
use Rattle.vtl_lists.proofs.Aparts.{all_apart-filter}
use Rattle.vtl_lists.proofs.Perms.{Perm-sym}
use Rattle.vtl_lists.proofs.Sorts.{AllByRecursion-filter}
use Rattle.vtl_lists.proofs.Alls.{all_append, all_both, all_each, all_filtered, all_more}
use Rattle.vtl_tree.specs.Clauses.{filter_of}
use Rattle.vtl_tree.specs.Columns.{columns_named, identifiers_of, others_of, place_of}
use Rattle.vtl_tree.specs.CompExp.{CompExp}
use Rattle.vtl_tree.specs.DataSet.{IsDataSet, is_point}
use Rattle.vtl_tree.specs.Measures.{made}
use Rattle.vtl_tree.specs.Structure.{columns_of, key_width}
use Rattle.vtl_tree.specs.Value.{value}
use Rattle.vtl_tree.specs.declared.structure.Component.{Component}
use Rattle.vtl_tree.specs.declared.structure.Role.TheVariants as role
use Rattle.vtl_tree.specs.declared.structure.Structure.{Structure}
use Rattle.vtl_tuples.proofs.Lists.{filter_same, map_same}
use Rattle.vtl_meaning.specs.Agreement.{values_in}
use Rattle.vtl_meaning.specs.LookUps.{value_named}
use Rattle.vtl_meaning.specs.Made.{AreAmong, AreFor, IsColumnAt}
use Rattle.vtl_meaning.specs.Points.{each_point, point_fault, point_of, with_points}
use Rattle.vtl_meaning.specs.Turned.{is_coded}
use Rattle.vtl_meaning.proofs.Agreements.{own_values}
use Rattle.vtl_meaning.proofs.Drawn.{drawn_all, drawn_apart, map_drawn}
use Rattle.vtl_meaning.proofs.JoinAgreements.{covers, key_only}
use Rattle.vtl_meaning.proofs.JoinOrders.{find_respects}
use Rattle.vtl_meaning.proofs.Kept.{alike_cells, columns_point}
use Rattle.vtl_meaning.proofs.LookUps.{named_cells}
use Rattle.vtl_meaning.proofs.OwnColumns.{among_front, columns_apart, own_identifiers}
use Rattle.vtl_meaning.proofs.Places.{columns_split, key_cells, key_of_joined, key_within, point_append}
use Rattle.vtl_meaning.proofs.TurnedKept.{other_key_is, others_among, others_are}
use Rattle.vtl_meaning.proofs.TurnedOrders.{alike_others}
use Rattle.vtl_meaning.proofs.ValueKinds.{IsOf, cell_is_of, point_from}
use Rattle.vtl_rulings.specs.HierarchyChecks.{Ruled, items_at}
use Rattle.vtl_rulings.specs.Modes.{Found}
use Rattle.vtl_rulings.proofs.HierarchyKeys.{items_are}
use Rattle.sql_tree.specs.Formed.{IsName}
use Rattle.sql_tree.specs.Trees.{Text}
use Rattle.sql_meaning.specs.Scripts.{Data}
use Rattle.selects_to_sql.specs.Means.{StandsAs}
use Rattle.selects_to_sql.specs.Runs.{IsTable, held}
use Rattle.selects_to_sql.specs.Writable.{AllCanBeWritten, CanBeWritten, HaveNames}
use Rattle.selects_to_sql.proofs.Conjunctions.{alike_kinds, equal_cells}
use Rattle.selects_to_sql.proofs.Exact.{IsExactly, exactly_same, set_turned}
use Rattle.selects_to_sql.proofs.Expressions.{Translates}
use Rattle.selects_to_sql.proofs.Identifiers.{identifier_there}
use Rattle.selects_to_sql.proofs.OneOperand.{columns_for, columns_written, kept_mean, kind_at}
use Rattle.selects_to_sql.proofs.Running.{there_still}
use Rattle.selects_to_sql.proofs.Selects.{IsTest}
use Rattle.rules_to_sql.proofs.Columns.{columns_sure, for_append, points_append}
use Rattle.rules_to_sql.proofs.Lists.{each_sure, faults_same, no_faults}
use Rattle.hierarchies_to_sql.specs.ItemTables.{is_item, item_exps, item_query, there}
use Rattle.hierarchies_to_sql.proofs.ItemColumns.{IsSided, behind, item_columns, item_given, item_identifiers, item_is_structure, others, t}

-- the row of an item at a combination
abbrev pub item_row : (combination : Row) → Cell → Row
item_row row v = row ++ (v ∷ c.Bool true ∷ [])

module _ (h : Ruled) (a : Structure) (is : IsSided h a) where
  abbrev ks : List Component
  ks = others h a is

  abbrev ts : List Component
  ts = columns_of (t h a is)

  -- a row of the table is that of a combination
  abbrev pub has_key : (combination : Row) → Row → Bool
  has_key row y = same_row (values_in (t h a is) (identifiers_of (t h a is)) y) row

  pub item_point : (row : Row) (v : Cell) → is_point ks row ≡ true → IsOf h.kind v → is_point ts (item_row row v) ≡ true
  item_point row v i j =
      subst (λ ys. is_point ys (item_row row v) ≡ true) (sym (item_columns h a is))
      (point_append ks (behind h a is) row (v ∷ c.Bool true ∷ []) i (point_from (made h.measure role.Measure h.kind) (there h ∷ []) v (c.Bool true ∷ []) j refl refl))

  own_key : (row : Row) → is_point ks row ≡ true → is_point (identifiers_of (t h a is)) row ≡ true
  own_key row i = subst (λ ys. is_point ys row ≡ true) (sym (item_identifiers h a is)) i

  pub key_front : (row : Row) (v : Cell) → is_point ks row ≡ true → take (key_width (t h a is)) (item_row row v) ≡ row
  key_front row v i = key_of_joined (t h a is) row (v ∷ c.Bool true ∷ []) (own_key row i)

  pub key_values : (row : Row) (v : Cell) → is_point ks row ≡ true → IsOf h.kind v → values_in (t h a is) (identifiers_of (t h a is)) (item_row row v) ≡ row
  key_values row v i j = own_values (t h a is) (item_row row v) (item_is_structure h a is) (item_point row v i j) ∙ key_front row v i

  -- a data set with what is found of an item at all_each of these combinations
  pub record IsItemTable (found : Row → Found) (rows combinations : List Row) : Type 0 where
    pub set : IsDataSet (t h a is) rows
    pub at : AllByRecursion (λ row. find (has_key row) rows ≡ option_map (item_row row) (found row)) combinations
    pub kinds : AllByRecursion (λ row. IfSome (found row) (IsOf h.kind)) combinations

  -- in any order
  pub item_turned : (found : Row → Found) (rows others : List Row) (combinations : List Row) → Perm rows others → IsItemTable found others combinations → IsItemTable found rows combinations
  item_turned found rows others combinations same i =
      let own = t h a is in
      let finds : (row : Row) → find (has_key row) rows ≡ find (has_key row) others =
      λ row. sym (find_respects (has_key row) others rows (Perm-sym same) (key_only own (with_points own others) row (covers own own (own_identifiers own (item_is_structure h a is))) i.set)) in
      record {
        set = set_turned own others rows same i.set;
        at = all_more (λ row. find (has_key row) others ≡ option_map (item_row row) (found row)) (λ row. find (has_key row) rows ≡ option_map (item_row row) (found row)) (λ row e. finds row ∙ e) combinations i.at;
        kinds = i.kinds;
      }

  -- a table that holds one
  pub record Knows (now : Data) (name : Text) (found : Row → Found) (combinations : List Row) : Type 0 where
    pub word : IsName name
    pub rows : List Row
    pub table : IsTable now name (t h a is) rows
    pub item : IsItemTable found rows combinations

  pub knows_by : (now : Data) (name : Text) (found : Row → Found) (rows combinations : List Row) → StandsAs now name (t h a is) rows → IsItemTable found rows combinations → Knows now name found combinations
  knows_by now name found rows combinations st i = record { word = st.named; rows = st.rows; table = st.table; item = item_turned found st.rows rows combinations st.same i }

  pub knows_still : (now more : Data) (name : Text) (found : Row → Found) (combinations : List Row) → Knows now name found combinations → Knows (now ++ more) name found combinations
  knows_still now more name found combinations i = record { word = i.word; rows = i.rows; table = there_still now more _ (held (t h a is) i.rows) i.table; item = i.item }

  -- ---- the operand's points of an item

  module _ (d : List Row) (set : IsDataSet a d) (item : List ℕ) where
    abbrev xs : List Component
    xs = columns_of a

    abbrev P : Row → Type 0
    P r = is_point xs r ≡ true

    abbrev has : Row → Bool
    has r = same_cell (value_named xs r h.id) (c.Text item)

    abbrev key : Row → Row
    key r = values_in a ks r

    abbrev cell : Row → Cell
    cell r = value_named xs r h.measure

    abbrev pub item_of : Row → Row
    item_of r = item_row (key r) (cell r)

    abbrev pub item_points : List Row
    item_points = map item_of (filter has d)

    key_is : (r : Row) → P r → is_point ks (key r) ≡ true
    key_is r i = other_key_is h.id a r is.well i

    cell_is : (r : Row) → P r → IsOf h.kind (cell r)
    cell_is r i = cell_is_of (place_of h.measure xs) h.measure h.kind xs r is.itemized.measured i

    -- ---- all_each combination once

    abbrev Draws : Row → Row → Type 0
    Draws r q = P r × (has r ≡ true) × (q ≡ item_of r)

    front : (r q : Row) → Draws r q → take (key_width (t h a is)) q ≡ key r
    front r q i = ap (take (key_width (t h a is))) i.2 ∙ key_front (key r) (cell r) (key_is r i.0)

    back : (r u q z : Row) → Draws r q → Draws u z → same_key (key_width (t h a is)) q z ≡ true → same_key (key_width a) r u ≡ true
    back r u q z i j e =
        let n = key_width (t h a is) in
        let keys : key r ≡ key u = same_row-is (key r) (key u) (ap (λ l. same_row l (key u)) (sym (front r q i)) ∙ ap (same_row (take n q)) (sym (front u z j)) ∙ e) in
        let one : value_named xs r h.id ≡ value_named xs u h.id = same_cell-is (value_named xs r h.id) (c.Text item) i.1 ∙ sym (same_cell-is (value_named xs u h.id) (c.Text item) j.1) in
        let all = alike_others h.id xs r u (identifiers_of a) one (subst (λ ys. values_in a ys r ≡ values_in a ys u) (others_are h.id a.components) keys) in
        let same : take (key_width a) r ≡ take (key_width a) u = sym (key_cells a a r is.well (refl, refl) (key_within a r i.0)) ∙ alike_cells xs r u (identifiers_of a) all ∙ key_cells a a u is.well (refl, refl) (key_within a u j.0) in
        ap (same_row (take (key_width a) r)) (sym same) ∙ same_row-refl (take (key_width a) r)

    drawn : AllByRecursion (λ r. Draws r (item_of r)) (filter has d)
    drawn = all_both P (λ r. has r ≡ true) (λ r. Draws r (item_of r)) (λ r i e. (i, e, refl)) (filter has d) (AllByRecursion-filter P has d set.typed) (all_filtered has d)

    pub items_set : IsDataSet (t h a is) item_points
    items_set =
        subst (IsDataSet (t h a is)) (sym (map_drawn item_of (filter has d))) (record {
          well_formed = item_is_structure h a is;
          typed = drawn_all Draws (λ q. is_point ts q ≡ true) (λ r q i. subst (λ z. is_point ts z ≡ true) (sym i.2) (item_point (key r) (cell r) (key_is r i.0) (cell_is r i.0))) (λ r. item_of r ∷ []) (filter has d) drawn;
          distinct = drawn_apart Draws (same_key (key_width a)) (same_key (key_width (t h a is))) back (λ r. item_of r ∷ []) (filter has d) drawn (all_apart-filter (same_key (key_width a)) has d set.distinct);
        })

    -- ---- what is found

    abbrev given : Row → Found
    given row = items_at h (with_points a d) row item

    one_found : (row r : Row) → P r → has_key row (item_of r) ≡ same_row (key r) row
    one_found row r i = ap (λ l. same_row l row) (key_values (key r) (cell r) (key_is r i) (cell_is r i))

    found_in : (row : Row) (l : List Row) → AllByRecursion P l → find (has_key row) (map item_of (filter has l)) ≡ option_map (item_row row) (option_map cell (find (is_coded a h.id row item) l))
    found_in row [] all = refl
    found_in row (r ∷ l) all = go (same_row (key r) row) (has r) refl (found_in row l all.1)
      where
        rest : List Row
        rest = map item_of (filter has l)

        go : (s b : Bool) → same_row (key r) row ≡ s → find (has_key row) rest ≡ option_map (item_row row) (option_map cell (find (is_coded a h.id row item) l))
            → find (has_key row) (map item_of (cond b (r ∷ filter has l) (filter has l))) ≡ option_map (item_row row) (option_map cell (cond (s && b) (Some r) (find (is_coded a h.id row item) l)))
        go true true e ih = ap (λ z. cond z (Some (item_of r)) (find (has_key row) rest)) (one_found row r all.0 ∙ e) ∙ ap (λ k. Some (item_row k (cell r))) (same_row-is (key r) row e)
        go false true e ih = ap (λ z. cond z (Some (item_of r)) (find (has_key row) rest)) (one_found row r all.0 ∙ e) ∙ ih
        go true false e ih = ih
        go false false e ih = ih

    pub items_known : (combinations : List Row) → IsItemTable given item_points combinations
    items_known combinations = record {
      set = items_set;
      at = all_each (λ row. find (has_key row) item_points ≡ option_map (item_row row) (given row)) (λ row. found_in row d set.typed) combinations;
      kinds = all_each (λ row. IfSome (given row) (IsOf h.kind)) (λ row. items_are h a d is.itemized set row item) combinations;
    }

    -- ---- its query

    module _ (p : Settings) (law : Translates p) (now : Data) (name : Text) (there : IsTable now name a d) (named : IsName name) (na : HaveNames xs) (kinds : AllByRecursion (λ y. is_null_kind y.kind ≡ false) (identifiers_of a)) (writable : IsHeld (c.Text item)) where
      abbrev test : CompExp
      test = is_item h a item

      abbrev es : List CompExp
      es = item_exps h a

      truth : (r : Row) → P r → value p test r ≡ Ok (c.Bool (has r))
      truth r i =
          let own = (identifier_there a is.well h.id k.Text is.itemized.coded).0 in
          equal_cells p k.Text (value_named xs r h.id) (c.Text item) (cell_is_of (place_of h.id xs) h.id k.Text xs r own.column i) refl (own.filled r i) refl

      tested : IsTest p xs (Some test)
      tested =
          let own = (identifier_there a is.well h.id k.Text is.itemized.coded).0 in (
            (
              ap (λ q. kinds_of op.Equal (q ∷ k.Text ∷ [])) own.named ∙ alike_kinds k.Text,
              (subst (λ q. IsColumnAt (place_of h.id xs) h.id q xs) (sym own.named) own.column, (tt, tt)),
              refl,
            ),
            refl,
            record { constants = (tt, (writable, tt)); shallow = omega arith },
          )

      others_there : AreAmong ks xs
      others_there = subst (AreAmong ks) (sym (columns_split a)) (among_front ks (identifiers_of a) (others_of a) (others_among h.id a is.well))

      exps_for : AreFor p xs es ts
      exps_for =
          let kind = kind_at (place_of h.measure xs) h.measure h.kind xs is.itemized.measured (columns_apart a is.well) in
          subst (AreFor p xs es) (sym (item_columns h a is))
          (for_append p xs (columns_named xs ks) _ ks (behind h a is) (columns_for p xs ks (columns_apart a is.well) others_there)
          (subst (λ q. IsColumnAt (place_of h.measure xs) h.measure q xs) (sym kind) is.itemized.measured, kind, (tt, refl, tt)))

      exps_written : AllCanBeWritten es
      exps_written = all_append CanBeWritten (columns_named xs ks) _ (columns_written xs ks) (record { constants = tt; shallow = omega arith }, (record { constants = tt; shallow = omega arith }, tt))

      quiet : (r : Row) → P r → point_fault p es r ≡ None
      quiet r i = columns_sure p xs ks _ r

      point_is : (r : Row) → P r → point_of p es r ≡ item_of r
      point_is r i = points_append p (columns_named xs ks) _ r ∙ ap (λ l. l ++ (cell r ∷ c.Bool true ∷ [])) (columns_point p xs ks r ∙ named_cells xs ks r)

      none : faults_by (λ r. fault_in (value p test r)) d ≡ None
      none = faults_same P (λ r. fault_in (value p test r)) (λ r. None) (λ r i. ap fault_in (truth r i)) d set.typed ∙ no_faults d

      kept : filter (λ r. is_true (value p test r)) d ≡ filter has d
      kept = filter_same (λ r. is_true (value p test r)) has d (all_more P (λ r. is_true (value p test r) ≡ has r) (λ r i. ap is_true (truth r i)) d set.typed)

      rows_are : after (filter_of p test d) (each_point p es) ≡ Ok item_points
      rows_are =
          ap (λ f. after (unless f (filter (λ r. is_true (value p test r)) d)) (each_point p es)) none
          ∙ ap (each_point p es) kept
          ∙ each_sure p P es quiet (filter has d) (AllByRecursion-filter P has d set.typed)
          ∙ ap Ok (map_same (point_of p es) item_of (filter has d) (all_more P (λ r. point_of p es r ≡ item_of r) point_is (filter has d) (AllByRecursion-filter P has d set.typed)))

      pub item_exactly : IsExactly p now (item_query p h a item name) (t h a is) (Ok item_points)
      item_exactly =
          exactly_same p now (item_query p h a item name) (t h a is) (after (filter_of p test d) (each_point p es)) (Ok item_points) rows_are
          (kept_mean p law now name a d there named is.well na es (t h a is) exps_for exps_written (item_given h a is na kinds) test tested set.typed)
