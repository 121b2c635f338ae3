-- The rows of the combinations beside tables of items show, at all_each combination, what the tables hold of the items.
use Rattle.std.proofs.Common.{◌≡◌, ◌<◌, ◌+◌, ◌^◌, ℕ, zero, suc, Bool, true, false, List, [], ◌∷◌, ◌++◌, length, map, Option, Some, None, Ok, refl, sym, ap, ◌∙◌, subst, arith}
use Rattle.std.specs.Prelude.{option_map}
use Rattle.std.specs.List.{AllByRecursion, find, flat_map}
use Rattle.std.specs.Option.{IfSome, option_map_or, option_to_list}
use Rattle.std.proofs.lemmas.List.{get_or-append-add, length-map}
use Rattle.std.proofs.lemmas.List.Concat.{flat_map_single}
use Rattle.std.proofs.lemmas.List.Folds.{flat_map-map}
use Rattle.vtl_lists.proofs.Alls.{all_both, all_each}
use Rattle.vtl_decimal.specs.Settings.{Settings}
use Rattle.vtl_cell.specs.Kinds.{is_of}
use Rattle.vtl_cell.specs.Literals.{is_null_kind}
use Rattle.vtl_cell.specs.Outcome.{after}
use Rattle.vtl_cell.specs.Row.{Row, column_of, same_row}
use Rattle.vtl_cell.specs.declared.cell.Cell.{Cell}
use Rattle.vtl_cell.specs.declared.cell.Cell.TheVariants as c
use Rattle.vtl_cell.specs.declared.kind.Kind.{Kind}
use Rattle.vtl_rows.specs.Tables.{cells_at}
use Rattle.vtl_tree.specs.Columns.{column_named, columns_named, identifiers_of, place_of, places_in}
use Rattle.vtl_tree.specs.CompExp.{CompExp}
use Rattle.vtl_tree.specs.DataSet.{is_point}
use Rattle.vtl_tree.specs.Environment.{DataSet}
use Rattle.vtl_tree.specs.Structure.{columns_of}
use Rattle.vtl_tree.specs.Value.{value}
use Rattle.vtl_tree.specs.declared.structure.Component.{Component}
use Rattle.vtl_tree.specs.declared.structure.Structure.{Structure}
use Rattle.vtl_tuples.proofs.Lists.{filter_each, flat_map_each}
use Rattle.vtl_meaning.specs.Agreement.{values_in}
use Rattle.vtl_meaning.specs.Joined.{structures_of}
use Rattle.vtl_meaning.specs.LookUps.{value_named}
use Rattle.vtl_meaning.specs.Made.{AreAmong, AreFor, IsColumnAt}
use Rattle.vtl_meaning.specs.Points.{each_point, point_of, with_points}
use Rattle.vtl_meaning.proofs.JoinAgreements.{covers, key_only}
use Rattle.vtl_meaning.proofs.JoinKept.{key_is}
use Rattle.vtl_meaning.proofs.JoinParts.{found_is}
use Rattle.vtl_meaning.proofs.Kept.{column_within}
use Rattle.vtl_meaning.proofs.LookUps.{named_cells}
use Rattle.vtl_meaning.proofs.OwnColumns.{own_among, own_identifiers}
use Rattle.vtl_meaning.proofs.Places.{all_of_map, point_length}
use Rattle.vtl_meaning.proofs.TurnedKept.{others_identify}
use Rattle.vtl_meaning.proofs.ValueKinds.{IsOf}
use Rattle.vtl_rulings.specs.HierarchyChecks.{Ruled}
use Rattle.vtl_rulings.specs.HierarchyShapes.{IsNumeric}
use Rattle.vtl_rulings.specs.Modes.{Found}
use Rattle.sql_tree.specs.Trees.{Text}
use Rattle.sql_tree.specs.declared.word_groups.JoinKind.TheVariants as joining
use Rattle.sql_meaning.specs.Scripts.{Data}
use Rattle.joins_to_sql.specs.Joins.{chain_select, placed_from, where_of, width_of}
use Rattle.joins_to_sql.proofs.Chains.{AllTied, IsTied, agrees, cells_or_nulls, extended_by, found}
use Rattle.joins_to_sql.proofs.ChainSelects.{chain_gives, chain_rows}
use Rattle.joins_to_sql.proofs.HeldOperands.{AreHeld, IsHeld}
use Rattle.joins_to_sql.proofs.JoinedColumns.{AllShown, Shows}
use Rattle.joins_to_sql.proofs.JoinedRows.{IsFound, first_shown, founds, left_extended, parts_found, shown_from, with_parts}
use Rattle.selects_to_sql.specs.Runs.{held}
use Rattle.selects_to_sql.specs.Writable.{AllCanBeWritten, HaveNames}
use Rattle.selects_to_sql.proofs.Expressions.{Translates}
use Rattle.selects_to_sql.proofs.Givens.{AreGiven}
use Rattle.selects_to_sql.proofs.Identifiers.{few_identifiers, identifiers_there, own_there}
use Rattle.selects_to_sql.proofs.Loose.{all_loose}
use Rattle.selects_to_sql.proofs.OneOperand.{same_functions}
use Rattle.selects_to_sql.proofs.Running.{columns_there}
use Rattle.selects_to_sql.proofs.SelectItems.{GivesRows, gives_same}
use Rattle.selects_to_sql.proofs.Selects.{IsTest}
use Rattle.rules_to_sql.proofs.LeftJoins.{null_cell}
use Rattle.hierarchies_to_sql.specs.ItemTables.{leaf_at, structures_for}
use Rattle.hierarchies_to_sql.specs.RuleSelects.{beside_items}
use Rattle.hierarchies_to_sql.proofs.ItemColumns.{IsSided, item_identifiers, item_is_structure, item_named, item_width, keys, keys_are_given, keys_identifiers, keys_well, measure_place, others, others_apart, t, there_place}
use Rattle.hierarchies_to_sql.proofs.ItemTables.{IsItemTable, Knows, has_key, item_row}
use Rattle.hierarchies_to_sql.proofs.SideExps as sides

-- a cell of a tuple is that of its column
cell_back : (xs ys : List Component) (q : Row) (place : ℕ) (name : List ℕ) (kind : Kind) → IsColumnAt place name kind ys → column_of place (cells_at (places_in xs ys) q) ≡ column_of (place_of name xs) q
cell_back xs [] q place name kind i = absurd i
cell_back xs (y ∷ ys) q zero name kind i = ap (λ n. column_of (place_of n xs) q) i.0
cell_back xs (y ∷ ys) q (suc place) name kind i = cell_back xs ys q place name kind i

kind_told : (kind : Kind) (x : Found) → IfSome x (IsOf kind) → option_map_or (λ v. is_of kind v) x true ≡ true
kind_told kind None h = refl
kind_told kind (Some v) h = h

module _ (h : Ruled) (a : Structure) (is : IsSided h a) where
  abbrev T : Structure
  T = t h a is

  abbrev ks : List Component
  ks = others h a is

  abbrev pub first : List Component
  first = columns_of (keys h a is)

  -- the combination of a row of their table
  abbrev pub combination : Row → Row
  combination q = cells_at (places_in first ks) q

  abbrev pub IsLead : Row → Type 0
  IsLead q = is_point first q ≡ true

  pub combination_is : (q : Row) → IsLead q → is_point ks (combination q) ≡ true
  combination_is q i =
      let own : AreAmong ks (identifiers_of (keys h a is)) = subst (AreAmong ks) (sym (keys_identifiers h a is)) (own_among ks (others_apart h a is)) in
      subst (λ r. is_point ks r ≡ true) (sym (named_cells first ks q)) (key_is ks (keys h a is) q (others_identify h.id a) own i)

  -- the columns of the combinations and of tables of items
  abbrev pub source_columns : (tables : List Text) → List Component
  source_columns xs = first ++ flat_map columns_of (structures_for h a xs)

  abbrev pub all_columns : (tables : List Text) → List Component
  all_columns xs = all_loose (source_columns xs)

  -- tables that hold items at these combinations
  abbrev pub AllKnown : Data → List Row → List Text → List (Row → Found) → Type 0
  AllKnown now combinations [] [] = Unit {0}
  AllKnown now combinations [] (g ∷ gs) = ⊥
  AllKnown now combinations (x ∷ xs) [] = ⊥
  AllKnown now combinations (x ∷ xs) (g ∷ gs) = Knows h a is now x g combinations × AllKnown now combinations xs gs

  module _ (now : Data) (combinations : List Row) where
    -- what they hold
    abbrev sets : (xs : List Text) (gs : List (Row → Found)) → AllKnown now combinations xs gs → List DataSet
    sets [] [] known = []
    sets [] (g ∷ gs) known = []
    sets (x ∷ xs) [] known = []
    sets (x ∷ xs) (g ∷ gs) known = with_points T known.0.rows ∷ sets xs gs known.1

    same_structures : (xs : List Text) (gs : List (Row → Found)) (known : AllKnown now combinations xs gs) → structures_of (sets xs gs known) ≡ structures_for h a xs
    same_structures [] [] known = refl
    same_structures [] (g ∷ gs) known = absurd known
    same_structures (x ∷ xs) [] known = absurd known
    same_structures (x ∷ xs) (g ∷ gs) known = ap (λ l. T ∷ l) (same_structures xs gs known.1)

    are_held : (xs : List Text) (gs : List (Row → Found)) (known : AllKnown now combinations xs gs) → AreHeld now xs (sets xs gs known)
    are_held [] [] known = tt
    are_held [] (g ∷ gs) known = absurd known
    are_held (x ∷ xs) [] known = absurd known
    are_held (x ∷ xs) (g ∷ gs) known = (record { word = known.0.word; table = known.0.table; known = columns_there now x (held T known.0.rows) known.0.table }, are_held xs gs known.1)

    -- what is found at a combination
    abbrev pub ItemsAt : Row → (xs : List Text) (gs : List (Row → Found)) → AllKnown now combinations xs gs → Type 0
    ItemsAt row [] [] known = Unit {0}
    ItemsAt row [] (g ∷ gs) known = ⊥
    ItemsAt row (x ∷ xs) [] known = ⊥
    ItemsAt row (x ∷ xs) (g ∷ gs) known = (find (has_key h a is row) known.0.rows ≡ option_map (item_row row) (g row)) × IfSome (g row) (IsOf h.kind) × ItemsAt row xs gs known.1

    all_items : (xs : List Text) (gs : List (Row → Found)) (known : AllKnown now combinations xs gs) → AllByRecursion (λ row. ItemsAt row xs gs known) combinations
    all_items [] [] known = all_each (λ row. Unit {0}) (λ row. tt) combinations
    all_items [] (g ∷ gs) known = absurd known
    all_items (x ∷ xs) [] known = absurd known
    all_items (x ∷ xs) (g ∷ gs) known =
        let Finds : Row → Type 0 = λ row. find (has_key h a is row) known.0.rows ≡ option_map (item_row row) (g row) in
        let Kinds : Row → Type 0 = λ row. IfSome (g row) (IsOf h.kind) in
        let Rest : Row → Type 0 = λ row. ItemsAt row xs gs known.1 in
        all_both Finds (λ row. Kinds row × Rest row) (λ row. ItemsAt row (x ∷ xs) (g ∷ gs) known) (λ row i j. (i, j.0, j.1)) combinations known.0.item.at
        (all_both Kinds Rest (λ row. Kinds row × Rest row) (λ row i j. (i, j)) combinations known.0.item.kinds (all_items xs gs known.1))

  module _ (p : Settings) (law : Translates p) (now : Data) (na : HaveNames (columns_of a)) (kinds : AllByRecursion (λ y. is_null_kind y.kind ≡ false) (identifiers_of a)) (qs : List Row) (x : Text) (here : IsHeld now x (with_points (keys h a is) qs)) (typed : AllByRecursion IsLead qs)
      (xs : List Text) (gs : List (Row → Found)) (known : AllKnown now (map combination qs) xs gs) (few : 1 + length xs < 2 ^ 64) where
    abbrev rows : List Row
    rows = map combination qs

    abbrev ds : List DataSet
    ds = sets now rows xs gs known

    abbrev ws : List ℕ
    ws = map width_of (structures_of ds)

    pub few_sources : length (length first ∷ ws) < 2 ^ 64
    few_sources =
        let same = ap (λ l. length (map width_of l)) (same_structures now rows xs gs known) in
        let size = length-map (structures_for h a xs) width_of in
        let many = length-map xs (λ item. T) in
        omega (arith, few, same, size, many)

    abbrev found_at : Row → DataSet → Option Row
    found_at q d = found p law now first identifiers_of ws few_sources joining.Left tt d q

    abbrev test : List Row → Row → Row → Bool
    test l q y = agrees p law now first identifiers_of ws few_sources joining.Left tt (with_points T l) q y

    same_tests : (l : List Row) (q y : Row) → test l q y ≡ has_key h a is (combination q) y
    same_tests l q y =
        ap (λ z. same_row z (cells_at (places_in first (identifiers_of T)) q)) (named_cells (columns_of T) (identifiers_of T) y)
        ∙ ap (λ ys. same_row (values_in T (identifiers_of T) y) (cells_at (places_in first ys) q)) (item_identifiers h a is)

    found_same : (l : List Row) (q : Row) → found_at q (with_points T l) ≡ find (has_key h a is (combination q)) l
    found_same l q = ap (λ z. find z l) (same_functions (test l q) (has_key h a is (combination q)) (same_tests l q))

    tied_one : (g : Row → Found) (l : List Row) → IsItemTable h a is g l rows → IsTied p law now first identifiers_of ws few_sources joining.Left tt (with_points T l)
    tied_one g l i =
        let w = item_is_structure h a is in
        record {
          set = i.set;
          named = item_named h a is na kinds;
          ours = identifiers_there (keys h a is) (keys_well h a is) (identifiers_of T) (subst (AreAmong (identifiers_of T)) (item_identifiers h a is ∙ sym (keys_identifiers h a is)) (own_identifiers T w));
          theirs = own_there T w;
          counted = few_identifiers T w;
          only = λ q lead.
              filter_each (test l q) (has_key h a is (combination q)) (same_tests l q) l
              ∙ key_only T (with_points T l) (combination q) (covers T T (own_identifiers T w)) i.set
              ∙ ap option_to_list (sym (found_same l q));
        }

    all_tied : (ys : List Text) (fs : List (Row → Found)) (j : AllKnown now rows ys fs) → AllTied p law now first identifiers_of ws few_sources joining.Left tt (sets now rows ys fs j)
    all_tied [] [] j = tt
    all_tied [] (f ∷ fs) j = absurd j
    all_tied (y ∷ ys) [] j = absurd j
    all_tied (y ∷ ys) (f ∷ fs) j = (tied_one f j.0.rows j.0.item, all_tied ys fs j.1)

    -- ---- the row of a combination

    abbrev pub row_of : Row → Row
    row_of q = with_parts q (founds (found_at q) ds)

    are_found : (q : Row) (ys : List Text) (fs : List (Row → Found)) (j : AllKnown now rows ys fs) → AllByRecursion (IsFound (found_at q)) (sets now rows ys fs j)
    are_found q [] [] j = tt
    are_found q [] (f ∷ fs) j = absurd j
    are_found q (y ∷ ys) [] j = absurd j
    are_found q (y ∷ ys) (f ∷ fs) j = (
      record { well = item_is_structure h a is; typed = λ r e. found_is (λ z. is_point (columns_of T) z ≡ true) (test j.0.rows q) j.0.rows r j.0.item.set.typed e },
      are_found q ys fs j.1,
    )

    abbrev table_rows : List Row
    table_rows = chain_rows p law now (with_points (keys h a is) qs) (keys_well h a is) (keys_are_given h a is na kinds).named typed x here identifiers_of joining.Left tt ds xs few_sources (are_held now rows xs gs known)

    rows_are : table_rows ≡ map row_of qs
    rows_are =
        flat_map_each (λ q. extended_by joining.Left (founds (found_at q) ds) q) (λ q. row_of q ∷ []) (λ q. left_extended (founds (found_at q) ds) q) qs
        ∙ flat_map_single row_of qs

    -- ---- items

    module _ (numeric : IsNumeric h.kind) (q : Row) (lead : IsLead q) where
      abbrev k : Row
      k = combination q

      wide : length k ≡ length ks
      wide = point_length ks k (combination_is q lead)

      value_cell : (v : Cell) → column_of (length ks) (item_row k v) ≡ v
      value_cell v =
          let same : length ks ≡ length k + 0 = omega (arith, wide) in
          ap (λ n. column_of n (item_row k v)) same ∙ get_or-append-add k (v ∷ c.Bool true ∷ []) 0 c.Null

      there_cell : (v : Cell) → column_of (length ks + 1) (item_row k v) ≡ c.Bool true
      there_cell v =
          let same : length ks + 1 ≡ length k + 1 = omega (arith, wide) in
          ap (λ n. column_of n (item_row k v)) same ∙ get_or-append-add k (v ∷ c.Bool true ∷ []) 1 c.Null

      leaf_shows : (l : Row) (n : ℕ) (o : Option Row) (found : Found) → Shows l n (record { structure = T; point = o }) → o ≡ option_map (item_row k) found → IfSome found (IsOf h.kind) → sides.Shows p h.kind numeric l (leaf_at h (record { before = n; structure = T })) found
      leaf_shows l n o found s e i = record {
        found = ap (λ m. Ok (column_of (n + m) l)) (measure_place h a is) ∙ ap (λ v. Ok v) (shown (length ks) (omega (arith, size)) ∙ value_of found);
        there = ap (λ m. Ok (column_of (n + m) l)) (there_place h a is) ∙ ap (λ v. Ok v) (shown (length ks + 1) (omega (arith, size)) ∙ there_of found);
        of_kind = kind_told h.kind found i;
      }
        where
          size : width_of T ≡ length ks + 2
          size = item_width h a is

          shown : (place : ℕ) → place < width_of T → column_of (n + place) l ≡ column_of place (cells_or_nulls (width_of T) (option_map (item_row k) found))
          shown place low = s place low ∙ ap (λ z. column_of place (cells_or_nulls (width_of T) z)) e

          value_of : (y : Found) → column_of (length ks) (cells_or_nulls (width_of T) (option_map (item_row k) y)) ≡ option_map_or (λ v. v) y c.Null
          value_of None = null_cell (width_of T) (length ks)
          value_of (Some v) = value_cell v

          there_of : (y : Found) → column_of (length ks + 1) (cells_or_nulls (width_of T) (option_map (item_row k) y)) ≡ option_map_or (λ v. c.Bool true) y c.Null
          there_of None = null_cell (width_of T) (length ks + 1)
          there_of (Some v) = there_cell v

      all_show : (l : Row) (n : ℕ) (ys : List Text) (fs : List (Row → Found)) (j : AllKnown now rows ys fs) → AllShown l (placed_from n (structures_of (sets now rows ys fs j))) (parts_found (found_at q) (sets now rows ys fs j)) → ItemsAt now rows k ys fs j
          → sides.AllShow p h.kind numeric l (map (leaf_at h) (placed_from n (structures_for h a ys))) (map (λ f. f k) fs)
      all_show l n [] [] j s i = tt
      all_show l n [] (f ∷ fs) j s i = absurd j
      all_show l n (y ∷ ys) [] j s i = absurd j
      all_show l n (y ∷ ys) (f ∷ fs) j s i = (leaf_shows l n (found_at q (with_points T j.0.rows)) (f k) s.2 (found_same j.0.rows q ∙ i.0) i.1, all_show l (n + width_of T) ys fs j.1 s.3 i.2)

      -- the leaves of the tables show the items
      pub items_show : ItemsAt now rows k xs gs known → sides.AllShow p h.kind numeric (row_of q) (map (leaf_at h) (placed_from (width_of (keys h a is)) (structures_for h a xs))) (map (λ f. f k) gs)
      items_show i = all_show (row_of q) (length first) xs gs known (shown_from (found_at q) ds q (length first) (sym (point_length first q lead)) (are_found q xs gs known)) i

    -- the identifiers are those of the combination
    pub keys_show : (q : Row) → IsLead q → (y : Component) → IsColumnAt (place_of y.name ks) y.name y.kind ks → IsColumnAt (place_of y.name first) y.name y.kind first → value p (column_named first y.name) (row_of q) ≡ Ok (value_named ks (combination q) y.name)
    keys_show q lead y i j =
        let place = place_of y.name first in
        let low = column_within place y.name y.kind first j in
        let same : place ≡ 0 + place = omega arith in
        ap (λ n. Ok (column_of n (row_of q))) same
        ∙ ap (λ v. Ok v) (first_shown (keys h a is) q (founds (found_at q) ds) lead place low ∙ sym (cell_back first ks q (place_of y.name ks) y.name y.kind i))

    -- and so are all cells of it
    pub lead_cells : (q : Row) → IsLead q → (ys : List Component) → AllByRecursion (λ y. IsColumnAt (place_of y.name first) y.name y.kind first) ys → point_of p (columns_named first ys) (row_of q) ≡ cells_at (places_in first ys) q
    lead_cells q lead [] all = refl
    lead_cells q lead (y ∷ ys) all =
        let place = place_of y.name first in
        let same : place ≡ 0 + place = omega arith in
        ap (λ n. column_of n (row_of q) ∷ point_of p (columns_named first ys) (row_of q)) same
        ∙ ap (λ v. v ∷ point_of p (columns_named first ys) (row_of q)) (first_shown (keys h a is) q (founds (found_at q) ds) lead place (column_within place y.name y.kind first all.0))
        ∙ ap (λ l. column_of place q ∷ l) (lead_cells q lead ys all.1)

    pub facts : AllByRecursion (λ q. IsLead q × ItemsAt now rows (combination q) xs gs known) qs
    facts = all_both IsLead (λ q. ItemsAt now rows (combination q) xs gs known) (λ q. IsLead q × ItemsAt now rows (combination q) xs gs known) (λ q i j. (i, j)) qs typed (all_of_map combination (λ row. ItemsAt now rows row xs gs known) qs (all_items now rows xs gs known))

    -- ---- the select

    columns_same : all_columns xs ≡ all_loose (first ++ flat_map (λ d. columns_of d.structure) ds)
    columns_same =
        ap (λ l. all_loose (first ++ flat_map columns_of l)) (sym (same_structures now rows xs gs known))
        ∙ ap (λ l. all_loose (first ++ l)) (flat_map-map columns_of (λ d. d.structure) ds)

    pub beside_give : (es : List CompExp) (s : Structure) (condition : Option CompExp) → AreFor p (all_columns xs) es (columns_of s) → AllCanBeWritten es → AreGiven (columns_of s) → IsTest p (all_columns xs) condition
        → GivesRows p now s (beside_items p h a x xs es s condition) (after (where_of p condition (map row_of qs)) (each_point p es))
    beside_give es s condition i written given checked =
        let held_all = are_held now rows xs gs known in
        subst (λ ss. GivesRows p now s (chain_select p joining.Left first identifiers_of ss es s condition x xs) (after (where_of p condition (map row_of qs)) (each_point p es))) (same_structures now rows xs gs known)
        (gives_same p now s (chain_select p joining.Left first identifiers_of (structures_of ds) es s condition x xs) (after (where_of p condition table_rows) (each_point p es)) (after (where_of p condition (map row_of qs)) (each_point p es))
        (ap (λ l. after (where_of p condition l) (each_point p es)) rows_are)
        (chain_gives p law now (with_points (keys h a is) qs) (keys_well h a is) (keys_are_given h a is na kinds).named typed x here identifiers_of joining.Left tt ds xs few_sources held_all (all_tied xs gs known) es s
        (subst (λ ys. AreFor p ys es (columns_of s)) columns_same i) written given condition (subst (λ ys. IsTest p ys condition) columns_same checked)))
