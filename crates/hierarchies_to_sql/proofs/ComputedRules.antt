-- The select of a rule of `hierarchy` gives the rows of the item that it computes, or its fault.
use Rattle.std.proofs.Common.{◌≡◌, ◌≤◌, ◌<◌, ◌+◌, ◌^◌, ℕ, Bool, true, false, cond, List, [], ◌∷◌, ◌++◌, length, map, take, Option, Some, None, refl, sym, ap, ◌∙◌, subst, arith}
use Rattle.std.specs.Prelude.{option_map}
use Rattle.std.specs.List.{AllByRecursion, cons_option, filter_map, find, flat_map}
use Rattle.std.specs.Option.{IfSome, option_map_or, option_to_list}
use Rattle.std.proofs.lemmas.List.{length-map}
use Rattle.vtl_decimal.specs.Settings.{Settings}
use Rattle.vtl_decimal.specs.declared.number.Fault.{Fault}
use Rattle.vtl_cell.specs.Literals.{is_null_kind}
use Rattle.vtl_cell.specs.Outcome.{Outcome, after, fault_in, faults_by, unless}
use Rattle.vtl_cell.specs.Row.{Row, same_key, same_row}
use Rattle.vtl_cell.specs.ScalarKinds.{meets}
use Rattle.vtl_cell.specs.declared.cell.Cell.{Cell}
use Rattle.vtl_cell.specs.declared.cell.Cell.TheVariants as c
use Rattle.vtl_cell.specs.declared.kind.Kind.TheVariants as k
use Rattle.vtl_cell.proofs.Rows.{same_row-refl, same_row-sym}
use Rattle.vtl_lists.specs.Apart.{all_apart}
use Rattle.vtl_lists.proofs.Aparts.{apart_parts}
use Rattle.vtl_lists.proofs.Alls.{all_append, all_both, all_more}
use Rattle.vtl_syntax.specs.declared.statements.HierRule.{HierRule}
use Rattle.vtl_syntax.specs.declared.word_groups.Mode.{Mode}
use Rattle.vtl_tree.specs.Columns.{columns_named, identifiers_of, place_of}
use Rattle.vtl_tree.specs.CompExp.{CompExp, const}
use Rattle.vtl_tree.specs.DataSet.{IsDataSet, is_point}
use Rattle.vtl_tree.specs.RuleItems.{right_items, signed_item}
use Rattle.vtl_tree.specs.Structure.{columns_of, key_width}
use Rattle.vtl_tree.specs.Value.{value}
use Rattle.vtl_tree.specs.declared.structure.Component.{Component}
use Rattle.vtl_tree.specs.declared.structure.Structure.{Structure}
use Rattle.vtl_tree.proofs.Faults.{join_none}
use Rattle.vtl_tuples.proofs.Lists.{map-map}
use Rattle.vtl_meaning.specs.Made.{AreFor, IsColumnAt}
use Rattle.vtl_meaning.specs.Points.{cell_or_null, each_point, point_fault, point_of, with_points}
use Rattle.vtl_meaning.proofs.Drawn.{AreDrawn, AtMostOne, drawn_all, drawn_apart}
use Rattle.vtl_meaning.proofs.TurnedKept.{filter_map_drawn}
use Rattle.vtl_meaning.proofs.ValueKinds.{IsOf}
use Rattle.vtl_rulings.specs.Hierarchies.{computed}
use Rattle.vtl_rulings.specs.HierarchyChecks.{Ruled}
use Rattle.vtl_rulings.specs.Modes.{Found, Items, appears}
use Rattle.vtl_rulings.specs.Sides.{right_side}
use Rattle.sql_tree.specs.Trees.{Text}
use Rattle.sql_meaning.specs.Scripts.{Data}
use Rattle.joins_to_sql.specs.Joins.{placed_at, placed_from, where_of, width_of}
use Rattle.joins_to_sql.proofs.HeldOperands.{IsHeld}
use Rattle.selects_to_sql.specs.Writable.{CanBeWritten, HaveNames}
use Rattle.selects_to_sql.proofs.Exact.{IsExactly}
use Rattle.selects_to_sql.proofs.Expressions.{Translates}
use Rattle.selects_to_sql.proofs.OneOperand.{columns_written, same_functions}
use Rattle.selects_to_sql.proofs.SelectItems.{GivesRows, gives_same}
use Rattle.selects_to_sql.proofs.Selects.{IsTest}
use Rattle.selects_to_sql.proofs.Unions.{one_exactly}
use Rattle.rules_to_sql.proofs.Columns.{columns_sure, for_append, points_append}
use Rattle.hierarchies_to_sql.specs.ItemTables.{Tables, leaf_at, leaves_for, structures_for}
use Rattle.hierarchies_to_sql.specs.RuleSelects.{beside_items, computed_exps, computed_query}
use Rattle.hierarchies_to_sql.specs.SideExps.{Leaf, appears_exp, right_exp}
use Rattle.hierarchies_to_sql.specs.Writable.{CanBeSided, most_items}
use Rattle.hierarchies_to_sql.proofs.ChainRows.{IsLead, ItemsAt, beside_give, combination, first, lead_cells}
use Rattle.hierarchies_to_sql.proofs.ItemColumns.{IsSided, behind, item_columns, item_given, item_is_structure, keys, others, t}
use Rattle.hierarchies_to_sql.proofs.ItemTables.{IsItemTable, has_key, item_point, item_row, key_front, key_values}
use Rattle.hierarchies_to_sql.proofs.KeptRows.{IsMade, kept_sure}
use Rattle.hierarchies_to_sql.proofs.RuleSelects.{TablesKnow, all_at, columns, found_of, leaves_show, row, sure_tells}
use Rattle.hierarchies_to_sql.proofs.SideColumns.{IsKept, leaves_count, leaves_typed, others_for, others_kept}
use Rattle.hierarchies_to_sql.proofs.SideExps as sides
use Rattle.hierarchies_to_sql.proofs.TypedSides.{AreLeaves, IsLeaf, IsTruth, appears_sound, as_written, right_sound}

-- ---- the table of an item of which this is found at the combinations

module _ (h : Ruled) (a : Structure) (is : IsSided h a) (found : Row → Found) where
  abbrev T : Structure
  T = t h a is

  abbrev ks : List Component
  ks = others h a is

  abbrev one : Row → Option Row
  one row = option_map (item_row row) (found row)

  abbrev pub found_rows : List Row → List Row
  found_rows rows = filter_map one rows

  abbrev Fits : Row → Type 0
  Fits row = (is_point ks row ≡ true) × IfSome (found row) (IsOf h.kind)

  abbrev Draws : Row → Row → Type 0
  Draws row q = (is_point (columns_of T) q ≡ true) × (take (key_width T) q ≡ row)

  one_drawn : (row : Row) (o : Found) → is_point ks row ≡ true → IfSome o (IsOf h.kind) → AtMostOne (Draws row) (option_to_list (option_map (item_row row) o))
  one_drawn row None i j = tt
  one_drawn row (Some v) i j = (item_point h a is row v i j, key_front h a is row v i)

  drawn : (rows : List Row) → AllByRecursion Fits rows → AreDrawn Draws (λ row. option_to_list (one row)) rows
  drawn rows all = all_more Fits (λ row. AtMostOne (Draws row) (option_to_list (one row))) (λ row i. one_drawn row (found row) i.0 i.1) rows all

  back : (r u q z : Row) → Draws r q → Draws u z → same_key (key_width T) q z ≡ true → same_row r u ≡ true
  back r u q z i j e = ap (λ l. same_row l u) (sym i.1) ∙ ap (same_row (take (key_width T) q)) (sym j.1) ∙ e

  -- ---- what is found in it

  nothing : (row : Row) (rows : List Row) → AllByRecursion (λ j. same_row row j ≡ false) rows → AllByRecursion Fits rows → find (has_key h a is row) (found_rows rows) ≡ None
  nothing row [] apart all = refl
  nothing row (j ∷ rows) apart all = go (found j) all.0.1 (nothing row rows apart.1 all.1)
    where
      go : (o : Found) → IfSome o (IsOf h.kind) → find (has_key h a is row) (found_rows rows) ≡ None → find (has_key h a is row) (cons_option (option_map (item_row j) o) (found_rows rows)) ≡ None
      go None i ih = ih
      go (Some v) i ih =
          let other : has_key h a is row (item_row j v) ≡ false = ap (λ l. same_row l row) (key_values h a is j v all.0.0 i) ∙ same_row-sym j row ∙ apart.0 in
          ap (λ b. cond b (Some (item_row j v)) (find (has_key h a is row) (found_rows rows))) other ∙ ih

  found_own : (rows : List Row) → all_apart same_row rows ≡ true → AllByRecursion Fits rows → AllByRecursion (λ row. find (has_key h a is row) (found_rows rows) ≡ one row) rows
  found_own [] e all = tt
  found_own (j ∷ rows) e all =
      let parts = apart_parts same_row j rows e in
      let Finds : Row → Type 0 = λ row. find (has_key h a is row) (found_rows rows) ≡ one row in
      (head (found j) all.0.1 (nothing j rows parts.0 all.1), all_both (λ row. same_row j row ≡ false) Finds (λ row. find (has_key h a is row) (found_rows (j ∷ rows)) ≡ one row) (λ row f g. later row (found j) all.0.1 f ∙ g) rows parts.0 (found_own rows parts.1 all.1))
    where
      head : (o : Found) → IfSome o (IsOf h.kind) → find (has_key h a is j) (found_rows rows) ≡ None → find (has_key h a is j) (cons_option (option_map (item_row j) o) (found_rows rows)) ≡ option_map (item_row j) o
      head None i none = none
      head (Some v) i none = ap (λ b. cond b (Some (item_row j v)) (find (has_key h a is j) (found_rows rows))) (ap (λ l. same_row l j) (key_values h a is j v all.0.0 i) ∙ same_row-refl j)

      later : (row : Row) (o : Found) → IfSome o (IsOf h.kind) → same_row j row ≡ false → find (has_key h a is row) (cons_option (option_map (item_row j) o) (found_rows rows)) ≡ find (has_key h a is row) (found_rows rows)
      later row None i f = refl
      later row (Some v) i f = ap (λ b. cond b (Some (item_row j v)) (find (has_key h a is row) (found_rows rows))) (ap (λ l. same_row l row) (key_values h a is j v all.0.0 i) ∙ f)

  pub found_table : (rows : List Row) → all_apart same_row rows ≡ true → AllByRecursion (λ row. is_point ks row ≡ true) rows → AllByRecursion (λ row. IfSome (found row) (IsOf h.kind)) rows → IsItemTable h a is found (found_rows rows) rows
  found_table rows apart typed kinds =
      let all = all_both (λ row. is_point ks row ≡ true) (λ row. IfSome (found row) (IsOf h.kind)) Fits (λ row i j. (i, j)) rows typed kinds in
      record {
        set = subst (IsDataSet T) (sym (filter_map_drawn one rows)) (record {
          well_formed = item_is_structure h a is;
          typed = drawn_all Draws (λ q. is_point (columns_of T) q ≡ true) (λ r q i. i.0) (λ row. option_to_list (one row)) rows (drawn rows all);
          distinct = drawn_apart Draws same_row (same_key (key_width T)) back (λ row. option_to_list (one row)) rows (drawn rows all) apart;
        });
        at = found_own rows apart all;
        kinds = kinds;
      }

-- ---- a rule

module _ (p : Settings) (law : Translates p) (now : Data) (h : Ruled) (a : Structure) (is : IsSided h a) (na : HaveNames (columns_of a)) (kinds : AllByRecursion (λ y. is_null_kind y.kind ≡ false) (identifiers_of a)) (qs : List Row) (x : Text) (here : IsHeld now x (with_points (keys h a is) qs)) (typed : AllByRecursion (IsLead h a is) qs) (tables : Tables)
    (m : Mode) (items : Row → Items) (r : HierRule) (sided : CanBeSided p r) (known : TablesKnow p law now h a is na kinds qs x here typed tables items (right_items r)) where
  abbrev S : Structure
  S = t h a is

  abbrev os : List Component
  os = others h a is

  abbrev F : List Component
  F = first h a is

  abbrev at : Row → Row
  at q = combination h a is q

  abbrev names : List (List ℕ)
  names = right_items r

  few : 1 + length (map tables names) < 2 ^ 64
  few = let low = sided.few in let size = length-map names tables in omega (arith, low, size)

  abbrev R : Row → Row
  R q = row p law now h a is na kinds qs x here typed tables items names known few q

  abbrev Here : Row → Type 0
  Here q = IsLead h a is q × ItemsAt h a is now (map at qs) (at q) (map tables names) (map (found_of items) names) known

  abbrev leaves : List Leaf
  leaves = leaves_for h a names

  abbrev right : CompExp
  right = right_exp m h.kind r leaves

  abbrev es : List CompExp
  es = computed_exps p h a x tables m r

  abbrev condition : Option CompExp
  condition = appears_exp m h.kind leaves

  abbrev side : Row → Outcome Cell
  side q = right_side p m h.kind (items (at q)) r

  abbrev there : Row → Bool
  there q = appears m (map (items (at q)) names)

  abbrev point : Row → Row
  point q = item_row (at q) (cell_or_null (side q))

  shows : (q : Row) → Here q → sides.AllShow p h.kind is.itemized.numeric (R q) leaves (map (items (at q)) names)
  shows q i = leaves_show p law now h a is na kinds qs x here typed tables items names known few q i

  right_is : (q : Row) → Here q → value p right (R q) ≡ side q
  right_is q i = sides.right_is p h.kind is.itemized.numeric (R q) m (items (at q)) r leaves (shows q i)

  places : AllByRecursion (λ y. IsColumnAt (place_of y.name F) y.name y.kind F) os
  places = all_more (IsKept p h a is) (λ y. IsColumnAt (place_of y.name F) y.name y.kind F) (λ y i. i.1) os (others_kept p h a is)

  point_is : (q : Row) → Here q → point_of p es (R q) ≡ point q
  point_is q i =
      points_append p (columns_named F os) (right ∷ const (c.Bool true) ∷ []) (R q)
      ∙ ap (λ l. l ++ (cell_or_null (value p right (R q)) ∷ c.Bool true ∷ [])) (lead_cells h a is p law now na kinds qs x here typed (map tables names) (map (found_of items) names) known few q i.0 os places)
      ∙ ap (λ v. item_row (at q) (cell_or_null v)) (right_is q i)

  fault_is : (q : Row) → Here q → point_fault p es (R q) ≡ fault_in (side q)
  fault_is q i = columns_sure p F os (right ∷ const (c.Bool true) ∷ []) (R q) ∙ join_none (fault_in (value p right (R q))) ∙ ap fault_in (right_is q i)

  abbrev Made : Row → Type 0
  Made q = IsMade p condition es R (λ z. None) there (λ z. fault_in (side z)) point q

  made : (q : Row) → Here q → Made q
  made q i = record {
    told = sure_tells p h.kind is.itemized.numeric (R q) condition (there q) (sides.appears_is p h.kind is.itemized.numeric (R q) m leaves (map (items (at q)) names) (shows q i));
    fault = λ n e. fault_is q i;
    point = λ n e. point_is q i;
  }

  -- what the rule computes at a row
  abbrev pub computes : Row → Option (Outcome Cell)
  computes q = computed p m h.kind (items (at q)) r

  abbrev pub fault_of : Row → Option Fault
  fault_of q = option_map_or fault_in (computes q) None

  abbrev pub row_made : Row → Option Row
  row_made q = option_map (λ v. item_row (at q) (cell_or_null v)) (computes q)

  rows_are : after (where_of p condition (map R qs)) (each_point p es) ≡ unless (faults_by fault_of qs) (filter_map row_made qs)
  rows_are =
      kept_sure p condition es R (λ z. None) there (λ z. fault_in (side z)) point (λ z. refl) qs (all_more Here Made made qs (all_at p law now h a is na kinds qs x here typed tables items names known few))
      ∙ ap (λ f. unless (faults_by f qs) (filter_map (λ q. cond (there q) (Some (point q)) None) qs)) (same_functions (λ q. cond (there q) (fault_in (side q)) None) fault_of (λ q. one_fault (there q) (side q)))
      ∙ ap (λ f. unless (faults_by fault_of qs) (filter_map f qs)) (same_functions (λ q. cond (there q) (Some (point q)) None) row_made (λ q. one_row (there q) (at q) (side q)))
    where
      one_fault : (b : Bool) (v : Outcome Cell) → cond b (fault_in v) None ≡ option_map_or fault_in (cond b (Some v) None) None
      one_fault true v = refl
      one_fault false v = refl

      one_row : (b : Bool) (k : Row) (v : Outcome Cell) → cond b (Some (item_row k (cell_or_null v))) None ≡ option_map (λ u. item_row k (cell_or_null u)) (cond b (Some v) None)
      one_row true k v = refl
      one_row false k v = refl

  -- ---- its form

  abbrev n : ℕ
  n = width_of (keys h a is)

  abbrev first_right : Leaf
  first_right = leaf_at h (placed_at n S)

  abbrev rest : List Leaf
  rest = map (leaf_at h) (placed_from (n + width_of S) (structures_for h a (map signed_item r.others)))

  abbrev ws : List Component
  ws = columns p law now h a is na kinds qs x here typed tables items names known few

  are_leaves : AreLeaves p ws h.kind is.itemized.numeric (first_right ∷ rest)
  are_leaves = subst (λ ss. AllByRecursion (IsLeaf p ws h.kind is.itemized.numeric) (map (leaf_at h) (placed_from n ss))) (map-map (λ z. S) tables names) (leaves_typed p h a is (map tables names))

  few_rest : length rest + 2 ≤ most_items
  few_rest =
      let low = sided.few in
      let size = leaves_count p h a is (n + width_of S) (map signed_item r.others) in
      let many = length-map r.others signed_item in
      omega (arith, low, size, many)

  tested : (e : Option CompExp) → IfSome e (IsTruth p ws (3 + length (first_right ∷ rest))) → IsTest p ws e
  tested None s = tt
  tested (Some e) s = let low = few_rest in (s.typed, ap (meets k.Bool) s.kind, as_written p ws k.Bool (3 + length (first_right ∷ rest)) e (omega (arith, low)) s)

  pub computed_gives : GivesRows p now S (beside_items p h a x (map tables names) es S condition) (unless (faults_by fault_of qs) (filter_map row_made qs))
  computed_gives =
      let sound = right_sound p ws h.kind is.itemized.numeric m r first_right rest are_leaves in
      let low = few_rest in
      gives_same p now S (beside_items p h a x (map tables names) es S condition) (after (where_of p condition (map R qs)) (each_point p es)) (unless (faults_by fault_of qs) (filter_map row_made qs)) rows_are
      (beside_give h a is p law now na kinds qs x here typed (map tables names) (map (found_of items) names) known few es S condition
      (subst (AreFor p ws es) (sym (item_columns h a is)) (for_append p ws (columns_named F os) (right ∷ const (c.Bool true) ∷ []) os (behind h a is) (others_for p h a is (flat_map columns_of (structures_for h a (map tables names)))) (sound.typed, sound.kind, (tt, refl, tt))))
      (all_append CanBeWritten (columns_named F os) (right ∷ const (c.Bool true) ∷ []) (columns_written F os) (as_written p ws h.kind (3 + length rest) right (omega (arith, low)) sound, (record { constants = tt; shallow = omega arith }, tt)))
      (item_given h a is na kinds) (tested condition (appears_sound p ws h.kind is.itemized.numeric m (first_right ∷ rest) are_leaves)))

  pub computed_exactly : IsExactly p now (computed_query p h a x tables m r) S (unless (faults_by fault_of qs) (filter_map row_made qs))
  computed_exactly = one_exactly p now S (item_given h a is na kinds) (beside_items p h a x (map tables names) es S condition) (unless (faults_by fault_of qs) (filter_map row_made qs)) computed_gives
