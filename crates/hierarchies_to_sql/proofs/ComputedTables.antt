-- The tables of `hierarchy` mean the points that its rules compute.
use Rattle.std.proofs.Common.{◌≡◌, ◌<◌, ◌+◌, ◌^◌, ℕ, Bool, true, false, not, cond, List, [], ◌∷◌, ◌++◌, length, map, Option, Some, None, Ok, Err, refl, sym, ap, ◌∙◌, subst, arith, append-nil, length-append}
use Rattle.std.specs.Prelude.{IfOk, option_map, ◌&&◌}
use Rattle.std.specs.List.{AllByRecursion, cons_option, filter, filter_map, flat_map, list_any}
use Rattle.std.specs.Option.{IfSome, option_map_or}
use Rattle.std.proofs.lemmas.Map.Views.{any-filter_same}
use Rattle.vtl_decimal.specs.Settings.{Settings}
use Rattle.vtl_decimal.specs.declared.number.Fault.{Fault}
use Rattle.vtl_cell.specs.Held.{IsHeld as IsHeldCell}
use Rattle.vtl_cell.specs.Literals.{is_null_kind}
use Rattle.vtl_cell.specs.Outcome.{Outcome, after, fault_in, faults_by, join, unless}
use Rattle.vtl_cell.specs.Outcomes.{Same}
use Rattle.vtl_cell.specs.Row.{Row, same_row}
use Rattle.vtl_cell.specs.declared.cell.Cell.{Cell}
use Rattle.vtl_cell.specs.declared.cell.Cell.TheVariants as c
use Rattle.vtl_lists.specs.Apart.{all_apart}
use Rattle.vtl_lists.specs.Perm.{Perm, chain, empty}
use Rattle.vtl_lists.proofs.Aparts.{all_apart-Perm, apart_parts, none_is}
use Rattle.vtl_lists.proofs.Perms.{AllByRecursion-Perm, Perm-append, Perm-map, Perm-same, Perm-sym}
use Rattle.vtl_lists.proofs.Sorts.{AllByRecursion-filter}
use Rattle.vtl_lists.proofs.Alls.{all_append, all_both, all_each, all_flat_map, all_more}
use Rattle.vtl_cell.proofs.Rows.{same_row-sym}
use Rattle.vtl_syntax.specs.declared.statements.HierRule.{HierRule}
use Rattle.vtl_syntax.specs.declared.word_groups.HierInput.{HierInput}
use Rattle.vtl_syntax.specs.declared.word_groups.HierInput.TheVariants as input
use Rattle.vtl_syntax.specs.declared.word_groups.HierOut.TheVariants as shown
use Rattle.vtl_syntax.specs.declared.word_groups.Mode.{Mode}
use Rattle.vtl_text.specs.Words.{is_word}
use Rattle.vtl_tree.specs.Clauses.{filter_of}
use Rattle.vtl_tree.specs.Columns.{columns_named, identifiers_of, measures_of, others_of, place_of}
use Rattle.vtl_tree.specs.CompExp.{CompExp}
use Rattle.vtl_tree.specs.DataSet.{IsDataSet, is_point}
use Rattle.vtl_tree.specs.Environment.{DataSet}
use Rattle.vtl_tree.specs.Names.{is_among}
use Rattle.vtl_tree.specs.RuleItems.{definitions, left_item, right_items}
use Rattle.vtl_tree.specs.Structure.{IsStructure, columns_of, same_name}
use Rattle.vtl_tree.specs.declared.structure.Component.{Component}
use Rattle.vtl_tree.specs.declared.structure.Structure.{Structure}
use Rattle.vtl_tree.proofs.Faults.{faults_by-Perm}
use Rattle.vtl_tree.proofs.NotNullLemmas.{same_itself}
use Rattle.vtl_tuples.specs.Keys.{each_once}
use Rattle.vtl_tuples.proofs.Lists.{filter_nothing}
use Rattle.vtl_tuples.proofs.Onces.{once_apart}
use Rattle.vtl_meaning.specs.Agreement.{values_in}
use Rattle.vtl_meaning.specs.Made.{AreAmong, HasIdentifiers, IsAlternative, IsColumnAt}
use Rattle.vtl_meaning.specs.Orders.{SameOperands}
use Rattle.vtl_meaning.specs.Points.{cell_or_null, each_point, point_of, with_points}
use Rattle.vtl_meaning.specs.Turned.{other_identifiers}
use Rattle.vtl_meaning.proofs.OwnColumns.{among_front, columns_apart}
use Rattle.vtl_meaning.proofs.Places.{columns_split, same_name-is, same_name-sym}
use Rattle.vtl_meaning.proofs.ValueKinds.{IsOf, null_is_of}
use Rattle.vtl_rulings.specs.Hierarchies.{defines, hierarchy_of, items_of, made_at, made_fault, made_point, made_points}
use Rattle.vtl_rulings.specs.HierarchyChecks.{Ruled, combinations, items_at, key_at, only_name}
use Rattle.vtl_rulings.specs.HierarchyShapes.{IsHierarchyMade}
use Rattle.vtl_rulings.specs.Modes.{Found}
use Rattle.vtl_rulings.specs.Running.{AreOrdered, IsFree, made_in_run}
use Rattle.vtl_rulings.proofs.Checked.{given_or_null}
use Rattle.vtl_rulings.proofs.HierarchyKeys.{combinations_typed, items_are}
use Rattle.vtl_rulings.proofs.Orders.{Perm-filter_map}
use Rattle.vtl_rulings.proofs.Running.{made_in_order}
use Rattle.vtl_rulings.proofs.SideKinds.{kinds_kept}
use Rattle.vtl_rulings.proofs.SidesHold.{made_holds}
use Rattle.sql_tree.specs.Trees.{QueryTree, Text}
use Rattle.sql_meaning.specs.Scripts.{Data}
use Rattle.joins_to_sql.proofs.FullMeans.{beside_there}
use Rattle.joins_to_sql.proofs.HeldOperands.{IsHeld}
use Rattle.selects_to_sql.specs.Means.{AreEarlier, AreThere, Means, NodeGives, SourcesGive, StandsAs}
use Rattle.selects_to_sql.specs.Runs.{held}
use Rattle.selects_to_sql.specs.Tables.{Made, Sources, and_then, over, table_of}
use Rattle.selects_to_sql.specs.Writable.{HaveNames}
use Rattle.selects_to_sql.proofs.Composition.{alone, one_gives, over_gives}
use Rattle.selects_to_sql.proofs.Exact.{means_by, set_turned}
use Rattle.selects_to_sql.proofs.Expressions.{Translates}
use Rattle.selects_to_sql.proofs.Givens.{AreGiven}
use Rattle.selects_to_sql.proofs.OneOperand.{columns_for, columns_written, kept_mean}
use Rattle.selects_to_sql.proofs.Running.{columns_there, run_stops}
use Rattle.selects_to_sql.proofs.Unions.{AllGive, union_there}
use Rattle.rules_to_sql.proofs.Lists.{no_faults}
use Rattle.hierarchies_to_sql.specs.CheckTables.{sided, with_behind}
use Rattle.hierarchies_to_sql.specs.ComputedTables.{all_points_query, computed_by, given_items, is_given, no_points_query, ordered_tables, points_exps, points_select, run_over, run_tables}
use Rattle.hierarchies_to_sql.specs.ItemTables.{Tables, tables_by}
use Rattle.hierarchies_to_sql.specs.SideExps.{holds_never}
use Rattle.hierarchies_to_sql.specs.Writable.{CanBeSided}
use Rattle.hierarchies_to_sql.proofs.ChainRows.{IsLead, combination}
use Rattle.hierarchies_to_sql.proofs.CheckTables.{all_of_each, all_once, once_items, operand_kinds}
use Rattle.hierarchies_to_sql.proofs.ComputedRules.{found_rows, found_table}
use Rattle.hierarchies_to_sql.proofs.ItemColumns.{IsSided, keys, others, t}
use Rattle.hierarchies_to_sql.proofs.ItemTables.{Knows, item_row}
use Rattle.hierarchies_to_sql.proofs.MadeTables.{behind_give}
use Rattle.hierarchies_to_sql.proofs.PointsOfItems.{item_shown, points_give}
use Rattle.hierarchies_to_sql.proofs.RangedSides.{IsRange, IsRanged, all_range, computed_ranged, first_is_all}
use Rattle.hierarchies_to_sql.proofs.RuleSelects.{found_of}
use Rattle.hierarchies_to_sql.proofs.RunTables.{IsReady, IsWanted, run_gives}
use Rattle.hierarchies_to_sql.proofs.SideTables.{CanBeItems, Holds, all_keys, all_keys_typed, item_sets, keys_are, sided_give, tables_known}

-- ---- data sets in another order

-- the same data sets up to order, or the same fault
abbrev SameRun : Outcome (List DataSet) → Outcome (List DataSet) → Type 0
SameRun (Ok ds) (Ok es) = SameOperands ds es
SameRun (Err f) (Err g) = f ≡ g
SameRun (Ok ds) (Err g) = ⊥
SameRun (Err f) (Ok es) = ⊥

there_turned : (now : Data) (xs : List Text) (ds es : List DataSet) → SameOperands ds es → AreThere now xs ds → AreThere now xs es
there_turned now [] [] [] same there = tt
there_turned now [] [] (e ∷ es) same there = absurd same
there_turned now [] (d ∷ ds) es same there = absurd there
there_turned now (x ∷ xs) [] es same there = absurd there
there_turned now (x ∷ xs) (d ∷ ds) [] same there = absurd same
there_turned now (x ∷ xs) (d ∷ ds) (e ∷ es) same there =
    let st = there.0 in
    let own : StandsAs now x d.structure e.points = record { named = st.named; rows = st.rows; table = st.table; same = chain st.same same.1 } in
    (subst (λ s. StandsAs now x s e.points) same.0 own, there_turned now xs ds es same.2 there.1)

sources_turned : (p : Settings) (now : Data) (r : Text) (n : ℕ) (os : Sources) (v w : Outcome (List DataSet)) → SameRun v w → SourcesGive p now r n os v → SourcesGive p now r n os w
sources_turned p now r n os (Ok ds) (Ok es) same g = (g.0, there_turned _ os.names ds es same g.1)
sources_turned p now r n os (Ok ds) (Err f) same g = absurd same
sources_turned p now r n os (Err f) (Ok es) same g = absurd same
sources_turned p now r n os (Err f) (Err z) same g = g ∙ ap (λ u. Err (u, r)) same

there_length : (now : Data) (xs : List Text) (ds : List DataSet) → AreThere now xs ds → length xs ≡ length ds
there_length now [] [] there = refl
there_length now [] (d ∷ ds) there = absurd there
there_length now (x ∷ xs) [] there = absurd there
there_length now (x ∷ xs) (d ∷ ds) there = let rest = there_length now xs ds there.1 in omega (arith, rest)

-- ---- items that are asked of the operand

passes_on : (g : List ℕ → Bool) (items : List (List ℕ)) (y : List ℕ) → list_any (λ n. same_name n y) items ≡ true → g y ≡ true → list_any (λ n. same_name n y) (filter g items) ≡ true
passes_on g items y e i = any-filter_same (λ n. same_name n y) g true (λ n f. ap g (same_name-is n y f) ∙ i) items ∙ ap (λ b. true && b) e

not_defined : (order rules : List HierRule) (y : List ℕ) → Perm order rules → IsFree order y → list_any (defines y) rules ≡ false
not_defined order rules y same free = none_is (defines y) rules (AllByRecursion-Perm (λ r. defines y r ≡ false) same free)

module _ (p : Settings) (law : Translates p) (h : Ruled) (a s : Structure) (is : IsSided h a) (d : List Row) (set : IsDataSet a d) (na : HaveNames (columns_of a)) (kinds : AllByRecursion (λ y. is_null_kind y.kind ≡ false) (identifiers_of a)) (given_columns : AreGiven (columns_of s)) (m : Mode) (i : HierInput) (rules : List HierRule) where
  abbrev A : DataSet
  A = with_points a d

  abbrev T : Structure
  T = t h a is

  abbrev ks : List Component
  ks = others h a is

  abbrev combos : List Row
  combos = combinations h.id A

  abbrev defs : List HierRule
  defs = definitions rules

  abbrev makes : HierRule → Row → Option (Outcome Cell)
  makes r k = made_at p h m i rules A r k

  abbrev found : HierRule → Row → Found
  found r k = option_map cell_or_null (makes r k)

  -- ---- over combinations in some order

  abbrev fault_over : List Row → HierRule → Option Fault
  fault_over rows r = faults_by (λ k. option_map_or fault_in (makes r k) None) rows

  abbrev set_over : List Row → HierRule → DataSet
  set_over rows r = with_points T (found_rows h a is (found r) rows)

  abbrev run_at : List Row → List HierRule → Outcome (List DataSet)
  run_at rows [] = Ok []
  run_at rows (r ∷ rs) = after (unless (fault_over rows r) (set_over rows r)) (λ e. after (run_at rows rs) (λ es. Ok (e ∷ es)))

  same_runs : (rows turned : List Row) → Perm rows turned → (order : List HierRule) → SameRun (run_at rows order) (run_at turned order)
  same_runs rows turned same [] = tt
  same_runs rows turned same (r ∷ rs) =
      subst (λ o. SameRun (after (unless (fault_over rows r) (set_over rows r)) (λ e. after (run_at rows rs) (λ es. Ok (e ∷ es)))) (after (unless o (set_over turned r)) (λ e. after (run_at turned rs) (λ es. Ok (e ∷ es)))))
      (faults_by-Perm (λ k. option_map_or fault_in (makes r k) None) same)
      (go (fault_over rows r) (run_at rows rs) (run_at turned rs) (same_runs rows turned same rs))
    where
      go : (o : Option Fault) (v w : Outcome (List DataSet)) → SameRun v w → SameRun (after (unless o (set_over rows r)) (λ e. after v (λ es. Ok (e ∷ es)))) (after (unless o (set_over turned r)) (λ e. after w (λ es. Ok (e ∷ es))))
      go None (Ok ds) (Ok es) i = (refl, Perm-filter_map (λ k. option_map (item_row k) (found r k)) rows turned same, i)
      go None (Ok ds) (Err f) i = absurd i
      go None (Err f) (Ok es) i = absurd i
      go None (Err f) (Err g) i = i
      go (Some f) v w i = refl

  ranged : (r : HierRule) → IsRange (fault_over combos r)
  ranged r = all_range (λ k. option_map_or fault_in (makes r k) None) (λ k. go (makes r k) (computed_ranged p h.kind m (items_of p m h.kind i defs (items_at h A k)) r)) combos
    where
      go : (o : Option (Outcome Cell)) → IfSome o (λ (v : Outcome Cell). IsRanged v) → IsRange (option_map_or fault_in o None)
      go None e = tt
      go (Some (Ok v)) e = tt
      go (Some (Err f)) e = e

  -- the first fault of the run is that of all rules
  run_is : (order : List HierRule) → run_at combos order ≡ unless (faults_by (fault_over combos) order) (map (set_over combos) order)
  run_is [] = refl
  run_is (r ∷ rs) = ap (λ v. after (unless (fault_over combos r) (set_over combos r)) (λ e. after v (λ es. Ok (e ∷ es)))) (run_is rs) ∙ go (fault_over combos r) (faults_by (fault_over combos) rs) (ranged r) (all_range (fault_over combos) ranged rs)
    where
      go : (o q : Option Fault) → IsRange o → IsRange q → after (unless o (set_over combos r)) (λ e. after (unless q (map (set_over combos) rs)) (λ es. Ok (e ∷ es))) ≡ unless (join o q) (set_over combos r ∷ map (set_over combos) rs)
      go None None e f = refl
      go None (Some z) e f = refl
      go (Some z) q e f = ap (λ o. unless o (set_over combos r ∷ map (set_over combos) rs)) (sym (first_is_all z q e f))

  -- ---- what rules compute fits the measure

  fits : (rows : List Row) (r : HierRule) → AllByRecursion (λ k. IfSome (found r k) (IsOf h.kind)) rows
  fits rows r = all_each (λ k. IfSome (found r k) (IsOf h.kind)) (λ k. go (makes r k) (made_holds p h.kind (IsOf h.kind) (kinds_kept p h.kind is.itemized.numeric) m i defs (items_at h A k) (items_are h a d is.itemized set k) r)) rows
    where
      go : (o : Option (Outcome Cell)) → IfSome o (λ v. IfOk v (IsOf h.kind)) → IfSome (option_map cell_or_null o) (IsOf h.kind)
      go None e = tt
      go (Some v) e = given_or_null (IsOf h.kind) v (null_is_of h.kind) e

  module _ (order : List HierRule) (ordered : AreOrdered order) (same : Perm order defs) (apart : all_apart (λ q r. same_name (left_item q) (left_item r)) defs ≡ true) (sided_rules : AllByRecursion (CanBeSided p) defs) (result : Text) (word : is_word result ≡ true) where
    abbrev one_item : HierRule → HierRule → Bool
    one_item q r = same_name (left_item q) (left_item r)

    order_apart : all_apart one_item order ≡ true
    order_apart = all_apart-Perm one_item (λ q r. same_name-sym (left_item q) (left_item r)) same ∙ apart

    order_sided : AllByRecursion (CanBeSided p) order
    order_sided = AllByRecursion-Perm (CanBeSided p) (Perm-sym same) sided_rules

    abbrev given : List (List ℕ)
    given = given_items i defs

    -- ---- the run over the table of the combinations

    combos_apart : all_apart same_row combos ≡ true
    combos_apart = once_apart same_row (map (values_in a (other_identifiers h.id a)) d)

    rights_there : AllByRecursion (λ r. AllByRecursion (λ y. list_any (λ n. same_name n y) (each_once same_name (flat_map right_items defs)) ≡ true) (right_items r)) order
    rights_there = AllByRecursion-Perm (λ r. AllByRecursion (λ y. list_any (λ n. same_name n y) (each_once same_name (flat_map right_items defs)) ≡ true) (right_items r)) (Perm-sym same) (all_of_each _ right_items defs (once_items (flat_map right_items defs)))

    asks : (j : HierInput) → j ≡ i → (y : List ℕ) → list_any (λ n. same_name n y) (each_once same_name (flat_map right_items defs)) ≡ true → IsFree order y → is_given i defs y ≡ true
    asks input.Dataset e y there free = ap (λ z. is_given z defs y) (sym e)
    asks input.Rule e y there free = ap (λ z. is_given z defs y) (sym e) ∙ ap not (not_defined order defs y same free)
    asks input.RulePriority e y there free = ap (λ z. is_given z defs y) (sym e)

    module _ (now : Data) (x : Text) (ys : List Text) (qs : List Row) (here : IsHeld now x (with_points (keys h a is) qs)) (turned : Perm qs (all_keys h a is d set).points) (there : AreThere now ys (item_sets h a is d set given)) where
      typed : AllByRecursion (IsLead h a is) qs
      typed = AllByRecursion-Perm (IsLead h a is) (Perm-sym turned) (all_keys_typed h a is d set)

      abbrev rows : List Row
      rows = map (combination h a is) qs

      rows_turned : Perm rows combos
      rows_turned = keys_are h a is d set qs turned

      rows_apart : all_apart same_row rows ≡ true
      rows_apart = all_apart-Perm same_row same_row-sym rows_turned ∙ combos_apart

      rows_typed : AllByRecursion (λ k. is_point ks k ≡ true) rows
      rows_typed = AllByRecursion-Perm (λ k. is_point ks k ≡ true) (Perm-sym rows_turned) (combinations_typed h.id a d set)

      operand_fit : (name : List ℕ) → AllByRecursion (λ k. IfSome (items_at h A k name) (IsOf h.kind)) rows
      operand_fit name = all_each (λ k. IfSome (items_at h A k name) (IsOf h.kind)) (λ k. items_are h a d is.itemized set k name) rows

      abbrev tables : Tables
      tables = tables_by given ys

      table_there : (y : List ℕ) → Holds given y → Knows h a is now (tables y) (found_of (items_at h A) y) rows
      table_there y e = (tables_known h a is d set now rows given ys there (y ∷ []) (e, tt)).0

      rights_known : (names : List (List ℕ)) → AllByRecursion (λ y. list_any (λ n. same_name n y) (each_once same_name (flat_map right_items defs)) ≡ true) names → AllByRecursion (λ y. IsFree order y → Knows h a is now (tables y) (found_of (λ k. items_at h A k) y) rows) names
      rights_known [] all = tt
      rights_known (y ∷ names) all = ((λ free. table_there y (passes_on (is_given i defs) (each_once same_name (flat_map right_items defs)) y all.0 (asks i refl y all.0 free))), rights_known names all.1)

      wanted_by : (j : HierInput) → j ≡ i → (y : List ℕ) → list_any (λ n. same_name n y) (each_once same_name (flat_map right_items defs)) ≡ true → IsWanted p law h a is na kinds d qs typed m i rules rows_apart rows_typed (fits rows) operand_fit result word given x i y
      wanted_by input.Dataset e y f = subst (λ z. IsWanted p law h a is na kinds d qs typed m i rules rows_apart rows_typed (fits rows) operand_fit result word given x z y) e (passes_on (is_given i defs) (each_once same_name (flat_map right_items defs)) y f (ap (λ z. is_given z defs y) (sym e)))
      wanted_by input.Rule e y f = subst (λ z. IsWanted p law h a is na kinds d qs typed m i rules rows_apart rows_typed (fits rows) operand_fit result word given x z y) e tt
      wanted_by input.RulePriority e y f = subst (λ z. IsWanted p law h a is na kinds d qs typed m i rules rows_apart rows_typed (fits rows) operand_fit result word given x z y) e (passes_on (is_given i defs) (each_once same_name (flat_map right_items defs)) y f (ap (λ z. is_given z defs y) (sym e)))

      pub run_there : (n : ℕ) → AreEarlier result n now → n + length (run_tables p result h m i a x given tables order n).tables < 2 ^ 64 → SourcesGive p now result n (run_tables p result h m i a x given tables order n) (run_at combos order)
      run_there n earlier few =
          let There : List ℕ → Type 0 = λ y. list_any (λ n. same_name n y) (each_once same_name (flat_map right_items defs)) ≡ true in
          let Wanted : List ℕ → Type 0 = IsWanted p law h a is na kinds d qs typed m i rules rows_apart rows_typed (fits rows) operand_fit result word given x i in
          let wanted : AllByRecursion (λ q. AllByRecursion Wanted (right_items q)) order = all_more (λ q. AllByRecursion There (right_items q)) (λ q. AllByRecursion Wanted (right_items q)) (λ q e. all_more There Wanted (λ y f. wanted_by i refl y f) (right_items q) e) order rights_there in
          let ready : IsReady p law h a is na kinds d qs typed m i rules rows_apart rows_typed (fits rows) operand_fit result word given x now (λ k. items_at h A k) tables order = record {
            here = here;
            rights = all_more (λ q. AllByRecursion There (right_items q)) (λ q. AllByRecursion (λ y. IsFree order y → Knows h a is now (tables y) (found_of (λ k. items_at h A k) y) rows) (right_items q)) (λ q e. rights_known (right_items q) e) order rights_there;
            lefts = all_each (λ q. is_among (left_item q) given ≡ true → Knows h a is now (tables (left_item q)) (found_of (items_at h A) (left_item q)) rows) (λ q e. table_there (left_item q) e) order;
            same = all_each (λ k. made_in_run p m h.kind i (items_at h A k) (items_at h A k) order ≡ map (λ r. makes r k) order) (λ k. made_in_order p m h.kind i (items_at h A k) defs order ordered same apart) rows;
          } in
          sources_turned p now result n (run_tables p result h m i a x given tables order n) (run_at rows order) (run_at combos order) (same_runs rows combos rows_turned order)
          (run_gives p law h a is na kinds d qs typed m i rules rows_apart rows_typed (fits rows) operand_fit result word given x order order_sided ordered order_apart wanted now n (λ k. items_at h A k) tables ready earlier few)

    -- ---- the tables before the last query

    abbrev behind_keys : List Text → ℕ → Sources
    behind_keys names n = run_over p result h m i a given order n names

    over_names : (now : Data) (names : List Text) (n : ℕ) → AreThere now names (all_keys h a is d set ∷ item_sets h a is d set given) → AreEarlier result n now → n + length (behind_keys names n).tables < 2 ^ 64 → SourcesGive p now result n (behind_keys names n) (run_at combos order)
    over_names now [] n there earlier few = absurd there
    over_names now (x ∷ ys) n there earlier few =
        let st = there.0 in
        let here : IsHeld now x (with_points (keys h a is) st.rows) = record { word = st.named; table = st.table; known = columns_there now x (held (keys h a is) st.rows) st.table } in
        run_there now x ys st.rows here st.same there.1 n earlier few

    given_written : CanBeItems given
    given_written =
        let P : List ℕ → Type 0 = λ item. IsHeldCell (c.Text item) in
        AllByRecursion-filter P (is_given i defs) (each_once same_name (flat_map right_items defs)) (all_once P (flat_map right_items defs) (all_flat_map P right_items defs (all_more (CanBeSided p) (λ r. AllByRecursion P (right_items r)) (λ r e. e.items.1) defs sided_rules)))

    ordered_give : (now : Data) (names : List Text) (n : ℕ) → AreThere now names (A ∷ []) → AreEarlier result n now → n + length (ordered_tables p result h m i a given order names n).tables < 2 ^ 64 → SourcesGive p now result n (ordered_tables p result h m i a given order names n) (run_at combos order)
    ordered_give now names n there earlier few =
        let os = sided p result h a given names n in
        let sets = all_keys h a is d set ∷ item_sets h a is d set given in
        let rest : ℕ → Sources = behind_keys os.names in
        let size = length-append os.tables (rest os.next).tables in
        let first = sided_give h a is d set p law na kinds result word given given_written now names n there earlier (omega (arith, few, size)) in
        behind_give p now result n os rest sets (run_at combos order) (there_length _ os.names sets first.1)
        (beside_there p result word now n os rest sets (run_at combos order) earlier first (λ more kept soon counted. over_names (now ++ more) os.names os.next kept soon (omega (arith, few, size, counted))))

    -- ---- the last query

    -- the table of all_each rule
    abbrev Stands : Data → Tables → HierRule → Type 0
    Stands later tables q = StandsAs later (tables (left_item q)) T (set_over combos q).points

    by_left : (later : Data) (rs : List HierRule) (xs : List Text) → AreThere later xs (map (set_over combos) rs) → all_apart one_item rs ≡ true → AllByRecursion (Stands later (tables_by (map left_item rs) xs)) rs
    by_left later [] xs there e = tt
    by_left later (r ∷ rs) [] there e = absurd there
    by_left later (r ∷ rs) (x ∷ xs) there e =
        let parts = apart_parts one_item r rs e in
        let rest = tables_by (map left_item rs) xs in
        let tables = tables_by (left_item r ∷ map left_item rs) (x ∷ xs) in (
          subst (λ z. StandsAs later z T (set_over combos r).points) (sym (ap (λ b. cond b x (rest (left_item r))) (same_itself (left_item r)))) there.0,
          all_both (λ q. one_item r q ≡ false) (Stands later rest) (Stands later tables) (λ q f g. subst (λ z. StandsAs later z T (set_over combos q).points) (sym (ap (λ b. cond b x (rest (left_item q))) f)) g) rs parts.0 (by_left later rs xs there.1 parts.1),
        )

    -- what is shown of it
    mapped : (q : HierRule) (l : List Row) → AllByRecursion (λ k. is_point ks k ≡ true) l → map (point_of p (points_exps h a (left_item q))) (found_rows h a is (found q) l) ≡ filter_map (made_point p h m i rules A q) l
    mapped q [] all = refl
    mapped q (k ∷ l) all = go (makes q k) (mapped q l all.1)
      where
        pt : Row → Row
        pt r = point_of p (points_exps h a (left_item q)) r

        go : (o : Option (Outcome Cell)) → map pt (found_rows h a is (found q) l) ≡ filter_map (made_point p h m i rules A q) l → map pt (cons_option (option_map (item_row k) (option_map cell_or_null o)) (found_rows h a is (found q) l)) ≡ cons_option (option_map (λ v. key_at h.id a k (left_item q) ++ (cell_or_null v ∷ [])) o) (filter_map (made_point p h m i rules A q) l)
        go None ih = ih
        go (Some v) ih = ap (λ r. r ∷ map pt (found_rows h a is (found q) l)) (item_shown p h a is (left_item q) k (cell_or_null v) all.0) ∙ ap (λ r. (key_at h.id a k (left_item q) ++ (cell_or_null v ∷ [])) ∷ r) ih

    module _ (made_well : IsHierarchyMade h rules a s) (later : Data) (tables : Tables) where
      abbrev Own : HierRule → Type 0
      Own q = Stands later tables q × CanBeSided p q

      lists : (rs : List HierRule) → AllByRecursion Own rs → List (List Row)
      lists [] all = []
      lists (q ∷ rs) all = map (point_of p (points_exps h a (left_item q))) all.0.0.rows ∷ lists rs all.1

      all_give : (rs : List HierRule) (all : AllByRecursion Own rs) → AllGive p later s (map (points_select p h a s tables) rs) (map (λ e. Ok e) (lists rs all))
      unfolding lists
      all_give [] all = tt
      all_give (q ∷ rs) all =
          let st = all.0.0 in
          let table = found_table h a is (found q) combos combos_apart (combinations_typed h.id a d set) (fits combos q) in
          (points_give p h a is (left_item q) law later s given_columns made_well.identifiers made_well.others all.0.1.items.0 na kinds (tables (left_item q)) st.rows st.table st.named (AllByRecursion-Perm (λ r. is_point (columns_of T) r ≡ true) (Perm-sym st.same) table.set.typed), all_give rs all.1)

      all_shown : (rs : List HierRule) (all : AllByRecursion Own rs) → Perm (flat_map (λ e. e) (lists rs all)) (flat_map (λ q. filter_map (made_point p h m i rules A q) combos) rs)
      unfolding lists
      all_shown [] all = empty
      all_shown (q ∷ rs) all =
          Perm-append
          (chain (Perm-map (point_of p (points_exps h a (left_item q))) all.0.0.same) (Perm-same (map (point_of p (points_exps h a (left_item q))) (found_rows h a is (found q) combos)) (filter_map (made_point p h m i rules A q) combos) (mapped q combos (combinations_typed h.id a d set))))
          (all_shown rs all.1)

      shown_mean : (r : HierRule) (rs : List HierRule) (all : AllByRecursion Own (r ∷ rs)) → Means p later (all_points_query p h a s tables (r ∷ rs)) s (Ok (flat_map (λ q. filter_map (made_point p h m i rules A q) combos) (r ∷ rs)))
      unfolding lists
      shown_mean r rs all =
          means_by p later (all_points_query p h a s tables (r ∷ rs)) s (Ok (flat_map (λ e. e) (lists (r ∷ rs) all))) (Ok (flat_map (λ q. filter_map (made_point p h m i rules A q) combos) (r ∷ rs))) (all_shown (r ∷ rs) all)
          (union_there p later s given_columns (points_select p h a s tables r) (map (points_select p h a s tables) rs) (map (point_of p (points_exps h a (left_item r))) all.0.0.rows) (lists rs all.1) (all_give (r ∷ rs) all))

    -- ---- all of it

    abbrev last_query : List HierRule → List Text → QueryTree
    last_query rs names = with_behind (λ x xs. all_points_query p h a s (tables_by (map left_item order) xs) rs) names

    query_means : IsHierarchyMade h rules a s → (r : HierRule) (rs : List HierRule) → defs ≡ r ∷ rs → (later : Data) (names : List Text) → AreThere later names (A ∷ map (set_over combos) order) → Means p later (last_query (r ∷ rs) names) s (Ok (made_points p h m i rules A))
    query_means made_well r rs e later [] there = absurd there
    query_means made_well r rs e later (x ∷ xs) there =
        let tables = tables_by (map left_item order) xs in
        let stands = AllByRecursion-Perm (Stands later tables) same (by_left later order xs there.1 order_apart) in
        let all = all_both (Stands later tables) (CanBeSided p) (λ q. Stands later tables q × CanBeSided p q) (λ q f g. (f, g)) defs stands sided_rules in
        subst (λ l. Means p later (all_points_query p h a s tables (r ∷ rs)) s (Ok (flat_map (λ q. filter_map (made_point p h m i rules A q) combos) l))) (sym e)
        (shown_mean made_well later tables r rs (subst (AllByRecursion (λ q. Stands later tables q × CanBeSided p q)) e all))

    outcome_is : after (after (run_at combos order) (λ es. Ok (A ∷ es))) (λ l. Ok (made_points p h m i rules A)) ≡ hierarchy_of p h m i rules A shown.Computed s
    outcome_is =
        ap (λ v. after (after v (λ es. Ok (A ∷ es))) (λ l. Ok (made_points p h m i rules A))) (run_is order)
        ∙ go (faults_by (fault_over combos) order)
        ∙ ap (λ o. unless o (made_points p h m i rules A)) (faults_by-Perm (fault_over combos) same)
      where
        go : (o : Option Fault) → after (after (unless o (map (set_over combos) order)) (λ es. Ok (A ∷ es))) (λ l. Ok (made_points p h m i rules A)) ≡ unless o (made_points p h m i rules A)
        go None = refl
        go (Some f) = refl

    sets_are : (ds : List DataSet) → after (run_at combos order) (λ es. Ok (A ∷ es)) ≡ Ok ds → A ∷ map (set_over combos) order ≡ ds
    sets_are ds e = go (faults_by (fault_over combos) order) (sym (ap (λ v. after v (λ es. Ok (A ∷ es))) (run_is order)) ∙ e)
      where
        go : (o : Option Fault) → after (unless o (map (set_over combos) order)) (λ es. Ok (A ∷ es)) ≡ Ok ds → A ∷ map (set_over combos) order ≡ ds
        go None f = cc
        go (Some f) g = cc

    pub computed_there : IsHierarchyMade h rules a s → (r : HierRule) (rs : List HierRule) → defs ≡ r ∷ rs → (before : Data) (n : ℕ) (os : Sources) → AreEarlier result n before → n + length (and_then os (ordered_tables p result h m i a given order os.names)).tables < 2 ^ 64 → SourcesGive p before result n os (Ok (A ∷ []))
        → NodeGives p before result n (over (and_then os (ordered_tables p result h m i a given order os.names)) (last_query (r ∷ rs))) s (hierarchy_of p h m i rules A shown.Computed s)
    computed_there made_well r rs e before n os apart_names few g =
        let next : ℕ → Sources = ordered_tables p result h m i a given order os.names in
        let size = length-append os.tables (next os.next).tables in
        let both : SourcesGive p before result n (and_then os next) (after (run_at combos order) (λ es. Ok (A ∷ es))) =
        beside_there p result word before n os next (A ∷ []) (run_at combos order) apart_names g (λ more there soon counted. ordered_give (before ++ more) os.names os.next there soon (omega (arith, few, size, counted))) in
        subst (NodeGives p before result n (over (and_then os next) (last_query (r ∷ rs))) s) outcome_is
        (over_gives p result word before n (and_then os next) (last_query (r ∷ rs)) s (after (run_at combos order) (λ es. Ok (A ∷ es))) (λ l. Ok (made_points p h m i rules A)) both
        (λ later ds f there. query_means made_well r rs e later (and_then os next).names (subst (AreThere later (and_then os next).names) (sym (sets_are ds f)) there)))

-- ---- where no rule computes an item

shown_columns : (a s : Structure) → IsStructure a → IsAlternative s a s → columns_of s ≡ identifiers_of s ++ measures_of s → AreAmong (columns_of s) (columns_of a)
shown_columns a s w fits split =
    let front : AreAmong (identifiers_of s) (columns_of a) = subst (AreAmong (identifiers_of s)) (sym (columns_split a)) (among_front (identifiers_of s) (identifiers_of a) (others_of a) fits.back) in
    subst (λ ys. AreAmong ys (columns_of a)) (sym split) (all_append (λ y. IsColumnAt (place_of y.name (columns_of a)) y.name y.kind (columns_of a)) (identifiers_of s) (measures_of s) front fits.measures)

nothing_left : (p : Settings) (es : List CompExp) (rows : List Row) → after (filter_of p holds_never rows) (each_point p es) ≡ Ok []
nothing_left p es rows =
    ap (λ o. after (unless o (filter (λ r. false) rows)) (each_point p es)) (no_faults rows)
    ∙ ap (each_point p es) (filter_nothing rows)

no_points_mean : (p : Settings) → Translates p → (a s : Structure) → HaveNames (columns_of a) → AreGiven (columns_of s) → IsAlternative s a s → columns_of s ≡ identifiers_of s ++ measures_of s → (now : Data) (x : Text) (d : List Row) → IsDataSet a d → StandsAs now x a d → Means p now (no_points_query p a s x) s (Ok [])
no_points_mean p law a s na given fits split now x d set st =
    let turned = set_turned a d st.rows st.same set in
    let es = columns_named (columns_of a) (columns_of s) in
    means_by p now (no_points_query p a s x) s (after (filter_of p holds_never st.rows) (each_point p es)) (Ok [])
    (subst (λ v. Same v (Ok [])) (sym (nothing_left p es st.rows)) empty)
    (kept_mean p law now x a st.rows st.table st.named turned.well_formed na es s (columns_for p (columns_of a) (columns_of s) (columns_apart a turned.well_formed) (shown_columns a s turned.well_formed fits split)) (columns_written (columns_of a) (columns_of s)) given holds_never (tt, refl, record { constants = tt; shallow = omega arith }) turned.typed)

-- ---- where the operand has a fault, too

module _ (p : Settings) (law : Translates p) (result : Text) (word : is_word result ≡ true) (before : Data) (n : ℕ) (os : Sources) (h : Ruled) (m : Mode) (i : HierInput) (rules : List HierRule) (order : List HierRule) (a s : Structure) (v : Outcome (List Row)) (na : HaveNames (columns_of a)) (given : AreGiven (columns_of s)) (sets : (d : List Row) → v ≡ Ok d → IsDataSet a d)
    (well : IsHierarchyMade h rules a s) (sole : h.measure ≡ only_name (measures_of a)) (ordered : AreOrdered order) (same : Perm order (definitions rules)) (sided_rules : AllByRecursion (CanBeSided p) (definitions rules)) (earlier : AreEarlier result n before) (g : SourcesGive p before result n os (alone p result word a v)) where
  abbrev value_of : List Row → Outcome (List Row)
  value_of d = hierarchy_of p h m i rules (with_points a d) shown.Computed s

  kinds : AllByRecursion (λ y. is_null_kind y.kind ≡ false) (identifiers_of a)
  kinds = operand_kinds a s [] (subst (HasIdentifiers s) (sym (append-nil (identifiers_of a))) well.identifiers) given

  sidedness : (d : List Row) → v ≡ Ok d → IsSided h a
  sidedness d e = record { well = (sets d e).well_formed; itemized = well.itemized; sole = sole }

  none_made : (d : List Row) → definitions rules ≡ [] → value_of d ≡ Ok []
  none_made d e = ap (λ l. unless (faults_by (λ r. faults_by (made_fault p h m i rules (with_points a d) r) (combinations h.id (with_points a d))) l) (flat_map (λ r. filter_map (made_point p h m i rules (with_points a d) r) (combinations h.id (with_points a d))) l)) e

  by_rules : (defs : List HierRule) → definitions rules ≡ defs → n + length (computed_by p result h m i defs order a s os).tables < 2 ^ 64 → NodeGives p before result n (computed_by p result h m i defs order a s os) s (after v value_of)
  by_rules [] e few =
      one_gives p result word before n os (no_points_query p a s) a s v value_of g
      (λ now x d f st. subst (Means p now (no_points_query p a s x) s) (sym (none_made d e)) (no_points_mean p law a s na given well.operand well.no_attributes now x d (sets d f) st))
  by_rules (r ∷ rs) e few = go v refl g
    where
      made_by : List HierRule → Made
      made_by defs = over (and_then os (ordered_tables p result h m i a (given_items i defs) order os.names)) (with_behind (λ x xs. all_points_query p h a s (tables_by (map left_item order) xs) (r ∷ rs)))

      go : (w : Outcome (List Row)) → v ≡ w → SourcesGive p before result n os (alone p result word a w) → NodeGives p before result n (made_by (r ∷ rs)) s (after w value_of)
      go (Err f) f_is there =
          let made = made_by (r ∷ rs) in
          let next = ordered_tables p result h m i a (given_items i (r ∷ rs)) order os.names os.next in
          λ name named. run_stops p before made.tables (table_of name made.query ∷ []) (f, result) (run_stops p before os.tables next.tables (f, result) there)
      go (Ok d) d_is there =
          subst (λ l. NodeGives p before result n (made_by l) s (value_of d)) e
          (computed_there p law h a s (sidedness d d_is) d (sets d d_is) na kinds given m i rules order ordered same well.apart sided_rules result word well r rs e before n os earlier
          (subst (λ l. n + length (made_by l).tables < 2 ^ 64) (sym e) few) there)

  -- the points that the rules compute, in an order in which they can be run
  pub computed_gives : n + length (computed_by p result h m i (definitions rules) order a s os).tables < 2 ^ 64 → NodeGives p before result n (computed_by p result h m i (definitions rules) order a s os) s (after v value_of)
  computed_gives few = by_rules (definitions rules) refl few
