-- A cross join: a select over all operands, each point with each.
use Rattle.std.proofs.Common.{◌≡◌, ◌<◌, ◌+◌, ◌^◌, ℕ, suc, true, List, [], ◌∷◌, ◌++◌, length, map, Option, Some, None, Ok, refl, ap, sym, ◌∙◌, subst, arith, append_assoc, append-nil, length-append}
use Rattle.std.specs.Prelude.{fold, is_some}
use Rattle.std.specs.List.{AllByRecursion, flat_map}
use Rattle.std.proofs.lemmas.Grind.{flat_map-append}
use Rattle.std.proofs.lemmas.List.{get_or_append_left, get_or-append-add, length-map}
use Rattle.std.proofs.lemmas.List.Folds.{flat_map-map}
use Rattle.vtl_lists.proofs.Sorts.{AllByRecursion-map}
use Rattle.vtl_lists.proofs.Alls.{all_more}
use Rattle.grammar_forms.specs.Written.{Each}
use Rattle.vtl_cell.specs.Outcome.{Outcome, after}
use Rattle.vtl_cell.specs.Row.{Row, column_of}
use Rattle.vtl_decimal.specs.Settings.{Settings}
use Rattle.vtl_cell.specs.declared.cell.Cell.TheVariants as c
use Rattle.vtl_tree.specs.CompExp.{CompExp}
use Rattle.vtl_tree.specs.DataSet.{IsDataSet, is_point}
use Rattle.vtl_tree.specs.Environment.{DataSet}
use Rattle.vtl_tree.specs.Structure.{IsStructure, columns_of}
use Rattle.vtl_tree.specs.declared.structure.Component.{Component}
use Rattle.vtl_tree.specs.declared.structure.Structure.{Structure}
use Rattle.vtl_tuples.specs.Tuples.{and_item, combinations, crossed_with}
use Rattle.vtl_tuples.proofs.Folds.{crossed_each}
use Rattle.vtl_tuples.proofs.Lists.{flat_map_each, map-flat_map, map-map, map_each, map_same}
use Rattle.vtl_meaning.specs.Agreement.{OperandPoint, key_of, operand_point, operand_points}
use Rattle.vtl_tree.specs.Columns.{identifiers_of, measures_of}
use Rattle.vtl_meaning.specs.Joined.{cross_tuples, crossed, present, structures_of, tuple_point, values_or_nulls}
use Rattle.vtl_meaning.specs.Made.{AreFor, attributes_of, component_kinds, kinds_of_all}
use Rattle.vtl_meaning.specs.Points.{each_point, point_of}
use Rattle.vtl_meaning.proofs.Agreements.{own_values}
use Rattle.vtl_meaning.proofs.JoinKept.{IsCombination, IsOperandPoint, combinations_are}
use Rattle.vtl_meaning.proofs.JoinParts.{AreSets}
use Rattle.vtl_meaning.proofs.Places.{all_of_map, point_append, point_length}
use Rattle.sql_tree.specs.Formed.{IsJoin, IsMaybeExp}
use Rattle.sql_tree.specs.Trees.{Exp, SelectTree, Text}
use Rattle.sql_check_laws.specs.Fits.{IsMaybeCondition}
use Rattle.sql_check_laws.specs.Selects.{AreJoinsTyped}
use Rattle.sql_check_parts.specs.Expressions.{site}
use Rattle.sql_check_parts.specs.Queries.{joined_scope, scope_of}
use Rattle.sql_check_parts.specs.Scopes.{add_source}
use Rattle.sql_meaning.specs.From.{kept_of, pairs, source_rows, with_join}
use Rattle.sql_meaning.specs.Scripts.{Data, base_of, tables_in}
use Rattle.expressions_to_sql.specs.Names.{AreNamesFormed, Names}
use Rattle.expressions_to_sql.specs.ToSql.{Naming}
use Rattle.selects_to_sql.specs.Writable.{HaveNames}
use Rattle.joins_to_sql.specs.FilteredJoins.{filtered_by}
use Rattle.joins_to_sql.specs.Joins.{Placed, cross_query, crosses, joined_exps, of_many, placed_from, where_of, width_of}
use Rattle.selects_to_sql.specs.Queries.{alias_of, select_of, source_as}
use Rattle.selects_to_sql.specs.Runs.{printable_depth}
use Rattle.joins_to_sql.proofs.Chains.{joined_of}
use Rattle.selects_to_sql.proofs.Exact.{IsExactly, exactly_same}
use Rattle.selects_to_sql.proofs.Expressions.{Translates}
use Rattle.selects_to_sql.proofs.Givens.{AreGiven}
use Rattle.joins_to_sql.proofs.HeldOperands.{AreHeld, alias_new, all_named, rows_held, sets_apart, source_behind}
use Rattle.joins_to_sql.proofs.JoinedColumns.{AllShown, ArePlaced, AreWell, each_plain, joined_plain, placed_all, plain_written}
use Rattle.joins_to_sql.proofs.JoinedRows.{from_structures, joined_for, joined_values}
use Rattle.selects_to_sql.proofs.Loose.{all_loose, loose_formed, loose_names, loose_point}
use Rattle.joins_to_sql.proofs.ManySources.{alias_is_name, all_columns, many_formed, many_names, many_scope, widths}
use Rattle.joins_to_sql.proofs.ShownColumns.{filter_exactly, joined_columns}
use Rattle.selects_to_sql.proofs.SelectItems.{AllRows, GivesRows, IsFrom}
use Rattle.selects_to_sql.proofs.Selects.{IsPointOf, IsTest, expressions_give}
use Rattle.selects_to_sql.proofs.Unions.{one_exactly}

-- ---- a row of points one behind the other

abbrev row_with : List OperandPoint → Row
row_with t = flat_map (λ x. x.point) t

row_more : (a : Structure) (t : List OperandPoint) (y : Row) → row_with (and_item t (operand_point a y)) ≡ row_with t ++ y
row_more a t y = flat_map-append (λ x. x.point) t (operand_point a y ∷ []) ∙ ap (λ l. row_with t ++ l) (append-nil y)

-- each row with each point of one operand more
crossed_rows : (ts : List (List OperandPoint)) (d : DataSet) → pairs (map row_with ts) d.points ≡ map row_with (crossed_with ts (operand_points d))
crossed_rows ts d =
    flat_map-map (λ x. map (λ y. x ++ y) d.points) row_with ts
    ∙ flat_map_each (λ t. map (λ y. row_with t ++ y) d.points) (λ t. map row_with (map (and_item t) (operand_points d)))
    (λ t. map_each (λ y. row_with t ++ y) (λ y. row_with (and_item t (operand_point d.structure y))) (λ y. sym (row_more d.structure t y)) d.points
    ∙ sym (map-map (λ x. row_with (and_item t x)) (operand_point d.structure) d.points)
    ∙ sym (map-map row_with (and_item t) (operand_points d))) ts
    ∙ sym (map-flat_map row_with (λ t. map (and_item t) (operand_points d)) ts)

-- those of the first operand alone
first_rows : (d : DataSet) → map row_with (crossed_with ([] ∷ []) (operand_points d)) ≡ d.points
first_rows d =
    ap (map row_with) (append-nil (map (and_item []) (operand_points d)))
    ∙ map-map row_with (and_item []) (operand_points d)
    ∙ map-map (λ x. row_with (and_item [] x)) (operand_point d.structure) d.points
    ∙ go d.points
  where
    go : (rows : List Row) → map (λ y. row_with (and_item [] (operand_point d.structure y))) rows ≡ rows
    go [] = refl
    go (y ∷ rows) = ap (λ z. z ∷ map (λ r. row_with (and_item [] (operand_point d.structure r))) rows) (append-nil y) ∙ ap (λ l. y ∷ l) (go rows)

-- it is a row of all columns
row_typed : (t : List OperandPoint) → AllByRecursion IsOperandPoint t → is_point (flat_map columns_of (map (λ x. x.structure) t)) (row_with t) ≡ true
row_typed [] all = refl
row_typed (x ∷ t) all = point_append (columns_of x.structure) (flat_map columns_of (map (λ y. y.structure) t)) x.point (row_with t) all.0.typed (row_typed t all.1)

-- and shows each point
points_shown : (t : List OperandPoint) (front : Row) (n : ℕ) → n ≡ length front → AllByRecursion IsOperandPoint t → AllShown (front ++ row_with t) (placed_from n (map (λ x. x.structure) t)) (map present t)
points_shown [] front n e all = tt
points_shown (x ∷ t) front n e all =
    let own = x.point in
    let long = point_length (columns_of x.structure) own all.0.typed in
    let sum = length-append front own in (
      refl,
      all.0.well_formed,
      (λ place h.
          ap (λ m. column_of (m + place) (front ++ (own ++ row_with t))) e
          ∙ get_or-append-add front (own ++ row_with t) place c.Null
          ∙ get_or_append_left own (row_with t) c.Null place (omega (arith, h, long))),
      subst (λ l. AllShown l (placed_from (n + width_of x.structure) (map (λ y. y.structure) t)) (map present t)) (append_assoc front own (row_with t))
          (points_shown t (front ++ own) (n + width_of x.structure) (omega (arith, e, long, sum)) all.1),
    )

keys_shown : (t : List OperandPoint) → AllByRecursion IsOperandPoint t → flat_map (λ q. values_or_nulls q.structure (identifiers_of q.structure) q.point) (map present t) ≡ flat_map (λ x. key_of x.structure x.point) t
keys_shown [] all = refl
keys_shown (x ∷ t) all =
    ap (λ l. l ++ flat_map (λ q. values_or_nulls q.structure (identifiers_of q.structure) q.point) (map present t)) (own_values x.structure x.point all.0.well_formed all.0.typed)
    ∙ ap (λ l. key_of x.structure x.point ++ l) (keys_shown t all.1)

-- ---- the joins

abbrev columns_each : List DataSet → List (List Component)
columns_each ds = map (λ d. columns_of d.structure) ds

module _ (p : Settings) (before : Data) where
  abbrev after_all : List (List Component) → List DataSet → List (List Component)
  after_all done [] = done
  after_all done (d ∷ ds) = after_all (done ++ columns_of d.structure ∷ []) ds

  all_done : (ds : List DataSet) (done : List (List Component)) → after_all done ds ≡ done ++ columns_each ds
  all_done [] done = sym (append-nil done)
  all_done (d ∷ ds) done = all_done ds (done ++ columns_of d.structure ∷ []) ∙ append_assoc done (columns_of d.structure ∷ []) (columns_each ds)

  next_number : (i : ℕ) (done : List (List Component)) (ys : List Component) → i ≡ length done → suc i ≡ length (done ++ ys ∷ [])
  next_number i done ys e = let sum = length-append done (ys ∷ []) in omega (arith, e, sum)

  crossed_joins : (ds : List DataSet) (xs : List Text) (i : ℕ) (done : List (List Component)) (ts : List (List OperandPoint)) → i ≡ length done → i + length ds < 2 ^ 64 → AreHeld before xs ds
      → fold (with_join (base_of p before)) (joined_of (many_scope 0 done) (map row_with ts) None) (crosses i xs) ≡ joined_of (many_scope 0 (after_all done ds)) (map row_with (fold crossed_with ts (map operand_points ds))) None
  crossed_joins [] [] i done ts e few h = refl
  crossed_joins [] (x ∷ xs) i done ts e few h = absurd h
  crossed_joins (d ∷ ds) [] i done ts e few h = absurd h
  crossed_joins (d ∷ ds) (x ∷ xs) i done ts e few h =
      let rest = crosses (suc i) xs in
      let ys = columns_of d.structure in
      ap (λ z. fold (with_join (base_of p before)) (joined_of z (pairs (map row_with ts) ((base_of p before).rows x)) None) rest) (source_behind before done x d i e (omega (arith, few)) h.0)
      ∙ ap (λ l. fold (with_join (base_of p before)) (joined_of (many_scope 0 (done ++ ys ∷ [])) (pairs (map row_with ts) l) None) rest) (rows_held p before x d h.0)
      ∙ ap (λ l. fold (with_join (base_of p before)) (joined_of (many_scope 0 (done ++ ys ∷ [])) l None) rest) (crossed_rows ts d)
      ∙ crossed_joins ds xs (suc i) (done ++ ys ∷ []) (crossed_with ts (operand_points d)) (next_number i done ys e) (omega (arith, few)) h.1

  crossed_scope : (ds : List DataSet) (xs : List Text) (i : ℕ) (done : List (List Component)) → i ≡ length done → i + length ds < 2 ^ 64 → AreHeld before xs ds → joined_scope (tables_in before) (many_scope 0 done) (crosses i xs) ≡ many_scope 0 (after_all done ds)
  crossed_scope [] [] i done e few h = refl
  crossed_scope [] (x ∷ xs) i done e few h = absurd h
  crossed_scope (d ∷ ds) [] i done e few h = absurd h
  crossed_scope (d ∷ ds) (x ∷ xs) i done e few h =
      ap (λ z. joined_scope (tables_in before) z (crosses (suc i) xs)) (source_behind before done x d i e (omega (arith, few)) h.0)
      ∙ crossed_scope ds xs (suc i) (done ++ columns_of d.structure ∷ []) (next_number i done (columns_of d.structure) e) (omega (arith, few)) h.1

  crosses_typed : (ds : List DataSet) (xs : List Text) (i : ℕ) (done : List (List Component)) → i ≡ length done → i + length ds < 2 ^ 64 → AreHeld before xs ds → AreJoinsTyped p (tables_in before) (many_scope 0 done) (crosses i xs)
  crosses_typed [] [] i done e few h = tt
  crosses_typed [] (x ∷ xs) i done e few h = absurd h
  crosses_typed (d ∷ ds) [] i done e few h = absurd h
  crosses_typed (d ∷ ds) (x ∷ xs) i done e few h = (
    (ap is_some h.0.known, alias_new before done x d i e (omega (arith, few)) h.0, refl),
    tt,
    subst (λ z. AreJoinsTyped p (tables_in before) z (crosses (suc i) xs)) (sym (source_behind before done x d i e (omega (arith, few)) h.0))
        (crosses_typed ds xs (suc i) (done ++ columns_of d.structure ∷ []) (next_number i done (columns_of d.structure) e) (omega (arith, few)) h.1),
  )

  crosses_printed : (ds : List DataSet) (xs : List Text) (i : ℕ) → i + length ds < 2 ^ 64 → AreHeld before xs ds → Each (IsJoin printable_depth) (crosses i xs)
  crosses_printed [] [] i few h = tt
  crosses_printed [] (x ∷ xs) i few h = absurd h
  crosses_printed (d ∷ ds) [] i few h = absurd h
  crosses_printed (d ∷ ds) (x ∷ xs) i few h = ((h.0.word, tt, alias_is_name i (omega (arith, few))), crosses_printed ds xs (suc i) (omega (arith, few)) h.1)

-- ---- the select

module _ (p : Settings) (law : Translates p) (before : Data) (d : DataSet) (ds : List DataSet) (x : Text) (xs : List Text) (s : Structure) (held : AreHeld before (x ∷ xs) (d ∷ ds)) (sets : AreSets (d ∷ ds)) (named : AllByRecursion (λ e. HaveNames (columns_of e.structure)) (d ∷ ds)) (few : 1 + length ds < 2 ^ 64) (given : AreGiven (columns_of s)) (ids : component_kinds (identifiers_of s) ≡ kinds_of_all identifiers_of (structures_of (d ∷ ds))) (measures : component_kinds (measures_of s) ≡ kinds_of_all measures_of (structures_of (d ∷ ds))) (attributes : component_kinds (attributes_of s) ≡ kinds_of_all attributes_of (structures_of (d ∷ ds))) where
  abbrev ss : List Structure
  ss = structures_of (d ∷ ds)

  abbrev all : List Placed
  all = placed_from 0 ss

  abbrev es : List CompExp
  es = joined_exps all all

  abbrev ts : List (List OperandPoint)
  ts = combinations (map operand_points (d ∷ ds))

  abbrev first : List (List Component)
  first = columns_of d.structure ∷ []

  abbrev yss : List (List Component)
  yss = columns_each (d ∷ ds)

  abbrev columns : List Component
  columns = all_columns yss

  abbrev naming : Naming
  naming = of_many 0 (map width_of ss)

  abbrev select : Option Exp → SelectTree
  select test = select_of p naming es s (source_as (alias_of 0) x) (crosses 1 xs) test

  made : AreFor p (all_loose columns) es (columns_of s)
  made =
      let same = from_structures 0 ss in
      let well : AreWell all = all_of_map (λ o. o.structure) IsStructure all (subst (AllByRecursion IsStructure) (sym same) (AllByRecursion-map (λ e. e.structure) IsStructure (d ∷ ds) (all_more (λ e. IsDataSet e.structure e.points) (λ e. IsStructure e.structure) (λ e h. h.well_formed) (d ∷ ds) sets))) in
      let there : ArePlaced columns all = subst (λ ys. ArePlaced ys all) (flat_map-map columns_of (λ e. e.structure) (d ∷ ds) ∙ sym (flat_map-map (λ ys. ys) (λ e. columns_of e.structure) (d ∷ ds))) (placed_all [] 0 ss refl) in
      joined_for p columns s all all well well there there (ids ∙ ap (kinds_of_all identifiers_of) (sym same)) (measures ∙ ap (kinds_of_all measures_of) (sym same)) (attributes ∙ ap (kinds_of_all attributes_of) (sym same))

  scope_is : (test : Option Exp) → scope_of (tables_in before) (select test) ≡ many_scope 0 yss
  scope_is test =
      ap (λ z. joined_scope (tables_in before) (add_source [] (alias_of 0) z) (crosses 1 xs)) held.0.known
      ∙ crossed_scope p before ds xs 1 first refl few held.1
      ∙ ap (many_scope 0) (all_done p before ds first)

  -- the rows behind the joins
  rows_joined : (test : Option Exp) → source_rows (base_of p before) (select test) ≡ kept_of (base_of p before) test (joined_of (many_scope 0 yss) (map row_with ts) None)
  rows_joined test =
      let b = base_of p before in
      ap (λ z. kept_of b test (fold (with_join b) (joined_of (add_source [] (alias_of 0) z) (b.rows x) None) (crosses 1 xs))) held.0.known
      ∙ ap (λ l. kept_of b test (fold (with_join b) (joined_of (many_scope 0 first) l None) (crosses 1 xs))) (rows_held p before x d held.0 ∙ sym (first_rows d))
      ∙ ap (kept_of b test) (crossed_joins p before ds xs 1 first (crossed_with ([] ∷ []) (operand_points d)) refl few held.1)
      ∙ ap (λ z. kept_of b test (joined_of (many_scope 0 z) (map row_with (fold crossed_with (crossed_with ([] ∷ []) (operand_points d)) (map operand_points ds))) None)) (all_done p before ds first)
      ∙ ap (λ l. kept_of b test (joined_of (many_scope 0 yss) (map row_with l) None)) (sym (crossed_each (map operand_points (d ∷ ds))))

  are : AllByRecursion (IsCombination ss) ts
  are = combinations_are (d ∷ ds) sets

  all_typed : AllByRecursion (IsPointOf (all_loose columns)) (map row_with ts)
  all_typed =
      AllByRecursion-map row_with (IsPointOf (all_loose columns)) ts
      (all_more (IsCombination ss) (λ t. IsPointOf (all_loose columns) (row_with t))
      (λ t h.
      let same : flat_map columns_of (map (λ y. y.structure) t) ≡ columns = ap (flat_map columns_of) h.structures ∙ flat_map-map columns_of (λ e. e.structure) (d ∷ ds) ∙ sym (flat_map-map (λ ys. ys) (λ e. columns_of e.structure) (d ∷ ds)) in
      loose_point columns (row_with t) (subst (λ ys. is_point ys (row_with t) ≡ true) same (row_typed t h.points))) ts are)

  point_values : map (point_of p es) (map row_with ts) ≡ map tuple_point (cross_tuples (d ∷ ds))
  point_values =
      map-map (point_of p es) row_with ts
      ∙ map_same (λ t. point_of p es (row_with t)) (λ t. tuple_point (crossed t)) ts
      (all_more (IsCombination ss) (λ t. point_of p es (row_with t) ≡ tuple_point (crossed t))
      (λ t h.
      let shown = subst (λ zs. AllShown (row_with t) (placed_from 0 zs) (map present t)) h.structures (points_shown t [] 0 refl h.points) in
      joined_values p (row_with t) all all (map present t) (crossed t) shown shown (keys_shown t h.points)) ts are)
      ∙ sym (map-map tuple_point crossed ts)

  widths_are : widths yss ++ [] ≡ map width_of ss
  widths_are = append-nil (widths yss) ∙ map-map (λ ys. length ys) (λ e. columns_of e.structure) (d ∷ ds) ∙ sym (map-map width_of (λ e. e.structure) (d ∷ ds))

  names : Names naming (many_scope 0 yss) (all_loose columns)
  names =
      let size = length-map (d ∷ ds) (λ e. e.structure) in
      let many = length-map ss width_of in
      let narrow = ap length widths_are in
      loose_names naming (many_scope 0 yss) columns (subst (λ l. Names (of_many 0 l) (many_scope 0 yss) columns) widths_are (many_names yss [] (sets_apart (d ∷ ds) sets) (omega (arith, few, size, many, narrow))))

  formed : AreNamesFormed naming (all_loose columns)
  formed =
      let size = length-map (d ∷ ds) (λ e. e.structure) in
      let many = length-map ss width_of in
      loose_formed naming columns (many_formed 0 (map width_of ss) columns (omega (arith, few, size, many)) (all_named (d ∷ ds) named))

  -- ---- with a condition of WHERE, and what it leaves of the rows

  module _ (test : Option Exp) (left : Outcome (List Row)) (kept : kept_of (base_of p before) test (joined_of (many_scope 0 yss) (map row_with ts) None) ≡ left) (fits : IsMaybeCondition (site p (tables_in before) (many_scope 0 yss)) None test) (printed : IsMaybeExp printable_depth test) (typed : AllRows (IsPointOf (all_loose columns)) left) where
    from_is : IsFrom p before (many_scope 0 yss) (select test)
    from_is = record {
      scope = scope_is test;
      source = ((ap is_some held.0.known, refl, refl), (held.0.word, tt, alias_is_name 0 (omega arith)));
      joins = (
        subst (λ z. AreJoinsTyped p (tables_in before) (add_source [] (alias_of 0) z) (crosses 1 xs)) (sym held.0.known) (crosses_typed p before ds xs 1 first refl few held.1),
        crosses_printed p before ds xs 1 few held.1,
      );
      condition = (fits, printed);
    }

    tested_gives : GivesRows p before s (select test) (after left (each_point p es))
    tested_gives =
        expressions_give p law naming (all_loose columns) formed (many_scope 0 yss) names before es s made (plain_written p es (joined_plain p all all)) given (source_as (alias_of 0) x) (crosses 1 xs) test from_is left (rows_joined test ∙ kept) typed

  -- its points, or those that a filter leaves
  filtered : (condition : Option CompExp) → IsTest p (columns_of s) condition → IsExactly p before (filtered_by p condition (cross_query p ss s (x ∷ xs))) s (where_of p condition (map (point_of p es) (map row_with ts)))
  filtered None test =
      exactly_same p before (select None ∷ []) s (each_point p es (map row_with ts)) (Ok (map (point_of p es) (map row_with ts))) (each_plain p es (map row_with ts) (joined_plain p all all))
      (one_exactly p before s given (select None) (each_point p es (map row_with ts)) (tested_gives None (Ok (map row_with ts)) refl tt tt all_typed))
  filtered (Some e) test = filter_exactly p law before naming (many_scope 0 yss) (all_loose columns) names formed es s made given (joined_columns all all) (map row_with ts) all_typed e test select tested_gives

  pub cross_exactly : (condition : Option CompExp) → IsTest p (columns_of s) condition → IsExactly p before (filtered_by p condition (cross_query p ss s (x ∷ xs))) s (where_of p condition (map tuple_point (cross_tuples (d ∷ ds))))
  cross_exactly condition test = subst (λ l. IsExactly p before (filtered_by p condition (cross_query p ss s (x ∷ xs))) s (where_of p condition l)) point_values (filtered condition test)
