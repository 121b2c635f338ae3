-- A select over a first source and operands that are joined with it, with a condition on the rows.
use Rattle.std.proofs.Common.{◌≡◌, ◌<◌, ◌^◌, ℕ, true, List, [], ◌∷◌, ◌++◌, length, map, Option, Some, None, Ok, refl, ap, sym, ◌∙◌, subst, arith, append-nil}
use Rattle.std.specs.Prelude.{fold, is_some}
use Rattle.std.specs.List.{AllByRecursion, filter, flat_map}
use Rattle.vtl_cell.specs.Outcome.{Outcome, after, fault_in, faults_by, unless}
use Rattle.vtl_cell.specs.Outcomes.{is_true}
use Rattle.vtl_cell.specs.Row.{Row}
use Rattle.vtl_decimal.specs.Settings.{Settings}
use Rattle.vtl_tree.specs.CompExp.{CompExp}
use Rattle.vtl_tree.specs.DataSet.{is_point}
use Rattle.vtl_tree.specs.Environment.{DataSet}
use Rattle.vtl_tree.specs.Structure.{IsStructure, columns_of}
use Rattle.vtl_tree.specs.Value.{value}
use Rattle.vtl_tree.specs.declared.structure.Component.{Component}
use Rattle.vtl_tree.specs.declared.structure.Structure.{Structure}
use Rattle.std.proofs.lemmas.List.Folds.{flat_map-map}
use Rattle.vtl_lists.proofs.Alls.{all_more}
use Rattle.vtl_tuples.proofs.Lists.{flat_map_each}
use Rattle.vtl_meaning.specs.Joined.{structures_of}
use Rattle.vtl_meaning.specs.Made.{AreFor}
use Rattle.vtl_meaning.specs.Points.{each_point, point_of}
use Rattle.vtl_meaning.proofs.OwnColumns.{columns_apart}
use Rattle.sql_tree.specs.Formed.{IsMaybeExp}
use Rattle.sql_tree.specs.Trees.{Exp, JoinTree, SelectTree, Text}
use Rattle.sql_tree.specs.declared.word_groups.JoinKind.{JoinKind}
use Rattle.sql_check_laws.specs.Fits.{IsMaybeCondition}
use Rattle.sql_check_laws.specs.Selects.{AreJoinsTyped}
use Rattle.sql_check_parts.specs.Expressions.{site}
use Rattle.sql_check_parts.specs.Queries.{first_scope, joined_scope, scope_of}
use Rattle.sql_check_parts.specs.Scopes.{Scope, add_source}
use Rattle.sql_meaning.specs.From.{kept_of, source_rows, with_join}
use Rattle.sql_meaning.specs.Scripts.{Data, base_of, tables_in}
use Rattle.sql_meaning.specs.Tables.{Base}
use Rattle.sql_meaning.specs.Values.{at_rows, value as sql_value}
use Rattle.expressions_to_sql.specs.Names.{AreNamesFormed, Names}
use Rattle.expressions_to_sql.specs.ToSql.{Naming, to_sql}
use Rattle.selects_to_sql.specs.Writable.{AllCanBeWritten, HaveNames}
use Rattle.selects_to_sql.specs.Queries.{alias_of, condition_for, select_of, source_as}
use Rattle.selects_to_sql.specs.Runs.{printable_depth}
use Rattle.joins_to_sql.specs.FilteredJoins.{filtered_by}
use Rattle.joins_to_sql.specs.Joins.{chain_select, many_at, where_of, width_of}
use Rattle.joins_to_sql.proofs.Chains.{AllTied, IsAt, IsGrown, IsOneSided, Stage, after_all, all_done, all_grown, all_pieces, chained, chained_printed, chained_scope, chained_typed, each_alone, extended_by, formed_at, found_in, grown_by, joined_of, joins, last_stage, names_at, state}
use Rattle.joins_to_sql.proofs.JoinedColumns.{each_plain}
use Rattle.joins_to_sql.proofs.ShownColumns.{AreColumns, columns_plain, filter_exactly, passing_typed}
use Rattle.selects_to_sql.proofs.Exact.{IsExactly, exactly_same}
use Rattle.selects_to_sql.proofs.Expressions.{Translates}
use Rattle.selects_to_sql.proofs.Givens.{AreGiven}
use Rattle.joins_to_sql.proofs.HeldOperands.{AreHeld, IsHeld, rows_held}
use Rattle.selects_to_sql.proofs.Loose.{all_loose, loose_formed, loose_names, loose_point}
use Rattle.joins_to_sql.proofs.ManySources.{alias_is_name, all_columns, many_scope}
use Rattle.selects_to_sql.proofs.OneOperand.{same_functions}
use Rattle.selects_to_sql.proofs.SelectItems.{AllRows, GivesRows, IsFrom}
use Rattle.selects_to_sql.proofs.Selects.{IsPointOf, IsTest, expressions_give, maybe_fits, maybe_printed}
use Rattle.selects_to_sql.proofs.Unions.{one_exactly}

module _ (p : Settings) (law : Translates p) (before : Data) (r : DataSet) (w : IsStructure r.structure) (named : HaveNames (columns_of r.structure)) (leads : AllByRecursion (λ q. is_point (columns_of r.structure) q ≡ true) r.points) (x : Text) (here : IsHeld before x r) (f : Structure → List Component) (kind : JoinKind) (one : IsOneSided kind) (ds : List DataSet) (xs : List Text) (few : length (length (columns_of r.structure) ∷ map width_of (structures_of ds)) < 2 ^ 64) (held : AreHeld before xs ds) where
  abbrev first : List Component
  first = columns_of r.structure

  abbrev ss : List Structure
  ss = structures_of ds

  abbrev ws : List ℕ
  ws = map width_of ss

  abbrev pub Tied : Type 0
  Tied = AllTied p law before first f ws few kind one ds

  -- for each row of the first source, with what is found in the operands
  abbrev pub chain_rows : List Row
  chain_rows = flat_map (λ q. extended_by kind (found_in p law before first f ws few kind one q ds) q) r.points

  abbrev pub chain_columns : List Component
  chain_columns = first ++ flat_map (λ d. columns_of d.structure) ds

  abbrev done : List (List Component)
  done = after_all p law before first f ws few kind one [] ds

  abbrev columns : List Component
  columns = all_columns (first ∷ done)

  abbrev alone : Row → List Row
  alone q = q ∷ []

  module _ (tied : Tied) where
    start : IsAt p law before first f ws few kind one 1 (length first) [] ds
    start = record {
      number = refl;
      many = ap length (sym (append-nil first));
      stage = record { apart = (columns_apart r.structure w, tt); named = (named, tt); split = refl };
    }

    abbrev it : List JoinTree
    it = joins p law before first f ws few kind one 1 (length first) ds xs

    grown_alone : (q : Row) → is_point first q ≡ true → AllByRecursion (IsGrown p law before first f ws few kind one q []) (alone q)
    grown_alone q h = (record { rest = []; is = sym (append-nil q); typed = subst (λ ys. is_point (all_loose ys) q ≡ true) (sym (append-nil first)) (loose_point first q h) }, tt)

    abbrev all_of : List Row
    all_of = flat_map (grown_by p law before first f ws few kind one ds alone) r.points

    rows_are : all_of ≡ chain_rows
    rows_are = flat_map_each (grown_by p law before first f ws few kind one ds alone) (λ q. extended_by kind (found_in p law before first f ws few kind one q ds) q) (λ q. append-nil (extended_by kind (found_in p law before first f ws few kind one q ds) q)) r.points

    joined_is : fold (with_join (base_of p before)) (state p law before first f ws few kind one [] r.points) it ≡ state p law before first f ws few kind one done chain_rows
    joined_is =
        ap (λ l. fold (with_join (base_of p before)) (state p law before first f ws few kind one [] l) it) (sym (each_alone r.points))
        ∙ chained p law before first f ws few kind one ds xs 1 (length first) [] alone r.points start tied held grown_alone leads
        ∙ ap (state p law before first f ws few kind one done) rows_are

    all_typed : AllByRecursion (IsPointOf (all_loose columns)) chain_rows
    all_typed =
        subst (AllByRecursion (IsPointOf (all_loose columns))) rows_are
        (all_pieces (λ q. is_point first q ≡ true) (IsPointOf (all_loose columns)) (grown_by p law before first f ws few kind one ds alone)
        (λ q h. all_more (IsGrown p law before first f ws few kind one q done) (IsPointOf (all_loose columns)) (λ l g. g.typed) (grown_by p law before first f ws few kind one ds alone q)
        (all_grown p law before first f ws few kind one ds xs 1 (length first) [] alone start tied held grown_alone q h)) r.points leads)

    columns_are : columns ≡ chain_columns
    columns_are =
        ap (λ yss. first ++ all_columns yss) (all_done p law before first f ws few kind one ds [])
        ∙ ap (λ l. first ++ l) (flat_map-map (λ ys. ys) (λ d. columns_of d.structure) ds)

    module _ (es : List CompExp) (s : Structure) (i : AreFor p (all_loose chain_columns) es (columns_of s)) (written : AllCanBeWritten es) (given : AreGiven (columns_of s)) where
      abbrev naming : Naming
      naming = many_at first ss

      abbrev scope : Scope
      scope = many_scope 0 (first ∷ done)

      abbrev b : Base
      b = base_of p before

      made : AreFor p (all_loose columns) es (columns_of s)
      made = subst (λ ys. AreFor p (all_loose ys) es (columns_of s)) (sym columns_are) i

      last : Stage p law before first f ws few kind one done []
      last = last_stage p law before first f ws few kind one ds 1 (length first) [] start tied

      names : Names naming scope (all_loose columns)
      names = loose_names naming scope columns (names_at p law before first f ws few kind one done [] last)

      formed : AreNamesFormed naming (all_loose columns)
      formed = loose_formed naming columns (formed_at p law before first f ws few kind one done [] last)

      -- a condition of WHERE, and what it leaves of the rows
      module _ (test : Option Exp) (left : Outcome (List Row)) (kept : kept_of b test (state p law before first f ws few kind one done chain_rows) ≡ left) (fits : IsMaybeCondition (site p (tables_in before) scope) None test) (printed : IsMaybeExp printable_depth test) (typed : AllRows (IsPointOf (all_loose columns)) left) where
        abbrev select : SelectTree
        select = select_of p naming es s (source_as (alias_of 0) x) it test

        scope_is : scope_of (tables_in before) select ≡ scope
        scope_is = ap (λ z. joined_scope (tables_in before) (add_source [] (alias_of 0) z) it) here.known ∙ chained_scope p law before first f ws few kind one ds xs 1 (length first) [] start tied held

        rows_given : source_rows b select ≡ left
        rows_given =
            ap (λ z. kept_of b test (fold (with_join b) (joined_of (add_source [] (alias_of 0) z) (b.rows x) None) it)) here.known
            ∙ ap (λ l. kept_of b test (fold (with_join b) (state p law before first f ws few kind one [] l) it)) (rows_held p before x r here)
            ∙ ap (kept_of b test) joined_is
            ∙ kept

        joins_typed : AreJoinsTyped p (tables_in before) (first_scope (tables_in before) select) it
        joins_typed =
            subst (λ z. AreJoinsTyped p (tables_in before) (add_source [] (alias_of 0) z) it) (sym here.known)
            (chained_typed p law before first f ws few kind one ds xs 1 (length first) [] start tied held)

        from_is : IsFrom p before scope select
        from_is = record {
          scope = scope_is;
          source = ((ap is_some here.known, refl, refl), (here.word, tt, alias_is_name 0 (omega arith)));
          joins = (joins_typed, chained_printed p law before first f ws few kind one ds xs 1 (length first) [] start tied held);
          condition = (fits, printed);
        }

        tested_gives : GivesRows p before s select (after left (each_point p es))
        tested_gives = expressions_give p law naming (all_loose columns) formed scope names before es s made written given (source_as (alias_of 0) x) it test from_is left rows_given typed

      -- ---- with a condition over the columns of the sources

      module _ (condition : Option CompExp) (test : IsTest p (all_loose chain_columns) condition) where
        tested : IsTest p (all_loose columns) condition
        tested = subst (λ ys. IsTest p (all_loose ys) condition) (sym columns_are) test

        -- the rows that the condition leaves
        left_is : (o : Option CompExp) → IsTest p (all_loose columns) o → kept_of b (condition_for p naming o) (state p law before first f ws few kind one done chain_rows) ≡ where_of p o chain_rows
        left_is None k = refl
        left_is (Some e) k =
            ap (λ h. unless (faults_by (λ q. fault_in (h q)) chain_rows) (filter (λ q. is_true (h q)) chain_rows))
            (same_functions (λ q. sql_value (at_rows b scope) (to_sql p naming e) q []) (value p e) (λ q. law.value_at b naming scope (all_loose columns) q [] refl names e k.0 k.2.constants))

        left_typed : (o : Option CompExp) → AllRows (IsPointOf (all_loose columns)) (where_of p o chain_rows)
        left_typed None = all_typed
        left_typed (Some e) = passing_typed (all_loose columns) (value p e) chain_rows all_typed

        -- the expressions at the rows that the condition leaves
        pub chain_gives : GivesRows p before s (chain_select p kind first f ss es s condition x xs) (after (where_of p condition chain_rows) (each_point p es))
        chain_gives =
            tested_gives (condition_for p naming condition) (where_of p condition chain_rows) (left_is condition tested)
            (maybe_fits p law naming (all_loose columns) formed scope names (tables_in before) condition tested) (maybe_printed p law naming (all_loose columns) formed condition tested) (left_typed condition)

        pub chain_exactly : IsExactly p before (chain_select p kind first f ss es s condition x xs ∷ []) s (after (where_of p condition chain_rows) (each_point p es))
        chain_exactly = one_exactly p before s given (chain_select p kind first f ss es s condition x xs) (after (where_of p condition chain_rows) (each_point p es)) chain_gives

      -- ---- with a condition over the points that the select shows

      -- where there is one
      pub shown_exactly : AreColumns es → (condition : Option CompExp) → IsTest p (columns_of s) condition → IsExactly p before (filtered_by p condition (chain_select p kind first f ss es s None x xs ∷ [])) s (where_of p condition (map (point_of p es) chain_rows))
      shown_exactly plain None test =
          exactly_same p before (chain_select p kind first f ss es s None x xs ∷ []) s (each_point p es chain_rows) (Ok (map (point_of p es) chain_rows)) (each_plain p es chain_rows (columns_plain p es plain)) (chain_exactly None tt)
      shown_exactly plain (Some e) test =
          filter_exactly p law before naming scope (all_loose columns) names formed es s made given plain chain_rows all_typed e test (select_of p naming es s (source_as (alias_of 0) x) it) tested_gives
