-- A select over a left join of two tables gives each row of the first, with the point of the second that agrees with it on the
-- identifiers of the second, or with nulls.
use Rattle.std.proofs.Common.{◌≡◌, ℕ, zero, suc, true, List, [], ◌∷◌, ◌++◌, length, map, Option, Some, None, Ok, refl, sym, ap, ◌∙◌, subst}
use Rattle.std.specs.Prelude.{option_map}
use Rattle.std.specs.List.{AllByRecursion, filter, flat_map}
use Rattle.std.specs.Option.{option_to_list}
use Rattle.std.proofs.lemmas.List.{length-map, map-append}
use Rattle.std.proofs.lemmas.List.Concat.{flat_map_single}
use Rattle.vtl_decimal.specs.Settings.{Settings}
use Rattle.vtl_decimal.specs.declared.number.Fault.{Fault}
use Rattle.vtl_cell.specs.Outcome.{Outcome, after, faults_by, fault_in, join, unless}
use Rattle.vtl_cell.specs.Outcomes.{is_true}
use Rattle.vtl_cell.specs.Row.{Row, column_of}
use Rattle.vtl_cell.specs.declared.cell.Cell.TheVariants as c
use Rattle.vtl_lists.proofs.Sorts.{AllByRecursion-filter, AllByRecursion-map}
use Rattle.vtl_lists.proofs.Alls.{all_more}
use Rattle.vtl_rows.specs.Tables.{cells_at}
use Rattle.vtl_tree.specs.Clauses.{filter_of}
use Rattle.vtl_tree.specs.Columns.{columns_named, identifiers_of, places_in}
use Rattle.vtl_tree.specs.CompExp.{CompExp}
use Rattle.vtl_tree.specs.DataSet.{IsDataSet, is_point}
use Rattle.vtl_tree.specs.Environment.{DataSet}
use Rattle.vtl_tree.specs.Structure.{columns_of, key_width}
use Rattle.vtl_tree.specs.Value.{value}
use Rattle.vtl_tree.specs.declared.structure.Component.{Component}
use Rattle.vtl_tree.specs.declared.structure.Structure.{Structure}
use Rattle.vtl_meaning.specs.Made.{AreFor}
use Rattle.vtl_meaning.specs.Points.{beside, each_point, partner, with_points}
use Rattle.vtl_meaning.proofs.Kept.{column_front, look_is}
use Rattle.vtl_meaning.proofs.OwnColumns.{columns_apart, own_columns}
use Rattle.vtl_meaning.proofs.Places.{point_append}
use Rattle.sql_tree.specs.Formed.{IsName}
use Rattle.sql_tree.specs.Trees.{Exp, SelectTree, Text, on}
use Rattle.sql_tree.specs.declared.word_groups.JoinKind.TheVariants as joining
use Rattle.sql_check_parts.specs.Scopes.{Scope, or_nothing}
use Rattle.sql_meaning.specs.From as from
use Rattle.sql_meaning.specs.From.{condition_fault, fault_at, holds, kept, nulls, or_alone, pairs, partners, partners_or_alone, source_rows}
use Rattle.sql_meaning.specs.Scripts.{Data, base_of, tables_in}
use Rattle.sql_meaning.specs.Tables.{columns_named as tables_named}
use Rattle.sql_meaning.specs.Values.{View, at_rows, value as sql_value}
use Rattle.expressions_to_sql.specs.Names.{AreNamesFormed, Names}
use Rattle.expressions_to_sql.specs.ToSql.{Naming, to_sql}
use Rattle.selects_to_sql.specs.Queries.{agree, condition_for, first_alias, of_two, second_alias, source_as}
use Rattle.selects_to_sql.specs.Runs.{IsTable}
use Rattle.selects_to_sql.specs.Writable.{AllCanBeWritten, HaveNames}
use Rattle.selects_to_sql.proofs.Expressions.{Translates}
use Rattle.selects_to_sql.proofs.Givens.{AreGiven}
use Rattle.selects_to_sql.proofs.Identifiers.{AreIdentifiersAt}
use Rattle.selects_to_sql.proofs.Loose.{all_loose, loose, loose_formed, loose_names, loose_nulls, loose_point}
use Rattle.selects_to_sql.proofs.OneOperand.{columns_for, columns_written, known_there, rows_there, same_functions}
use Rattle.selects_to_sql.proofs.Pairs as inner
use Rattle.selects_to_sql.proofs.Pairs.{same_pieces}
use Rattle.selects_to_sql.proofs.SelectItems.{AllRows, GivesRows, IsFrom}
use Rattle.selects_to_sql.proofs.Selects.{IsPointOf, IsTest, expressions_give, maybe_fits, maybe_printed}
use Rattle.selects_to_sql.proofs.Sources.{two_scope}
use Rattle.rules_to_sql.specs.CheckQueries.{left_select}
use Rattle.rules_to_sql.proofs.Columns.{for_more}

-- the rows at which a condition holds, where there is one
abbrev pub rows_where : Settings → Option CompExp → List Row → Outcome (List Row)
rows_where p None rows = Ok rows
rows_where p (Some e) rows = filter_of p e rows

-- a row with what is found beside it, or with so many nulls
abbrev pub or_nulls : ℕ → Option Row → Row
or_nulls m None = nulls m
or_nulls m (Some q) = q

pub null_cell : (m place : ℕ) → column_of place (nulls m) ≡ c.Null
null_cell zero place = nothing place
  where
    nothing : (i : ℕ) → column_of i [] ≡ c.Null
    nothing zero = refl
    nothing (suc i) = refl
null_cell (suc m) zero = refl
null_cell (suc m) (suc place) = null_cell m place

module _ (p : Settings) (law : Translates p) (before : Data) (x y : Text) (a b s : Structure) (d e : List Row) (there : IsTable before x a d) (here : IsTable before y b e) (named : IsName x × IsName y) (na : HaveNames (columns_of a)) (nb : HaveNames (columns_of b)) (set : IsDataSet a d) (other : IsDataSet b e) (ours : AreIdentifiersAt (columns_of a) (identifiers_of b)) where
  abbrev xs : List Component
  xs = columns_of a

  abbrev ys : List Component
  ys = columns_of b

  abbrev D : DataSet
  D = with_points b e

  -- behind a left join an identifier may be null
  abbrev pub left_columns : List Component
  left_columns = all_loose (xs ++ ys)

  abbrev pub found_beside : Row → Row
  found_beside r = or_nulls (length ys) (partner a D r)

  abbrev pub left_row : Row → Row
  left_row r = r ++ found_beside r

  abbrev at : Naming
  at = of_two (length xs)

  abbrev scope : Scope
  scope = two_scope xs ys

  abbrev v : View
  v = at_rows (base_of p before) scope

  abbrev tie : Exp
  tie = to_sql p at (agree a b)

  abbrev width : ℕ
  width = length ys

  -- what is known of the inner join of the two tables, of which the columns of the first are shown
  own : AreFor p (xs ++ ys) (columns_named xs xs) xs
  own = for_more p xs (xs ++ ys) xs xs (λ place name kind i. column_front place name kind xs ys i) (columns_for p xs xs (columns_apart a set.well_formed) (own_columns a set.well_formed))

  one_row : (r : Row) → is_point xs r ≡ true → partners (λ l z. holds v tie (l ++ z)) from.beside e r ≡ beside a D r
  one_row = inner.one_row p law before x y a b a d e there here named na nb set other ours (columns_named xs xs) own (columns_written xs xs)

  no_fault : faults_by (fault_at v tie) (pairs d e) ≡ None
  no_fault = inner.no_fault p law before x y a b a d e there here named na nb set other ours (columns_named xs xs) own (columns_written xs xs)

  names : Names at scope left_columns
  names = loose_names at scope (xs ++ ys) (inner.names p law before x y a b a d e there here named na nb set other ours (columns_named xs xs) own (columns_written xs xs))

  formed : AreNamesFormed at left_columns
  formed = loose_formed at (xs ++ ys) (inner.formed p law before x y a b a d e there here named na nb set other ours (columns_named xs xs) own (columns_written xs xs))

  pairs_from : IsFrom p before scope (inner.it p law before x y a b a d e there here named na nb set other ours (columns_named xs xs) own (columns_written xs xs) None)
  pairs_from = inner.from_is p law before x y a b a d e there here named na nb set other ours (columns_named xs xs) own (columns_written xs xs) None tt

  -- ---- its rows

  beside_typed : (r : Row) → is_point (all_loose ys) (found_beside r) ≡ true
  beside_typed r = go (partner a D r) refl
    where
      go : (o : Option Row) → partner a D r ≡ o → is_point (all_loose ys) (or_nulls width o) ≡ true
      go None h = loose_nulls ys
      go (Some q) h = loose_point ys q (look_is (λ z. is_point ys z ≡ true) (key_width b) e (cells_at (places_in xs (identifiers_of b)) r) q other.typed h)

  pub left_typed : (r : Row) → is_point xs r ≡ true → is_point left_columns (left_row r) ≡ true
  left_typed r h = subst (λ zs. is_point zs (left_row r) ≡ true) (sym (map-append loose xs ys)) (point_append (all_loose xs) (all_loose ys) r (found_beside r) (loose_point xs r h) (beside_typed r))

  abbrev met : View → ℕ → List Row → List Row → List Row
  met w m left right = flat_map (partners_or_alone (λ l z. holds w tie (l ++ z)) from.beside (λ l. l ++ nulls m) right) left

  met_is : met v width d e ≡ map left_row d
  met_is = same_pieces (λ r. is_point xs r ≡ true) (partners_or_alone (λ l z. holds v tie (l ++ z)) from.beside (λ l. l ++ nulls width) e) (λ r. left_row r ∷ []) (λ r h. ap (λ l. or_alone l (r ++ nulls width)) (one_row r h) ∙ go r (partner a D r)) d set.typed ∙ flat_map_single left_row d
    where
      go : (r : Row) (o : Option Row) → or_alone (option_to_list (option_map (λ q. r ++ q) o)) (r ++ nulls width) ≡ (r ++ or_nulls width o) ∷ []
      go r None = refl
      go r (Some q) = refl

  module _ (es : List CompExp) (i : AreFor p left_columns es (columns_of s)) (h : AllCanBeWritten es) (given : AreGiven (columns_of s)) (condition : Option CompExp) (test : IsTest p left_columns condition) where
    abbrev it : SelectTree
    it = left_select p es a b s condition x y

    abbrev test_of : Option Exp
    test_of = condition_for p at condition

    abbrev joined_left : View → ℕ → List Row → List Row → Outcome (List Row)
    joined_left w m left right = unless (join (faults_by (fault_at w tie) (pairs left right)) (condition_fault w test_of (met w m left right))) (kept w test_of (met w m left right))

    where_is : (o : Option CompExp) → IsTest p left_columns o → unless (condition_fault v (condition_for p at o) (map left_row d)) (kept v (condition_for p at o) (map left_row d)) ≡ rows_where p o (map left_row d)
    where_is None k = refl
    where_is (Some t) k =
        let l = map left_row d in
        ap (λ f. unless (faults_by (λ r. fault_in (f r)) l) (filter (λ r. is_true (f r)) l))
        (same_functions (λ r. sql_value v (to_sql p at t) r []) (value p t) (λ r. law.value_at (base_of p before) at scope left_columns r [] refl names t k.0 k.2.constants))

    rows_are : source_rows (base_of p before) it ≡ rows_where p condition (map left_row d)
    rows_are =
        let B = base_of p before in
        ap (λ z. joined_left (at_rows B z) (length (tables_named (tables_in before) y)) (B.rows x) (B.rows y)) pairs_from.scope
        ∙ ap (λ o. joined_left v (length (or_nothing o)) (B.rows x) (B.rows y)) (known_there p law before y b e here named.1 other.well_formed nb)
        ∙ ap (λ n. joined_left v n (B.rows x) (B.rows y)) (length-map ys (λ z. (z.name, z.kind)))
        ∙ ap (λ l. joined_left v width l (B.rows y)) (rows_there p law before x a d there named.0 set.well_formed na)
        ∙ ap (λ l. joined_left v width d l) (rows_there p law before y b e here named.1 other.well_formed nb)
        ∙ ap (λ f. unless (join f (condition_fault v test_of (met v width d e))) (kept v test_of (met v width d e))) no_fault
        ∙ ap (λ l. unless (condition_fault v test_of l) (kept v test_of l)) met_is
        ∙ where_is condition test

    all_rows : AllByRecursion (IsPointOf left_columns) (map left_row d)
    all_rows = AllByRecursion-map left_row (IsPointOf left_columns) d (all_more (λ r. is_point xs r ≡ true) (λ r. IsPointOf left_columns (left_row r)) left_typed d set.typed)

    all_typed : (o : Option CompExp) → AllRows (IsPointOf left_columns) (rows_where p o (map left_row d))
    all_typed None = all_rows
    all_typed (Some t) = go (faults_by (λ r. fault_in (value p t r)) (map left_row d))
      where
        go : (f : Option Fault) → AllRows (IsPointOf left_columns) (unless f (filter (λ r. is_true (value p t r)) (map left_row d)))
        go None = AllByRecursion-filter (IsPointOf left_columns) (λ r. is_true (value p t r)) (map left_row d) all_rows
        go (Some f) = tt

    from_is : IsFrom p before scope it
    from_is = record {
      scope = pairs_from.scope;
      source = pairs_from.source;
      joins = pairs_from.joins;
      condition = (maybe_fits p law at left_columns formed scope names (tables_in before) condition test, maybe_printed p law at left_columns formed condition test);
    }

    -- the items at the rows that the condition keeps
    pub left_gives : GivesRows p before s it (after (rows_where p condition (map left_row d)) (each_point p es))
    left_gives =
        expressions_give p law at left_columns formed scope names before es s i h given (source_as first_alias x) (on joining.Left (source_as second_alias y) tie ∷ []) test_of from_is
        (rows_where p condition (map left_row d)) rows_are (all_typed condition)
