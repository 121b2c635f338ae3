-- `pivot` is a grouped select with the greatest value of each code.
use Rattle.std.proofs.Common.{◌≡◌, ℕ, Bool, true, false, cond, List, [], ◌∷◌, ◌++◌, map, Option, Some, None, Ok, refl, ap, sym, ◌∙◌, subst, arith}
use Rattle.std.specs.Prelude.{is_some}
use Rattle.std.specs.List.{AllByRecursion, filter, find}
use Rattle.std.specs.Option.{option_map_or}
use Rattle.std.proofs.lemmas.List.{map-append}
use Rattle.vtl_lists.specs.Apart.{all_apart}
use Rattle.vtl_cell.specs.Conversion.{as_kind}
use Rattle.vtl_cell.specs.Groups.{group_value}
use Rattle.vtl_cell.specs.Kinds.{is_of}
use Rattle.vtl_cell.specs.Order.{same_cell}
use Rattle.vtl_cell.specs.Outcome.{Outcome, after, fault_in, faults_by, join, unless}
use Rattle.vtl_cell.specs.Outcomes.{branch, first_chosen, is_true}
use Rattle.vtl_cell.specs.Row.{Row, column_of, same_row}
use Rattle.vtl_cell.specs.ScalarKinds.{common_kind, meets}
use Rattle.vtl_decimal.specs.Settings.{Settings}
use Rattle.vtl_cell.specs.declared.cell.Cell.{Cell}
use Rattle.vtl_cell.specs.declared.cell.Cell.TheVariants as c
use Rattle.vtl_cell.specs.declared.kind.Kind.{Kind}
use Rattle.vtl_cell.specs.declared.kind.Kind.TheVariants as k
use Rattle.vtl_cell.specs.declared.operator.AggKind.TheVariants as agg
use Rattle.vtl_cell.specs.declared.operator.ScalarOp.TheVariants as op
use Rattle.vtl_lists.proofs.Sorts.{AllByRecursion-filter}
use Rattle.vtl_lists.proofs.Alls.{all_more}
use Rattle.vtl_rows.specs.Tables.{cells_at}
use Rattle.vtl_tree.specs.DataSet.{IsDataSet, is_point}
use Rattle.vtl_tree.specs.Structure.{columns_of, names_of, same_name}
use Rattle.vtl_tree.specs.declared.structure.Component.{Component}
use Rattle.vtl_tree.specs.declared.structure.Structure.{Structure}
use Rattle.vtl_tuples.specs.Keys.{each_once}
use Rattle.vtl_tuples.proofs.Lists.{map_each, map_same}
use Rattle.vtl_tree.specs.ClauseShapes.{code_measure}
use Rattle.vtl_meaning.specs.Agreement.{values_in}
use Rattle.vtl_tree.specs.Columns.{columns_named, identifiers_of, kind_named, others_of, place_of, places_in}
use Rattle.vtl_meaning.specs.LookUps.{value_named}
use Rattle.vtl_meaning.specs.Made.{IsPivoted}
use Rattle.vtl_meaning.specs.Points.{with_points}
use Rattle.vtl_meaning.specs.Turned.{coded_value, codes_of, is_coded, other_identifiers, pivot_of, pivoted_point}
use Rattle.vtl_meaning.proofs.GroupLooks.{all_points, one_key}
use Rattle.vtl_meaning.proofs.JoinParts.{found_is}
use Rattle.vtl_meaning.proofs.OwnColumns.{columns_apart, own_among}
use Rattle.vtl_meaning.proofs.Places.{columns_split, identifiers_apart}
use Rattle.vtl_meaning.proofs.TurnedKept.{keys_typed, others_among}
use Rattle.vtl_meaning.proofs.ValueKinds.{cell_is_of, null_is_of}
use Rattle.vtl_meaning.proofs.LookUps.{named_cells}
use Rattle.sql_tree.specs.Formed.{IsMaybeExp, IsName}
use Rattle.sql_tree.specs.Trees.{Text, binary}
use Rattle.sql_tree.specs.declared.parts.Column.{Column}
use Rattle.sql_check_laws.specs.Fits.{Fits, IsMaybeCondition}
use Rattle.sql_check_parts.specs.Expressions.{site}
use Rattle.sql_check_parts.specs.Kinds.{kind_in, operator_kind}
use Rattle.sql_check_parts.specs.Queries.{is_grouped}
use Rattle.sql_check_parts.specs.Scopes.{Grouping, Scope, found, grouping_of, or_null}
use Rattle.sql_meaning.specs.Groups.{keys_by, rows_with}
use Rattle.sql_meaning.specs.Outcomes.{operated}
use Rattle.sql_meaning.specs.Scripts.{Data, base_of, tables_in}
use Rattle.sql_meaning.specs.Selects.{having_fault, kept_keys}
use Rattle.sql_meaning.specs.Tables.{Base}
use Rattle.sql_meaning.specs.Values.{at_groups, at_rows, place_in, value as sql_value}
use Rattle.expressions_to_sql.specs.ToSql.{column_of as sql_column, group_columns}
use Rattle.selects_to_sql.specs.Writable.{HaveNames}
use Rattle.selects_to_sql.specs.Queries.{all_to_sql, first_alias, items_as, of_one, source_as}
use Rattle.selects_to_sql.specs.Runs.{IsTable, printable_depth}
use Rattle.groups_to_sql.specs.Turned.{coded_item, kept_groups, pivot_query, pivot_select, pivoted_items, text_constant, where_coded}
use Rattle.selects_to_sql.specs.Groups.{grouped_as}
use Rattle.selects_to_sql.specs.Items.{first_column}
use Rattle.selects_to_sql.proofs.Coded.{all_there, case_of, greatest_coded, truth_of}
use Rattle.selects_to_sql.proofs.Conjunctions.{equal_cells}
use Rattle.selects_to_sql.proofs.Exact.{IsExactly}
use Rattle.selects_to_sql.proofs.Expressions.{Translates}
use Rattle.selects_to_sql.proofs.Givens.{AreGiven, kinds_in}
use Rattle.selects_to_sql.proofs.GroupKeys.{IsIn, group_printed, group_seen, key_cell, key_items, keys_before, keys_quiet, placed_in, truth_is}
use Rattle.selects_to_sql.proofs.GroupItems.{AreGroupItems, IsGroupItem, groups_behind, groups_give, groups_like}
use Rattle.selects_to_sql.proofs.Identifiers.{IsIdentifierAt, identifier_there, identifiers_there}
use Rattle.selects_to_sql.proofs.OneOperand.{one_from, own_cells, own_names, rows_there}
use Rattle.selects_to_sql.proofs.SelectItems.{Valued, each_by, gives_same, stays_after, values_at, values_fault}
use Rattle.selects_to_sql.proofs.Sources.{AreApart, one_formed, one_scope}
use Rattle.selects_to_sql.proofs.Unions.{one_exactly}

-- ---- kinds

null_shared : (kind : Kind) → or_null (common_kind (kind ∷ k.Null ∷ [])) ≡ kind
null_shared k.Null = refl
null_shared k.Bool = refl
null_shared k.Int = refl
null_shared k.Num = refl
null_shared k.Text = refl
null_shared k.Day = refl
null_shared k.Period = refl

some_shared : (kind : Kind) → is_some (common_kind (kind ∷ k.Null ∷ [])) ≡ true
some_shared k.Null = refl
some_shared k.Bool = refl
some_shared k.Int = refl
some_shared k.Num = refl
some_shared k.Text = refl
some_shared k.Day = refl
some_shared k.Period = refl

module _ (p : Settings) (law : Translates p) (before : Data) (name : Text) (a s : Structure) (d : List Row) (there : IsTable before name a d) (named : IsName name) (na : HaveNames (columns_of a)) (set : IsDataSet a d) (id m : List ℕ) (i : IsPivoted id m a s) (texts : kind_named id (identifiers_of a) ≡ k.Text) (given : AreGiven (columns_of s)) where
  abbrev xs : List Component
  xs = columns_of a

  abbrev others : List Component
  others = other_identifiers id a

  abbrev b : Base
  b = base_of p before

  abbrev scope : Scope
  scope = one_scope xs

  abbrev group : List Column
  group = group_columns first_alias (names_of others)

  abbrev members : Row → List Row
  members = rows_with (places_in xs others) d

  abbrev IsKey : Row → Type 0
  IsKey key = is_point others key ≡ true

  abbrev kind : Kind
  kind = kind_named m xs

  abbrev there_is : List ℕ → Row → Cell
  there_is code key = coded_value (with_points a d) id m key code

  -- ---- columns

  others_apart : AreApart others
  others_apart = ap (all_apart same_name) (sym i.identifiers.0) ∙ identifiers_apart s i.well_formed

  others_there : AllByRecursion (IsIn xs) others
  others_there = all_more (λ z. IsIdentifierAt z.name z.kind xs) (IsIn xs) (λ z h. h.column) others (identifiers_there a set.well_formed others (others_among id a set.well_formed))

  id_there : IsIdentifierAt id k.Text xs
  id_there = subst (λ q. IsIdentifierAt id q xs) texts (identifier_there a set.well_formed id (kind_named id (identifiers_of a)) i.coded).0

  known_id : found scope (sql_column first_alias id) ≡ Some k.Text
  known_id = (own_names p law before name a d there named set.well_formed na).known (place_of id xs) id k.Text id_there.column

  known_measure : found scope (sql_column first_alias m) ≡ Some kind
  known_measure = (own_names p law before name a d there named set.well_formed na).known (place_of m xs) m kind i.measured

  -- ---- the measure at a code

  abbrev has_code : List ℕ → Row → Bool
  has_code code r = same_cell (value_named xs r id) (c.Text code)

  abbrev measure : Row → Cell
  measure r = value_named xs r m

  chosen_value : (t : Bool) (v : Cell) → is_of kind v ≡ true → after (branch (Some t) (Ok v) (Ok c.Null)) (as_kind p kind) ≡ Ok (cond t v c.Null)
  chosen_value true v h = stays_after p kind (Ok v) h
  chosen_value false v h = stays_after p kind (Ok c.Null) (null_is_of kind)

  case_kind : (code : List ℕ) → kind_in scope (where_coded id m code) ≡ kind
  case_kind code = ap (λ o. or_null (common_kind (or_null o ∷ k.Null ∷ []))) known_measure ∙ null_shared kind

  case_value : (code : List ℕ) (r : Row) → is_point xs r ≡ true → sql_value (at_rows b scope) (where_coded id m code) r [] ≡ Ok (case_of (has_code code) measure r)
  case_value code r h =
      let names = own_names p law before name a d there named set.well_formed na in
      let id_place = names.placed (place_of id xs) id k.Text id_there.column in
      let m_place = names.placed (place_of m xs) m kind i.measured in
      let tested : Kind → Cell → Outcome Cell = λ q u. operated p q (Ok u ∷ Ok (c.Text code) ∷ []) op.Equal in
      let put : Outcome Cell → Cell → Kind → Outcome Cell = λ t v q. after (after t (λ z. branch (first_chosen z) (Ok v) (Ok c.Null))) (as_kind p q) in
      let u = value_named xs r id in
      ap (λ o. put (tested (or_null (operator_kind op.Equal (or_null o ∷ k.Text ∷ []))) (column_of (place_in scope (sql_column first_alias id)) r)) (column_of (place_in scope (sql_column first_alias m)) r) (kind_in scope (where_coded id m code))) known_id
      ∙ ap (λ n. put (tested k.Bool (column_of n r)) (column_of (place_in scope (sql_column first_alias m)) r) (kind_in scope (where_coded id m code))) id_place
      ∙ ap (λ n. put (tested k.Bool u) (column_of n r) (kind_in scope (where_coded id m code))) m_place
      ∙ ap (λ q. put (tested k.Bool u) (measure r) q) (case_kind code)
      ∙ ap (λ t. put t (measure r) kind) (equal_cells p k.Text u (c.Text code) (cell_is_of (place_of id xs) id k.Text xs r id_there.column h) refl (id_there.filled r h) refl)
      ∙ chosen_value (has_code code r) (measure r) (cell_is_of (place_of m xs) m kind xs r i.measured h)

  there_of_kind : (code : List ℕ) (key : Row) → is_of kind (there_is code key) ≡ true
  there_of_kind code key = go (find (is_coded a id key code) d) refl
    where
      go : (o : Option Row) → find (is_coded a id key code) d ≡ o → is_of kind (option_map_or measure o c.Null) ≡ true
      go None e = null_is_of kind
      go (Some r) e = cell_is_of (place_of m xs) m kind xs r i.measured (found_is (λ q. is_point xs q ≡ true) (is_coded a id key code) d r set.typed e)

  test_fits : (code : List ℕ) → Fits (site p b.tables scope) None (binary (first_column id) op.Equal (text_constant code))
  test_fits code = ((ap is_some known_id, refl), refl, ap (λ o. is_some (operator_kind op.Equal (or_null o ∷ k.Text ∷ []))) known_id)

  code_item : (code : List ℕ) → IsGroupItem b scope group members IsKey (λ key. Ok (there_is code key)) (coded_item id m code) (code_measure kind code)
  code_item code =
      let formed = one_formed xs na in
      let id_formed = formed (place_of id xs) id k.Text id_there.column in
      let m_formed = formed (place_of m xs) m kind i.measured in
      let test_is_bool : meets k.Bool (or_null (operator_kind op.Equal (or_null (found scope (sql_column first_alias id)) ∷ k.Text ∷ []))) ≡ true = ap (λ o. meets k.Bool (or_null (operator_kind op.Equal (or_null o ∷ k.Text ∷ [])))) known_id in
      record {
        kind = case_kind code;
        fits = (((test_fits code, test_is_bool, (ap is_some known_measure, refl), tt), refl, ap (λ o. is_some (common_kind (or_null o ∷ k.Null ∷ []))) known_measure ∙ some_shared kind), refl, refl);
        printed = ((tt, ((refl, id_formed, tt), m_formed, tt), tt), omega arith);
        value_is = λ key h.
            ap (λ o. after o (group_value p agg.Max)) (all_there (λ r. is_point xs r ≡ true) (λ r. sql_value (at_rows b scope) (where_coded id m code) r []) (case_of (has_code code) measure) (case_value code) (members key) (AllByRecursion-filter (λ r. is_point xs r ≡ true) (λ r. same_row (cells_at (places_in xs others) r) key) d set.typed))
            ∙ greatest_coded a id d set key code p measure;
        of_kind = λ key h. there_of_kind code key;
      }

  code_items : (codes : List (List ℕ)) → AreGroupItems b scope group members IsKey (map (λ code. λ key. Ok (there_is code key)) codes) (map (coded_item id m) codes) (map (code_measure kind) codes)
  code_items [] = tt
  code_items (code ∷ codes) = (code_item code, code_items codes)

  -- ---- all items

  abbrev code_values : List Valued
  code_values = map (λ code. λ key. Ok (there_is code key)) (codes_of id a)

  abbrev all : List Valued
  all = map (key_cell others) others ++ code_values

  kinds_same : kinds_in (others ++ map (code_measure kind) (codes_of id a)) ≡ kinds_in (columns_of s)
  kinds_same =
      map-append (λ y. y.kind) others (map (code_measure kind) (codes_of id a))
      ∙ ap (λ l. kinds_in others ++ l) (coded_kinds (codes_of id a))
      ∙ ap (λ l. l ++ map (λ code. kind) (codes_of id a)) (sym i.identifiers.1)
      ∙ ap (λ l. kinds_in (identifiers_of s) ++ l) (sym i.measures)
      ∙ sym (map-append (λ y. y.kind) (identifiers_of s) (others_of s))
      ∙ ap kinds_in (sym (columns_split s))
    where
      coded_kinds : (codes : List (List ℕ)) → kinds_in (map (code_measure kind) codes) ≡ map (λ code. kind) codes
      coded_kinds [] = refl
      coded_kinds (code ∷ codes) = ap (λ l. kind ∷ l) (coded_kinds codes)

  items : AreGroupItems b scope group members IsKey all (pivoted_items p a id m) (columns_of s)
  items =
      groups_like b scope group members IsKey all (pivoted_items p a id m) (others ++ map (code_measure kind) (codes_of id a)) (columns_of s) kinds_same
      (groups_behind b scope group members IsKey (map (key_cell others) others) code_values (all_to_sql p of_one (columns_named xs others)) (map (coded_item id m) (codes_of id a)) others (map (code_measure kind) (codes_of id a))
      (key_items p law before xs (columns_apart a set.well_formed) na others members others others_there (own_among others others_apart)) (code_items (codes_of id a)))

  -- no item has a fault
  quiet_codes : (codes : List (List ℕ)) (key : Row) → values_fault (map (λ code. λ z. Ok (there_is code z)) codes) key ≡ None
  quiet_codes [] key = refl
  quiet_codes (code ∷ codes) key = quiet_codes codes key

  all_quiet : (keys : List Row) → faults_by (values_fault all) keys ≡ None
  all_quiet [] = refl
  all_quiet (key ∷ keys) = ap (λ f. join f (faults_by (values_fault all) keys)) (keys_quiet others others code_values key ∙ quiet_codes (codes_of id a) key) ∙ all_quiet keys

  code_cells : (codes : List (List ℕ)) (key : Row) → values_at (map (λ code. λ z. Ok (there_is code z)) codes) key ≡ map (λ code. there_is code key) codes
  code_cells [] key = refl
  code_cells (code ∷ codes) key = ap (λ l. there_is code key ∷ l) (code_cells codes key)

  point_is : (key : Row) → IsKey key → values_at all key ≡ pivoted_point (with_points a d) id m key
  point_is key h = keys_before others others code_values key ∙ ap (λ l. l ++ values_at code_values key) (own_cells others key others_apart h) ∙ ap (λ l. key ++ l) (code_cells (codes_of id a) key)

  abbrev keys : List Row
  keys = each_once same_row (map (values_in a others) d)

  keys_are : AllByRecursion IsKey keys
  keys_are = keys_typed id m (with_points a d) s i set

  rows_are : each_by all keys ≡ Ok (pivot_of (with_points a d) id m)
  rows_are =
      ap (λ f. unless f (map (values_at all) keys)) (all_quiet keys)
      ∙ ap Ok (map_same (values_at all) (pivoted_point (with_points a d) id m) keys (all_more IsKey (λ key. values_at all key ≡ pivoted_point (with_points a d) id m key) point_is keys keys_are))

  -- ---- the groups

  having_fits : (zs : List Component) (g : Grouping) → IsMaybeCondition (site p (tables_in before) scope) (Some g) (kept_groups zs)
  having_fits [] g = ((refl, refl, refl), refl)
  having_fits (z ∷ zs) g = tt

  having_printed : (zs : List Component) → IsMaybeExp printable_depth (kept_groups zs)
  having_printed [] = (tt, omega arith)
  having_printed (z ∷ zs) = tt

  grouped_by : (zs : List Component) → is_grouped (grouped_as (items_as (pivoted_items p a id m) (columns_of s)) (source_as first_alias name) (group_columns first_alias (names_of zs)) (kept_groups zs)) ≡ true
  grouped_by [] = refl
  grouped_by (z ∷ zs) = refl

  one_kept : (rows : List Row) → filter (λ key. is_true (Ok (truth_of rows))) ([] ∷ []) ≡ each_once same_row (map (values_in a []) rows)
  one_kept [] = refl
  one_kept (r ∷ rows) = sym (one_key r rows)

  kept_for : (zs : List Component) → kept_keys (at_groups b scope (group_columns first_alias (names_of zs))) (rows_with (places_in xs zs) d) (kept_groups zs) (keys_by (places_in xs zs) d) ≡ each_once same_row (map (values_in a zs) d)
  kept_for [] = ap (λ o. cond (is_true o) ([] ∷ []) []) (truth_is p law before xs (columns_apart a set.well_formed) na [] [] (rows_with [] d []) ∙ ap (λ l. Ok (truth_of l)) (all_points d)) ∙ one_kept d
  kept_for (z ∷ zs) = ap (each_once same_row) (map_each (cells_at (places_in xs (z ∷ zs))) (values_in a (z ∷ zs)) (named_cells xs (z ∷ zs)) d)

  quiet_for : (zs : List Component) → having_fault (at_groups b scope (group_columns first_alias (names_of zs))) (rows_with (places_in xs zs) d) (kept_groups zs) (keys_by (places_in xs zs) d) ≡ None
  quiet_for [] = ap (λ o. join (fault_in o) None) (truth_is p law before xs (columns_apart a set.well_formed) na [] [] (rows_with [] d []))
  quiet_for (z ∷ zs) = refl

  pub pivot_means : IsExactly p before (pivot_query p id m a s name) s (Ok (pivot_of (with_points a d) id m))
  pivot_means =
      let from = one_from p law before name a d there named set.well_formed na (items_as (pivoted_items p a id m) (columns_of s)) None tt tt in
      let it = pivot_select p id m a s name in
      let own = columns_apart a set.well_formed in
      one_exactly p before s given it (Ok (pivot_of (with_points a d) id m))
      (gives_same p before s it (each_by all keys) (Ok (pivot_of (with_points a d) id m)) rows_are
      (groups_give p before scope group (places_in xs others) (placed_in p law before xs own na others others_there) d IsKey all (pivoted_items p a id m) s items given (source_as first_alias name) (kept_groups others)
      (record {
        grouped = grouped_by others;
        scope = from.scope;
        source = from.source;
        group = (group_seen p law before xs own na others others_there, group_printed p law before xs own na others others_there);
        having = (having_fits others (grouping_of group), having_printed others);
      })
      (ap Ok (rows_there p law before name a d there named set.well_formed na)) keys None (kept_for others) (quiet_for others) keys_are))
