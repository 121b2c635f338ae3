-- `exists_in` is a select with EXISTS as an item, or with the one answer that is retained.
use Rattle.std.proofs.Common.{◌≡◌, Bool, true, false, ◌||◌, List, [], ◌∷◌, ◌++◌, map, Some, None, Ok, refl, ap, sym, ◌∙◌, subst, arith}
use Rattle.std.specs.List.{AllByRecursion, filter, list_any}
use Rattle.std.proofs.lemmas.Bool.{not-true}
use Rattle.vtl_cell.specs.Kinds.{is_of}
use Rattle.vtl_cell.specs.Outcome.{faults_by, join, unless}
use Rattle.vtl_cell.specs.Row.{Row, column_of, same_row}
use Rattle.vtl_decimal.specs.Settings.{Settings}
use Rattle.vtl_cell.specs.declared.cell.Cell.TheVariants as c
use Rattle.vtl_cell.specs.declared.kind.Kind.TheVariants as k
use Rattle.vtl_lists.proofs.Sorts.{AllByRecursion-filter}
use Rattle.vtl_lists.proofs.Alls.{all_front, all_kept}
use Rattle.vtl_lists.proofs.Filters.{filter_true, find_any}
use Rattle.vtl_rows.specs.Tables.{cells_at}
use Rattle.vtl_syntax.specs.declared.word_groups.Retain.{Retain}
use Rattle.vtl_syntax.specs.declared.word_groups.Retain.TheVariants as retain
use Rattle.vtl_tree.specs.DataSet.{IsDataSet, is_point}
use Rattle.vtl_tree.specs.Structure.{columns_of, names_of}
use Rattle.vtl_tree.specs.declared.structure.Component.{Component}
use Rattle.vtl_tree.specs.declared.structure.Structure.{Structure}
use Rattle.vtl_tree.specs.Columns.{common_identifiers, has_identifier, columns_named, identifiers_of, others_of, place_of, places_in}
use Rattle.vtl_meaning.specs.Agreement.{agree_in, has_agreeing, key_of}
use Rattle.vtl_meaning.specs.LookUps.{values_named}
use Rattle.vtl_meaning.specs.Made.{AreAmong, IsColumnAt, IsExistence}
use Rattle.vtl_meaning.specs.Points.{with_points}
use Rattle.vtl_meaning.specs.Sets.{existence_of, is_retained, with_answer}
use Rattle.vtl_meaning.proofs.LookUps.{named_cells}
use Rattle.vtl_meaning.proofs.OwnColumns.{columns_apart}
use Rattle.vtl_tuples.proofs.Lists.{filter_each}
use Rattle.vtl_meaning.proofs.Places.{columns_split, key_cells, key_within}
use Rattle.sql_tree.specs.Formed.{IsExp, IsMaybeExp, IsName}
use Rattle.sql_tree.specs.Trees.{Exp, Text}
use Rattle.sql_check_laws.specs.Fits.{Fits, IsMaybeCondition}
use Rattle.sql_check_parts.specs.Expressions.{site}
use Rattle.sql_check_parts.specs.Kinds.{kind_in}
use Rattle.sql_check_parts.specs.Scopes.{add_source, columns_of as table_columns}
use Rattle.sql_meaning.specs.From.{condition_fault, kept, source_rows}
use Rattle.sql_meaning.specs.Scripts.{Data, base_of, tables_in}
use Rattle.sql_meaning.specs.Values.{at_rows, value as sql_value}
use Rattle.selects_to_sql.specs.Writable.{HaveNames}
use Rattle.selects_to_sql.specs.Queries.{all_to_sql, first_alias, items_as, of_one, select_as, source_as}
use Rattle.vtl_to_sql.specs.Sets.{answer_shown, existence_query, is_matched, retained}
use Rattle.selects_to_sql.specs.Runs.{IsTable, entries, printable_depth}
use Rattle.selects_to_sql.proofs.Exact.{IsExactly, exactly_same}
use Rattle.vtl_to_sql.proofs.Exists.{has_row, is_answer, matched_fits, matched_printed, matched_rows, matched_value}
use Rattle.selects_to_sql.proofs.Expressions.{Translates}
use Rattle.selects_to_sql.proofs.Givens.{AreGiven, kinds_in}
use Rattle.selects_to_sql.proofs.Identifiers.{AreIdentifiersAt, IsIdentifierAt, identifiers_there, own_there}
use Rattle.groups_to_sql.proofs.ItemLists.{items_behind, items_where}
use Rattle.selects_to_sql.proofs.OneOperand.{columns_for, columns_written, known_there, one_from, own_names, rows_there}
use Rattle.selects_to_sql.proofs.SelectItems.{AreItems, IsItem, Valued, each_by, select_gives, values_at, values_fault}
use Rattle.selects_to_sql.proofs.Selects.{IsPointOf, expression_items, valued}
use Rattle.selects_to_sql.proofs.Sources.{one_formed, one_scope}
use Rattle.selects_to_sql.proofs.Unions.{one_exactly}

-- ---- columns of the same names and kinds

among_same : (us vs xs : List Component) → names_of us ≡ names_of vs → kinds_in us ≡ kinds_in vs → AreAmong vs xs → AreAmong us xs
among_same [] [] xs e h i = tt
among_same [] (v ∷ vs) xs e h i = cc
among_same (u ∷ us) [] xs e h i = cc
among_same (u ∷ us) (v ∷ vs) xs e h i =
    let name : v.name ≡ u.name = cc in
    let kind : v.kind ≡ u.kind = cc in
    let names_left : names_of us ≡ names_of vs = cc in
    let kinds_left : kinds_in us ≡ kinds_in vs = cc in
    (subst (λ n. IsColumnAt (place_of n xs) n u.kind xs) name (subst (λ q. IsColumnAt (place_of v.name xs) v.name q xs) kind i.0), among_same us vs xs names_left kinds_left i.1)

pub all_columns : (xs zs : List Component) → AreIdentifiersAt xs zs → AreAmong zs xs
all_columns xs [] i = tt
all_columns xs (z ∷ zs) i = (i.0.column, all_columns xs zs i.1)

-- ---- rows that pass a test

any_each : {X : Type 0} (p q : X → Bool) → ((x : X) → p x ≡ q x) → (xs : List X) → list_any p xs ≡ list_any q xs
any_each p q h [] = refl
any_each p q h (x ∷ xs) = ap (λ b. b || list_any p xs) (h x) ∙ ap (λ b. q x || b) (any_each p q h xs)

-- ---- values without faults

module _ (p : Settings) (law : Translates p) (before : Data) (x y : Text) (a b s : Structure) (d e : List Row) (tx : IsTable before x a d) (ty : IsTable before y b e) (nx : IsName x) (ny : IsName y) (na : HaveNames (columns_of a)) (nb : HaveNames (columns_of b)) (sa : IsDataSet a d) (sb : IsDataSet b e) (i : IsExistence a b s) (given : AreGiven (columns_of s)) where
  abbrev xs : List Component
  xs = columns_of a

  abbrev ys : List Component
  ys = columns_of b

  abbrev common : List Component
  common = common_identifiers a b

  ours : AreIdentifiersAt xs common
  ours = identifiers_there a sa.well_formed common i.common

  theirs : AreIdentifiersAt ys common
  theirs = AllByRecursion-filter (λ z. IsIdentifierAt z.name z.kind ys) (λ z. has_identifier a z.name) (identifiers_of b) (own_there b sb.well_formed)

  abbrev known : table_columns (tables_in before) y ≡ Some (entries ys)
  known = known_there p law before y b e ty ny sb.well_formed nb

  abbrev there : (base_of p before).rows y ≡ e
  there = rows_there p law before y b e ty ny sb.well_formed nb

  abbrev has : Row → Bool
  has r = has_row (base_of p before) xs ys (columns_apart a sa.well_formed) (columns_apart b sb.well_formed) y known common e r

  has_is : (r : Row) → has r ≡ has_agreeing a (with_points b e) r
  has_is r =
      any_each (λ q. same_row (cells_at (places_in ys common) q) (cells_at (places_in xs common) r)) (agree_in a b r)
      (λ q. ap (λ z. same_row z (cells_at (places_in xs common) r)) (named_cells ys common q) ∙ ap (same_row (values_named ys common q)) (named_cells xs common r)) e
      ∙ sym (find_any (agree_in a b r) e)

  abbrev answer : Exp
  answer = is_matched true common y

  -- ---- the items

  abbrev ids : List Component
  ids = identifiers_of s

  ids_among : AreAmong ids xs
  ids_among = among_same ids (identifiers_of a) xs i.identifiers.0 i.identifiers.1 (all_columns xs (identifiers_of a) (own_there a sa.well_formed))

  common_named : HaveNames common
  common_named = AllByRecursion-filter (λ z. IsName z.name) (λ z. has_identifier a z.name) (identifiers_of b) (all_front (λ z. IsName z.name) (identifiers_of b) (others_of b) (subst HaveNames (columns_split b) nb))

  abbrev answered_at : Valued
  answered_at r = Ok (c.Bool (has r))

  abbrev is_kept : Retain → Row → Bool
  is_kept kept r = is_retained kept (has r)

  abbrev IsKeptPoint : Retain → Row → Type 0
  IsKeptPoint kept r = IsPointOf xs r × (is_kept kept r ≡ true)

  answer_kind : (kept : Retain) → kind_in (one_scope xs) (answer_shown kept answer) ≡ k.Bool
  answer_kind retain.All = refl
  answer_kind retain.True = refl
  answer_kind retain.False = refl

  answer_fits : (kept : Retain) → Fits (site p (tables_in before) (one_scope xs)) None (answer_shown kept answer)
  answer_fits retain.All = (matched_fits (base_of p before) xs ys (columns_apart a sa.well_formed) (columns_apart b sb.well_formed) y known common ours theirs true).0
  answer_fits retain.True = refl
  answer_fits retain.False = refl

  answer_printed : (kept : Retain) → IsExp printable_depth (answer_shown kept answer)
  answer_printed retain.All = matched_printed true common y ny common_named
  answer_printed retain.True = (tt, omega arith)
  answer_printed retain.False = (tt, omega arith)

  answer_value : (kept : Retain) (r : Row) → IsKeptPoint kept r → sql_value (at_rows (base_of p before) (one_scope xs)) (answer_shown kept answer) r [] ≡ answered_at r
  answer_value retain.All r h = matched_value (base_of p before) xs ys (columns_apart a sa.well_formed) (columns_apart b sb.well_formed) y known common ours theirs e there sb.typed true r h.0
  answer_value retain.True r h = ap (λ t. Ok (c.Bool t)) (sym h.1)
  answer_value retain.False r h = ap (λ t. Ok (c.Bool t)) (sym (not-true (has r) h.1))

  answer_item : (kept : Retain) (z : Component) → z.kind ≡ k.Bool → IsItem (base_of p before) (one_scope xs) (IsKeptPoint kept) answered_at (answer_shown kept answer) z
  answer_item kept z kind = record {
    kind = answer_kind kept ∙ sym kind;
    fits = answer_fits kept;
    printed = answer_printed kept;
    value_is = answer_value kept;
    of_kind = λ r h. subst (λ q. is_of q (c.Bool (has r)) ≡ true) (sym kind) refl;
  }

  last_item : (kept : Retain) (zs : List Component) → kinds_in zs ≡ k.Bool ∷ [] → AreItems (base_of p before) (one_scope xs) (IsKeptPoint kept) (answered_at ∷ []) (answer_shown kept answer ∷ []) zs
  last_item kept [] h = cc
  last_item kept (z ∷ []) h = let kind : z.kind ≡ k.Bool = cc in (answer_item kept z kind, tt)
  last_item kept (z ∷ u ∷ zs) h = cc

  abbrev values : List Valued
  values = valued p (columns_named xs ids) ++ answered_at ∷ []

  abbrev items : Retain → List Exp
  items kept = all_to_sql p of_one (columns_named xs ids) ++ answer_shown kept answer ∷ []

  own_items : AreItems (base_of p before) (one_scope xs) (IsPointOf xs) (valued p (columns_named xs ids)) (all_to_sql p of_one (columns_named xs ids)) ids
  own_items = expression_items p law of_one xs (one_formed xs na) (one_scope xs) (own_names p law before x a d tx nx sa.well_formed na) before (columns_named xs ids) ids (columns_for p xs ids (columns_apart a sa.well_formed) ids_among) (columns_written xs ids)

  all_items : (kept : Retain) → AreItems (base_of p before) (one_scope xs) (IsKeptPoint kept) values (items kept) (columns_of s)
  all_items kept =
      subst (AreItems (base_of p before) (one_scope xs) (IsKeptPoint kept) values (items kept)) (sym (columns_split s))
      (items_behind (base_of p before) (one_scope xs) (IsKeptPoint kept) (valued p (columns_named xs ids)) (answered_at ∷ []) (all_to_sql p of_one (columns_named xs ids)) (answer_shown kept answer ∷ []) ids (others_of s)
      (items_where (base_of p before) (one_scope xs) (IsPointOf xs) (IsKeptPoint kept) (valued p (columns_named xs ids)) (all_to_sql p of_one (columns_named xs ids)) ids (λ r h. h.0) own_items)
      (last_item kept (others_of s) i.truth))

  -- ---- their values

  quiet : (us : List Component) (r : Row) → values_fault (valued p (columns_named xs us) ++ answered_at ∷ []) r ≡ None
  quiet [] r = refl
  quiet (u ∷ us) r = quiet us r

  cells : (us : List Component) (r : Row) → values_at (valued p (columns_named xs us) ++ answered_at ∷ []) r ≡ cells_at (places_in xs us) r ++ c.Bool (has r) ∷ []
  cells [] r = refl
  cells (u ∷ us) r = ap (λ l. column_of (place_of u.name xs) r ∷ l) (cells us r)

  one_value : (r : Row) → is_point xs r ≡ true → values_at values r ≡ with_answer a (with_points b e) r
  one_value r h =
      cells ids r
      ∙ ap (λ l. l ++ c.Bool (has r) ∷ []) (key_cells a s r sa.well_formed i.identifiers (key_within a r h))
      ∙ ap (λ t. key_of a r ++ c.Bool t ∷ []) (has_is r)

  each_value : (rows : List Row) → AllByRecursion (IsPointOf xs) rows → each_by values rows ≡ Ok (map (with_answer a (with_points b e)) rows)
  each_value rows h = ap (λ f. unless f (map (values_at values) rows)) (none rows) ∙ ap Ok (points rows h)
    where
      none : (qs : List Row) → faults_by (values_fault values) qs ≡ None
      none [] = refl
      none (q ∷ qs) = ap (λ f. join f (faults_by (values_fault values) qs)) (quiet ids q) ∙ none qs

      points : (qs : List Row) → AllByRecursion (IsPointOf xs) qs → map (values_at values) qs ≡ map (with_answer a (with_points b e)) qs
      points [] t = refl
      points (q ∷ qs) t = ap (λ l. l ∷ map (values_at values) qs) (one_value q t.0) ∙ ap (λ l. with_answer a (with_points b e) q ∷ l) (points qs t.1)

  -- ---- the rows that are kept

  matched_are : (es : List Exp) (wanted : Bool) → source_rows (base_of p before) (select_as (items_as es (columns_of s)) (source_as first_alias x) [] (Some (is_matched wanted common y))) ≡ Ok (filter (is_answer (base_of p before) xs ys (columns_apart a sa.well_formed) (columns_apart b sb.well_formed) y known common ours theirs e there sb.typed wanted) d)
  matched_are es wanted =
      ap (λ t. unless (condition_fault (at_rows (base_of p before) t) (Some (is_matched wanted common y)) ((base_of p before).rows x)) (kept (at_rows (base_of p before) t) (Some (is_matched wanted common y)) ((base_of p before).rows x))) (ap (add_source [] first_alias) (known_there p law before x a d tx nx sa.well_formed na))
      ∙ ap (λ l. unless (condition_fault (at_rows (base_of p before) (one_scope xs)) (Some (is_matched wanted common y)) l) (kept (at_rows (base_of p before) (one_scope xs)) (Some (is_matched wanted common y)) l)) (rows_there p law before x a d tx nx sa.well_formed na)
      ∙ matched_rows (base_of p before) xs ys (columns_apart a sa.well_formed) (columns_apart b sb.well_formed) y known common ours theirs e there sb.typed wanted d sa.typed

  rows_are : (kept : Retain) → source_rows (base_of p before) (select_as (items_as (items kept) (columns_of s)) (source_as first_alias x) [] (retained kept answer)) ≡ Ok (filter (is_kept kept) d)
  rows_are retain.All = ap Ok (rows_there p law before x a d tx nx sa.well_formed na ∙ sym (filter_true d))
  rows_are retain.True = matched_are (items retain.True) true
  rows_are retain.False = matched_are (items retain.False) false

  fits : (kept : Retain) → IsMaybeCondition (site p (tables_in before) (one_scope xs)) None (retained kept answer)
  fits retain.All = tt
  fits retain.True = matched_fits (base_of p before) xs ys (columns_apart a sa.well_formed) (columns_apart b sb.well_formed) y known common ours theirs true
  fits retain.False = matched_fits (base_of p before) xs ys (columns_apart a sa.well_formed) (columns_apart b sb.well_formed) y known common ours theirs false

  printed : (kept : Retain) → IsMaybeExp printable_depth (retained kept answer)
  printed retain.All = tt
  printed retain.True = matched_printed true common y ny common_named
  printed retain.False = matched_printed false common y ny common_named

  pub existence_means : (kept : Retain) → IsExactly p before (existence_query p kept a b s x y) s (Ok (existence_of (with_points a d) (with_points b e) kept))
  existence_means kept =
      let q = select_as (items_as (items kept) (columns_of s)) (source_as first_alias x) [] (retained kept answer) in
      let rows = filter (is_kept kept) d in
      let points = AllByRecursion-filter (IsPointOf xs) (is_kept kept) d sa.typed in
      let same : rows ≡ filter (λ r. is_retained kept (has_agreeing a (with_points b e) r)) d = filter_each (is_kept kept) (λ r. is_retained kept (has_agreeing a (with_points b e) r)) (λ r. ap (is_retained kept) (has_is r)) d in
      exactly_same p before (q ∷ []) s (each_by values rows) (Ok (existence_of (with_points a d) (with_points b e) kept)) (each_value rows points ∙ ap (λ l. Ok (map (with_answer a (with_points b e)) l)) same)
      (one_exactly p before s given q (each_by values rows)
      (select_gives p before (one_scope xs) (IsKeptPoint kept) values (items kept) s (all_items kept) given (source_as first_alias x) [] (retained kept answer)
      (one_from p law before x a d tx nx sa.well_formed na (items_as (items kept) (columns_of s)) (retained kept answer) (fits kept) (printed kept)) (Ok rows) (rows_are kept) (all_kept (IsPointOf xs) (is_kept kept) d sa.typed)))
