-- The forms of one operand: each is a select over its table.
use Rattle.std.proofs.Common.{◌≡◌, ℕ, zero, suc, true, false, List, [], ◌∷◌, map, take, Option, Some, None, Ok, refl, ap, sym, ◌∙◌, subst, arith, append-nil}
use Rattle.std.specs.Prelude.{unwrap_or}
use Rattle.std.specs.List.{AllByRecursion, filter}
use Rattle.std.proofs.Math.Seq.{take-length}
use Rattle.vtl_decimal.specs.declared.number.Fault.{Fault}
use Rattle.vtl_cell.specs.Outcome.{Outcome, after, fault_in, faults_by, unless}
use Rattle.vtl_cell.specs.Outcomes.{is_true}
use Rattle.vtl_cell.specs.Row.{Row}
use Rattle.vtl_decimal.specs.Settings.{Settings}
use Rattle.vtl_cell.specs.declared.kind.Kind.{Kind}
use Rattle.vtl_lists.proofs.Aparts.{apart_parts}
use Rattle.vtl_lists.proofs.Sorts.{AllByRecursion-filter}
use Rattle.vtl_rows.specs.Tables.{cells_at}
use Rattle.vtl_tree.specs.Clauses.{filter_of}
use Rattle.vtl_tree.specs.CompExp.{CompExp}
use Rattle.vtl_tree.specs.DataSet.{IsDataSet, is_point}
use Rattle.vtl_tree.specs.Structure.{IsStructure, columns_of, names_of, same_name}
use Rattle.vtl_tree.specs.Value.{value}
use Rattle.vtl_tree.specs.declared.structure.Component.{Component}
use Rattle.vtl_tree.specs.declared.structure.Structure.{Structure}
use Rattle.vtl_tree.specs.Columns.{columns_named, kind_named, place_of, places_in}
use Rattle.vtl_meaning.specs.Made.{AreAmong, AreFor, IsCalculated, IsColumnAt, IsFiltered, IsLeft, IsMeasured, IsRenamed}
use Rattle.vtl_meaning.specs.Operators.{calculated_exps, calculated_of, left_of, measured_exps, measured_of}
use Rattle.vtl_meaning.specs.Points.{each_point, point_fault, point_of, with_points}
use Rattle.vtl_tree.specs.Trees.{ItemTree as Target, MeasureTree}
use Rattle.vtl_tree.proofs.NotNullLemmas.{same_itself}
use Rattle.vtl_meaning.proofs.Kept.{columns_point}
use Rattle.vtl_meaning.proofs.OwnColumns.{columns_apart, own_columns}
use Rattle.vtl_meaning.proofs.Places.{first_cells, point_length, same_name-sym}
use Rattle.sql_tree.specs.Formed.{IsMaybeExp, IsName}
use Rattle.sql_tree.specs.Trees.{Exp, ItemTree, Text}
use Rattle.sql_check_laws.specs.Fits.{IsMaybeCondition}
use Rattle.sql_check_parts.specs.Expressions.{site}
use Rattle.sql_check_parts.specs.Scopes.{add_source, columns_of as table_columns}
use Rattle.sql_meaning.specs.From.{condition_fault, kept, source_rows}
use Rattle.sql_meaning.specs.Scripts.{Data, base_of, no_table, tables_in}
use Rattle.sql_meaning.specs.Values.{at_rows, value as sql_value}
use Rattle.expressions_to_sql.specs.Names.{Names}
use Rattle.expressions_to_sql.specs.ToSql.{to_sql}
use Rattle.selects_to_sql.specs.Writable.{AllCanBeWritten, CanBeWritten, HaveNames}
use Rattle.selects_to_sql.specs.Queries as queries
use Rattle.selects_to_sql.specs.Queries.{all_to_sql, calc_query, copy_query, filter_query, first_alias, items_as, left_query, measures_query, of_one, points_query, rename_query, select_as, select_of, source_as}
use Rattle.selects_to_sql.specs.Runs.{IsTable, entries, held, printable_depth}
use Rattle.selects_to_sql.proofs.Exact.{IsExactly, exactly_same}
use Rattle.selects_to_sql.proofs.Expressions.{Translates}
use Rattle.selects_to_sql.proofs.Running.{columns_there}
use Rattle.selects_to_sql.proofs.Givens.{AreGiven}
use Rattle.selects_to_sql.proofs.SelectItems.{AllRows, GivesRows, IsFrom}
use Rattle.selects_to_sql.proofs.Selects.{IsPointOf, IsTest, condition_fits, expression_printed, expressions_give}
use Rattle.selects_to_sql.proofs.Unions.{one_exactly}
use Rattle.selects_to_sql.proofs.Sources.{AreApart, first_is_name, not_first, one_formed, one_names, one_scope}

pub same_functions : {A B : Type 0} (f g : A → B) → ((x : A) → f x ≡ g x) → f ≡ g
same_functions f g h = λ i. λ x. h x i

-- ---- columns by their names

pub kind_at : (place : ℕ) (name : List ℕ) (kind : Kind) (xs : List Component) → IsColumnAt place name kind xs → AreApart xs → kind_named name xs ≡ kind
kind_at place name kind [] i a = absurd i
kind_at zero name kind (x ∷ xs) i a = let same : same_name x.name name ≡ true = ap (same_name x.name) (sym i.0) ∙ same_itself x.name in rw same i.1
kind_at (suc place) name kind (x ∷ xs) i a =
    let other : same_name x.name name ≡ false = same_name-sym x.name name ∙ not_first place name kind x xs i a in
    rw other (kind_at place name kind xs i (apart_parts same_name x.name (names_of xs) a).1)

pub columns_for : (p : Settings) (xs ys : List Component) → AreApart xs → AreAmong ys xs → AreFor p xs (columns_named xs ys) ys
columns_for p xs [] a i = tt
columns_for p xs (y ∷ ys) a i =
    let kind = kind_at (place_of y.name xs) y.name y.kind xs i.0 a in
    (subst (λ q. IsColumnAt (place_of y.name xs) y.name q xs) (sym kind) i.0, kind, columns_for p xs ys a i.1)

pub columns_written : (xs ys : List Component) → AllCanBeWritten (columns_named xs ys)
columns_written xs [] = tt
columns_written xs (y ∷ ys) = (record { constants = tt; shallow = omega arith }, columns_written xs ys)

no_fault : (p : Settings) (xs ys : List Component) (r : Row) → point_fault p (columns_named xs ys) r ≡ None
no_fault p xs [] r = refl
no_fault p xs (y ∷ ys) r = no_fault p xs ys r

no_faults : (p : Settings) (xs ys : List Component) (d : List Row) → faults_by (point_fault p (columns_named xs ys)) d ≡ None
no_faults p xs ys [] = refl
no_faults p xs ys (r ∷ d) = rw (no_fault p xs ys r) (no_faults p xs ys d)

pub columns_each : (p : Settings) (xs ys : List Component) (d : List Row) → each_point p (columns_named xs ys) d ≡ Ok (map (cells_at (places_in xs ys)) d)
columns_each p xs ys d = ap (λ f. unless f (map (point_of p (columns_named xs ys)) d)) (no_faults p xs ys d) ∙ ap Ok (go d)
  where
    go : (e : List Row) → map (point_of p (columns_named xs ys)) e ≡ map (cells_at (places_in xs ys)) e
    go [] = refl
    go (r ∷ e) = ap (λ q. q ∷ map (point_of p (columns_named xs ys)) e) (columns_point p xs ys r) ∙ ap (λ l. cells_at (places_in xs ys) r ∷ l) (go e)

pub own_cells : (xs : List Component) (r : Row) → AreApart xs → is_point xs r ≡ true → cells_at (places_in xs xs) r ≡ r
own_cells xs r a h =
    let wide = point_length xs r h in
    ap (λ ys. cells_at (places_in ys xs) r) (sym (append-nil xs)) ∙ first_cells xs [] r a (omega (arith, wide)) ∙ ap (λ n. take n r) (sym wide) ∙ take-length r

pub same_points : (p : Settings) (a : Structure) → IsStructure a → (d : List Row) → AllByRecursion (λ r. is_point (columns_of a) r ≡ true) d → each_point p (queries.own_columns a) d ≡ Ok d
same_points p a h d all = columns_each p (columns_of a) (columns_of a) d ∙ ap Ok (go d all)
  where
    go : (e : List Row) → AllByRecursion (λ r. is_point (columns_of a) r ≡ true) e → map (cells_at (places_in (columns_of a) (columns_of a))) e ≡ e
    go [] i = refl
    go (r ∷ e) i = ap (λ q. q ∷ map (cells_at (places_in (columns_of a) (columns_of a))) e) (own_cells (columns_of a) r (columns_apart a h) i.0) ∙ ap (λ l. r ∷ l) (go e i.1)

-- ---- a select over one table

module _ (p : Settings) (law : Translates p) (before : Data) (name : Text) (a : Structure) (d : List Row) (there : IsTable before name a d) (named : IsName name) (w : IsStructure a) (na : HaveNames (columns_of a)) where
  pub rows_there : (base_of p before).rows name ≡ d
  rows_there = ap (λ o. (unwrap_or o no_table).rows) there

  pub known_there : table_columns (tables_in before) name ≡ Some (entries (columns_of a))
  known_there = columns_there before name (held a d) there

  abbrev pub xs : List Component
  xs = columns_of a

  pub own_names : Names of_one (one_scope xs) xs
  own_names = one_names xs (columns_apart a w)

  -- one table as FROM, with a condition
  pub one_from : (items : List ItemTree) (condition : Option Exp) → IsMaybeCondition (site p (tables_in before) (one_scope xs)) None condition → IsMaybeExp printable_depth condition → IsFrom p before (one_scope xs) (select_as items (source_as first_alias name) [] condition)
  one_from items condition fits printed =
      let known : (table_columns (tables_in before) name ≡ Some (entries xs)) = known_there in
      record {
        scope = ap (add_source [] first_alias) known;
        source = ((rw known refl, refl, refl), (named, tt, first_is_name));
        joins = (tt, tt);
        condition = (fits, printed);
      }

  module _ (es : List CompExp) (s : Structure) (i : AreFor p xs es (columns_of s)) (h : AllCanBeWritten es) (given : AreGiven (columns_of s)) where
    -- the rows that FROM and WHERE give are known
    pub rows_give : (condition : Option Exp) → IsMaybeCondition (site p (tables_in before) (one_scope xs)) None condition → IsMaybeExp printable_depth condition → (m : Outcome (List Row)) → source_rows (base_of p before) (select_of p of_one es s (source_as first_alias name) [] condition) ≡ m → AllRows (IsPointOf xs) m
        → GivesRows p before s (select_of p of_one es s (source_as first_alias name) [] condition) (after m (each_point p es))
    rows_give condition fits printed m rows all =
        expressions_give p law of_one xs (one_formed xs na) (one_scope xs) own_names before es s i h given (source_as first_alias name) [] condition
        (one_from (items_as (all_to_sql p of_one es) (columns_of s)) condition fits printed) m rows all

    -- all points
    pub points_mean : AllByRecursion (IsPointOf xs) d → IsExactly p before (points_query p es s None name) s (each_point p es d)
    points_mean all = one_exactly p before s given (select_of p of_one es s (source_as first_alias name) [] None) (each_point p es d) (rows_give None tt tt (Ok d) (ap Ok rows_there) all)

    -- the points at which a condition holds
    module _ (e : CompExp) (test : IsTest p xs (Some e)) where
      at_each : (r : Row) → sql_value (at_rows (base_of p before) (one_scope xs)) (to_sql p of_one e) r [] ≡ value p e r
      at_each r = law.value_at (base_of p before) of_one (one_scope xs) xs r [] refl own_names e test.0 test.2.constants

      kept_rows : source_rows (base_of p before) (select_of p of_one es s (source_as first_alias name) [] (Some (to_sql p of_one e))) ≡ filter_of p e d
      kept_rows =
          ap (λ t. unless (condition_fault (at_rows (base_of p before) t) (Some (to_sql p of_one e)) ((base_of p before).rows name)) (kept (at_rows (base_of p before) t) (Some (to_sql p of_one e)) ((base_of p before).rows name))) (ap (add_source [] first_alias) known_there)
          ∙ ap (λ l. unless (condition_fault (at_rows (base_of p before) (one_scope xs)) (Some (to_sql p of_one e)) l) (kept (at_rows (base_of p before) (one_scope xs)) (Some (to_sql p of_one e)) l)) rows_there
          ∙ ap (λ f. unless (faults_by (λ r. fault_in (f r)) d) (filter (λ r. is_true (f r)) d)) (same_functions (λ r. sql_value (at_rows (base_of p before) (one_scope xs)) (to_sql p of_one e) r []) (value p e) at_each)

      kept_points : AllByRecursion (IsPointOf xs) d → (f : Option Fault) → AllRows (IsPointOf xs) (unless f (filter (λ r. is_true (value p e r)) d))
      kept_points all None = AllByRecursion-filter (IsPointOf xs) (λ r. is_true (value p e r)) d all
      kept_points all (Some f) = tt

      pub kept_gives : AllByRecursion (IsPointOf xs) d → GivesRows p before s (select_of p of_one es s (source_as first_alias name) [] (Some (to_sql p of_one e))) (after (filter_of p e d) (each_point p es))
      kept_gives all =
          rows_give (Some (to_sql p of_one e)) (condition_fits p law of_one xs (one_formed xs na) (one_scope xs) own_names (tables_in before) e test.0 test.1 test.2) (expression_printed p law of_one xs (one_formed xs na) e test.0 test.2)
          (filter_of p e d) kept_rows (kept_points all (faults_by (λ r. fault_in (value p e r)) d))

      pub kept_mean : AllByRecursion (IsPointOf xs) d → IsExactly p before (points_query p es s (Some e) name) s (after (filter_of p e d) (each_point p es))
      kept_mean all = one_exactly p before s given (select_of p of_one es s (source_as first_alias name) [] (Some (to_sql p of_one e))) (after (filter_of p e d) (each_point p es)) (kept_gives all)

-- ---- the forms

module _ (p : Settings) (law : Translates p) (before : Data) (name : Text) (a : Structure) (d : List Row) (there : IsTable before name a d) (named : IsName name) (na : HaveNames (columns_of a)) (set : IsDataSet a d) where
  abbrev w : IsStructure a
  w = set.well_formed

  abbrev own : AreFor p (columns_of a) (queries.own_columns a) (columns_of a)
  own = columns_for p (columns_of a) (columns_of a) (columns_apart a w) (own_columns a w)

  abbrev written : AllCanBeWritten (queries.own_columns a)
  written = columns_written (columns_of a) (columns_of a)

  pub copy_means : AreGiven (columns_of a) → IsExactly p before (copy_query p a name) a (Ok d)
  copy_means given =
      exactly_same p before (copy_query p a name) a (each_point p (queries.own_columns a) d) (Ok d) (same_points p a w d set.typed)
      (points_mean p law before name a d there named w na (queries.own_columns a) a own written given set.typed)

  filtered_again : (e : CompExp) (f : Option Fault) → after (unless f (filter (λ r. is_true (value p e r)) d)) (each_point p (queries.own_columns a)) ≡ unless f (filter (λ r. is_true (value p e r)) d)
  filtered_again e None = same_points p a w (filter (λ r. is_true (value p e r)) d) (AllByRecursion-filter (λ r. is_point (columns_of a) r ≡ true) (λ r. is_true (value p e r)) d set.typed)
  filtered_again e (Some f) = refl

  pub filter_means : (e : CompExp) (s : Structure) → IsFiltered p e a s → CanBeWritten e → AreGiven (columns_of s) → IsExactly p before (filter_query p e s name) s (filter_of p e d)
  filter_means e s i h given =
      subst (λ t. IsExactly p before (filter_query p e t name) t (filter_of p e d)) (sym i.same)
      (exactly_same p before (filter_query p e a name) a (after (filter_of p e d) (each_point p (queries.own_columns a))) (filter_of p e d) (filtered_again e (faults_by (λ r. fault_in (value p e r)) d))
      (kept_mean p law before name a d there named w na (queries.own_columns a) a own written (subst (λ t. AreGiven (columns_of t)) i.same given) e (i.condition, i.boolean, h) set.typed))

  pub calc_means : (items : List Target) (s : Structure) → IsCalculated p items a s → AllCanBeWritten (calculated_exps items a s) → AreGiven (columns_of s) → IsExactly p before (calc_query p items a s name) s (calculated_of p items (with_points a d) s)
  calc_means items s i h given = points_mean p law before name a d there named w na (calculated_exps items a s) s i.columns h given set.typed

  pub measures_mean : (m : MeasureTree) (s : Structure) → IsMeasured p m a s → AllCanBeWritten (measured_exps m a s) → AreGiven (columns_of s) → IsExactly p before (measures_query p m a s name) s (measured_of p m (with_points a d) s)
  measures_mean m s i h given = points_mean p law before name a d there named w na (measured_exps m a s) s i.columns h given set.typed

  pub left_means : (s : Structure) → IsLeft a s → AreGiven (columns_of s) → IsExactly p before (left_query p a s name) s (Ok (left_of (with_points a d) s))
  left_means s i given =
      exactly_same p before (left_query p a s name) s (each_point p (columns_named (columns_of a) (columns_of s)) d) (Ok (left_of (with_points a d) s)) (columns_each p (columns_of a) (columns_of s) d)
      (points_mean p law before name a d there named w na (columns_named (columns_of a) (columns_of s)) s (columns_for p (columns_of a) (columns_of s) (columns_apart a w) i.columns) (columns_written (columns_of a) (columns_of s)) given set.typed)

  pub rename_means : (s : Structure) → IsRenamed a s → AreGiven (columns_of s) → IsExactly p before (rename_query p a s name) s (Ok d)
  rename_means s i given =
      exactly_same p before (rename_query p a s name) s (each_point p (queries.own_columns a) d) (Ok d) (same_points p a w d set.typed)
      (points_mean p law before name a d there named w na (queries.own_columns a) s (renamed (queries.own_columns a) (columns_of a) (columns_of s) (sym i.kinds) own) written given set.typed)
    where
      renamed : (es : List CompExp) (ys zs : List Component) → map (λ x. x.kind) ys ≡ map (λ x. x.kind) zs → AreFor p (columns_of a) es ys → AreFor p (columns_of a) es zs
      renamed [] [] [] e h = tt
      renamed [] [] (z ∷ zs) e h = cc
      renamed [] (y ∷ ys) zs e h = absurd h
      renamed (f ∷ fs) [] zs e h = absurd h
      renamed (f ∷ fs) (y ∷ ys) [] e h = cc
      renamed (f ∷ fs) (y ∷ ys) (z ∷ zs) e h =
          let one : y.kind ≡ z.kind = cc in
          let more : map (λ x. x.kind) ys ≡ map (λ x. x.kind) zs = cc in
          (h.0, h.1 ∙ one, renamed fs ys zs more h.2)
