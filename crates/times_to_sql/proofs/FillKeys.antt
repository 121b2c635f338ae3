-- The select over a SERIES gives the identifiers of the points of the filled series.
use Rattle.std.proofs.Common.{◌≡◌, ℕ, ◌+◌, Bool, true, false, not, cond, ◌&&◌, List, [], ◌∷◌, ◌++◌, map, Some, None, Ok, refl, ap, sym, ◌∙◌, subst, append-nil, append_assoc}
use Rattle.std.proofs.lemmas.List.{map-append}
use Rattle.std.specs.Prelude.{is_some, if◌then◌else◌}
use Rattle.std.specs.List.{AllByRecursion, filter, fold, list_all, position_or_len}
use Rattle.std.specs.Map.{keys_of, lookup}
use Rattle.vtl_lists.proofs.Aparts.{apart_parts}
use Rattle.vtl_lists.proofs.Perms.{AllByRecursion-Perm, Perm-sym}
use Rattle.vtl_lists.proofs.Sorts.{AllByRecursion-filter}
use Rattle.vtl_lists.proofs.Alls.{all_back, all_filtered, all_front}
use Rattle.grammar_forms.specs.Written.{Each}
use Rattle.vtl_text.specs.Texts.{same_text}
use Rattle.vtl_cell.specs.Kinds.{same_kind}
use Rattle.vtl_cell.specs.Row.{Row}
use Rattle.vtl_cell.specs.declared.kind.Kind.TheVariants as k
use Rattle.vtl_decimal.specs.Settings.{Settings}
use Rattle.vtl_series.specs.Series.{series_rows}
use Rattle.vtl_syntax.specs.declared.word_groups.Filling.{Filling}
use Rattle.vtl_syntax.specs.declared.word_groups.Filling.TheVariants as filling
use Rattle.vtl_tree.specs.Columns.{columns_named, identifiers_of, others_of, place_of, places_in}
use Rattle.vtl_tree.specs.CompExp.{CompExp}
use Rattle.vtl_tree.specs.DataSet.{IsDataSet}
use Rattle.vtl_tree.specs.Structure.{IsStructure, columns_of, names_of, same_name}
use Rattle.vtl_tree.specs.declared.structure.Component.{Component}
use Rattle.vtl_tree.specs.declared.structure.Structure.{Structure}
use Rattle.vtl_tree.proofs.NotNullLemmas.{same_itself}
use Rattle.vtl_meaning.specs.Made.{AreAmong, AreFor, IsColumnAt}
use Rattle.vtl_meaning.specs.Points.{each_point, with_points}
use Rattle.vtl_meaning.proofs.OwnColumns.{columns_apart, own_columns, own_identifiers}
use Rattle.vtl_meaning.proofs.Places.{all_of_map, columns_split, identifiers_apart, same_name-sym}
use Rattle.vtl_meaning.proofs.LookUps.{named_cells}
use Rattle.vtl_timing.specs.Timed.{extent_of}
use Rattle.vtl_timing.specs.Times.{HasTime, filled_keys, is_time, other_identifiers, series_columns, time_place}
use Rattle.vtl_timing.proofs.FilledPoints.{series_points}
use Rattle.vtl_timing.proofs.SeriesColumns.{IsOnly, identifiers_among, series_apart, series_perm, time_only}
use Rattle.sql_tree.specs.Formed.{IsName}
use Rattle.sql_tree.specs.Trees.{ItemTree, Text}
use Rattle.sql_tree.specs.declared.parts.Series.{Series}
use Rattle.sql_tree.specs.declared.parts.Source.{Source}
use Rattle.sql_check_parts.specs.Scopes.{Columns, add_column, add_source, columns_chosen, columns_of as table_columns, is_among, or_null, repeats, or_nothing, series_fits, series_names, maybe_within}
use Rattle.sql_meaning.specs.From.{source_rows}
use Rattle.sql_meaning.specs.Scripts.{Data, base_of, tables_in}
use Rattle.sql_meaning.specs.Tables as sources
use Rattle.sql_meaning.specs.Tables.{Base, place_among, series_over}
use Rattle.expressions_to_sql.specs.Names.{Names}
use Rattle.selects_to_sql.specs.Items.{first_column, own_items}
use Rattle.selects_to_sql.specs.Queries.{all_to_sql, first_alias, items_as, name_of_first, of_one, select_as}
use Rattle.selects_to_sql.specs.Runs.{IsTable, entries}
use Rattle.selects_to_sql.specs.Writable.{HaveNames}
use Rattle.selects_to_sql.proofs.Exact.{IsExactly, exactly_same}
use Rattle.selects_to_sql.proofs.Expressions.{Translates}
use Rattle.selects_to_sql.proofs.Givens.{AreGiven}
use Rattle.selects_to_sql.proofs.Identifiers.{identifier_there}
use Rattle.selects_to_sql.proofs.OneOperand.{columns_each, columns_for, columns_written, known_there, rows_there}
use Rattle.selects_to_sql.proofs.SelectItems.{IsFrom}
use Rattle.selects_to_sql.proofs.Selects.{expressions_give}
use Rattle.selects_to_sql.proofs.Sources.{AreApart, first_is_name, kind_found, one_formed, one_names, one_scope}
use Rattle.selects_to_sql.proofs.Unions.{one_exactly}
use Rattle.times_to_sql.specs.Fills.{fill_keys_query, series_as, series_of, span_of, times_of}
use Rattle.times_to_sql.proofs.Shifts.{items_each, time_kind}

-- ---- columns that are chosen by their names

-- a name behind others that differ from it
names_behind : (P : List ℕ → Type 0) (done : List Component) (y : Component) (ys : List Component) → AllByRecursion P (names_of (done ++ y ∷ ys)) → P y.name
names_behind P [] y ys all = all.0
names_behind P (x ∷ done) y ys all = names_behind P done y ys all.1

is_new : (done : List Component) (y : Component) (ys : List Component) → AreApart (done ++ y ∷ ys) → is_among y.name (keys_of (entries done)) ≡ false
is_new [] y ys a = refl
is_new (x ∷ done) y ys a =
    let parts = apart_parts same_name x.name (names_of (done ++ y ∷ ys)) a in
    let other = same_name-sym y.name x.name ∙ names_behind (λ n. same_name x.name n ≡ false) done y ys parts.0 in
    let later = is_new done y ys parts.1 in
    rw other later

entries_more : (done : List Component) (y : Component) → entries done ++ (y.name, y.kind) ∷ [] ≡ entries (done ++ y ∷ [])
entries_more [] y = refl
entries_more (x ∷ done) y = ap (λ l. (x.name, x.kind) ∷ l) (entries_more done y)

module _ (xs : List Component) (apart : AreApart xs) where
  -- columns of a table, in another order
  chosen_more : (done ys : List Component) → AreApart (done ++ ys) → AreAmong ys xs
      → fold (λ (columns : Columns) name. add_column columns name (or_null (lookup (same_text name) (entries xs)))) (entries done) (names_of ys) ≡ entries (done ++ ys)
  chosen_more done [] a i = ap entries (sym (append-nil done))
  chosen_more done (y ∷ ys) a i =
      let more : Columns → Text → Columns = λ columns name. add_column columns name (or_null (lookup (same_text name) (entries xs))) in
      let kind = kind_found (place_of y.name xs) y.name y.kind xs i.0 apart in
      let one : more (entries done) y.name ≡ entries (done ++ y ∷ []) =
      ap (λ o. add_column (entries done) y.name (or_null o)) kind
      ∙ ap (λ b. if b then entries done else entries done ++ (y.name, y.kind) ∷ []) (is_new done y ys a)
      ∙ entries_more done y in
      let whole = append_assoc done (y ∷ []) ys in
      ap (λ columns. fold more columns (names_of ys)) one
      ∙ chosen_more (done ++ y ∷ []) ys (subst AreApart (sym whole) a) i.1
      ∙ ap entries whole

  pub chosen_are : (ys : List Component) → AreApart ys → AreAmong ys xs → columns_chosen (entries xs) (names_of ys) ≡ entries ys
  chosen_are ys a i = chosen_more [] ys a i

  pub all_known : (ys : List Component) → AreAmong ys xs → list_all (λ name. is_some (lookup (same_text name) (entries xs))) (names_of ys) ≡ true
  all_known [] i = refl
  all_known (y ∷ ys) i = rw (kind_found (place_of y.name xs) y.name y.kind xs i.0 apart) (all_known ys i.1)

-- ---- places by names

pub place_is : (name : Text) (xs : List Component) → place_among (entries xs) name ≡ place_of name xs
place_is name [] = refl
place_is name (x ∷ xs) = λ i. cond (not (same_name-sym name x.name i)) (1 + place_is name xs i) 0

pub places_are : (xs ys : List Component) → map (place_among (entries xs)) (names_of ys) ≡ places_in xs ys
places_are xs [] = refl
places_are xs (y ∷ ys) = λ i. place_is y.name xs i ∷ places_are xs ys i

-- the only one that passes, by its name
among_passing : (P : Component → Type 0) (t : Component → Bool) (xs : List Component) (x : Component) → filter t xs ≡ x ∷ [] → AllByRecursion P xs → P x
among_passing P t xs x e all =
    let one : AllByRecursion P (x ∷ []) = subst (AllByRecursion P) e (AllByRecursion-filter P t xs all) in
    one.0

pub only_place : (t : Component → Bool) (xs : List Component) (x : Component) → AreApart xs → filter t xs ≡ x ∷ [] → place_of x.name xs ≡ position_or_len t xs
only_place t [] x a e = cc
only_place t (y ∷ ys) x a e =
    let parts = apart_parts same_name y.name (names_of ys) a in
    go (t y) refl e parts.0 (only_place t ys x parts.1)
  where
    go : (b : Bool) → t y ≡ b → cond b (y ∷ filter t ys) (filter t ys) ≡ x ∷ [] → AllByRecursion (λ n. same_name y.name n ≡ false) (names_of ys) → (filter t ys ≡ x ∷ [] → place_of x.name ys ≡ position_or_len t ys) → place_of x.name (y ∷ ys) ≡ position_or_len t (y ∷ ys)
    go true f g others later =
        let same : y ≡ x = cc in
        let found : same_name y.name x.name ≡ true = ap (λ (z : Component). same_name y.name z.name) (sym same) ∙ same_itself y.name in
        ap (λ b. cond (not b) (1 + place_of x.name ys) 0) found ∙ sym (ap (λ b. cond (not b) (1 + position_or_len t ys) 0) f)
    go false f g others later =
        let other : same_name y.name x.name ≡ false = among_passing (λ z. same_name y.name z.name ≡ false) t ys x g (all_of_map (λ z. z.name) (λ n. same_name y.name n ≡ false) ys others) in
        ap (λ b. cond (not b) (1 + place_of x.name ys) 0) other
        ∙ ap (λ n. 1 + n) (later g)
        ∙ sym (ap (λ b. cond (not b) (1 + position_or_len t ys) 0) f)

-- ---- a SERIES of a data set

pub same_extent : (f : Filling) → sources.extent_of (span_of f) ≡ extent_of f
same_extent filling.Single = refl
same_extent filling.All = refl

-- columns of one source
own_columns_are : (p : Settings) (xs ys : List Component) → all_to_sql p of_one (columns_named xs ys) ≡ map (λ y. first_column y.name) ys
own_columns_are p xs [] = refl
own_columns_are p xs (y ∷ ys) = ap (λ l. first_column y.name ∷ l) (own_columns_are p xs ys)

pub names_each : (ys : List Component) → HaveNames ys → Each IsName (names_of ys)
names_each [] all = tt
names_each (y ∷ ys) all = (all.0, names_each ys all.1)

module _ (a : Structure) (w : IsStructure a) (timed : HasTime a) where
  abbrev xs : List Component
  xs = columns_of a

  abbrev ids : List Component
  ids = identifiers_of a

  abbrev sc : List Component
  sc = series_columns a

  only : IsOnly is_time ids
  only = time_only a timed

  abbrev time : Component
  time = only.item

  all_series : (P : Component → Type 0) → AllByRecursion P xs → AllByRecursion P sc
  all_series P all = AllByRecursion-Perm P (Perm-sym (series_perm a)) (all_front P ids (others_of a) (subst (AllByRecursion P) (columns_split a) all))

  among : AreAmong sc xs
  among = all_series (λ y. IsColumnAt (place_of y.name xs) y.name y.kind xs) (own_columns a w)

  time_last : sc ≡ other_identifiers a ++ time ∷ []
  time_last = ap (λ l. other_identifiers a ++ l) only.only

  time_name : name_of_first (times_of a) ≡ time.name
  time_name = ap name_of_first only.only

  series_named : (f : Filling) → series_names (series_of f a) ≡ names_of sc
  series_named f =
      ap (λ n. names_of (other_identifiers a) ++ n ∷ []) time_name
      ∙ sym (map-append (λ (x : Component). x.name) (other_identifiers a) (time ∷ []))
      ∙ ap names_of (sym time_last)

  time_passes : is_time time ≡ true
  time_passes =
      let all : AllByRecursion (λ (x : Component). is_time x ≡ true) (time ∷ []) = subst (AllByRecursion (λ (x : Component). is_time x ≡ true)) only.only (all_filtered is_time ids) in
      all.0

  time_among : IsColumnAt (place_of time.name xs) time.name time.kind xs
  time_among =
      let P : Component → Type 0 = λ y. IsColumnAt (place_of y.name xs) y.name y.kind xs in
      among_passing P is_time ids time only.only (all_front P ids (others_of a) (subst (AllByRecursion P) (columns_split a) (own_columns a w)))

  -- the time's name can be written
  first_named : AllByRecursion (λ y. IsName y.name) (times_of a) → IsName (name_of_first (times_of a))
  first_named all =
      let one : AllByRecursion (λ (y : Component). IsName y.name) (time ∷ []) = subst (AllByRecursion (λ (y : Component). IsName y.name)) only.only all in
      subst IsName (sym time_name) one.0

  module _ (apart : AreApart xs) (f : Filling) where
    pub chosen : columns_chosen (entries xs) (series_names (series_of f a)) ≡ entries sc
    chosen = ap (columns_chosen (entries xs)) (series_named f) ∙ chosen_are xs apart sc (series_apart a w) among

    time_is_period : same_kind (or_null (lookup (same_text (series_of f a).on) (entries xs))) k.Period ≡ true
    time_is_period =
        ap (λ n. same_kind (or_null (lookup (same_text n) (entries xs))) k.Period) time_name
        ∙ ap (λ o. same_kind (or_null o) k.Period) (kind_found (place_of time.name xs) time.name time.kind xs time_among apart)
        ∙ ap (λ q. same_kind q k.Period) (time_kind time time_passes)

    pub fits : series_fits (entries xs) (series_of f a) ≡ true
    fits =
        let known : list_all (λ name. is_some (lookup (same_text name) (entries xs))) (series_names (series_of f a)) ≡ true
        = ap (list_all (λ name. is_some (lookup (same_text name) (entries xs)))) (series_named f) ∙ all_known xs apart sc among in
        let once : repeats (series_names (series_of f a)) ≡ false = ap repeats (series_named f) ∙ ap not (series_apart a w) in
        λ i. known i && (not (once i) && time_is_period i)

    time_at : place_among (entries xs) (series_of f a).on ≡ time_place a
    time_at =
        ap (place_among (entries xs)) time_name
        ∙ place_is time.name xs
        ∙ (identifier_there a w time.name time.kind (among_passing (λ y. IsColumnAt (place_of y.name ids) y.name y.kind ids) is_time ids time only.only (own_identifiers a w))).1
        ∙ only_place is_time ids time (identifiers_apart a w) only.only

    pub over_is : (d : List Row) → series_over (series_of f a) (entries xs) d ≡ series_rows (extent_of f) (time_place a) (places_in xs (other_identifiers a)) d
    over_is d = λ i. series_rows (same_extent f i) (time_at i) (places_are xs (other_identifiers a) i) d

-- ---- the select

module _ (p : Settings) (law : Translates p) (before : Data) (name : Text) (a : Structure) (d : List Row) (there : IsTable before name a d) (named : IsName name) (na : HaveNames (columns_of a)) (set : IsDataSet a d) (timed : HasTime a) (f : Filling) where
  abbrev own : List Component
  own = columns_of a

  abbrev made : List Component
  made = series_columns a

  abbrev w : IsStructure a
  w = set.well_formed

  abbrev source : Source
  source = series_as f a name

  abbrev series : Series
  series = series_of f a

  abbrev rows : List Row
  rows = series_rows (extent_of f) (time_place a) (places_in own (other_identifiers a)) d

  apart : AreApart own
  apart = columns_apart a w

  known : table_columns (tables_in before) name ≡ Some (entries own)
  known = known_there p law before name a d there named w na

  series_written : HaveNames made
  series_written = all_series a w timed (λ y. IsName y.name) na

  one_series : (items : List ItemTree) → IsFrom p before (one_scope made) (select_as items source [] None)
  one_series items =
      let words = all_front (λ y. IsName y.name) (other_identifiers a) (times_of a) series_written in
      let last = all_back (λ y. IsName y.name) (other_identifiers a) (times_of a) series_written in
      record {
        scope = ap (λ o. add_source [] first_alias (maybe_within (Some series) o)) known ∙ ap (λ (columns : Columns). (first_alias, columns) ∷ []) (chosen a w timed apart f);
        source = (
          (ap is_some known, refl, ap (λ o. series_fits (or_nothing o) series) known ∙ fits a w timed apart f),
          (named, (first_named a w timed last, names_each (other_identifiers a) words), first_is_name),
        );
        joins = (tt, tt);
        condition = (tt, tt);
      }

  rows_are : (items : List ItemTree) → source_rows (base_of p before) (select_as items source [] None) ≡ Ok rows
  rows_are items =
      let own : (base_of p before).rows name ≡ d = rows_there p law before name a d there named w na in
      (λ i. Ok (series_over series (or_nothing (known i)) (own i))) ∙ ap Ok (over_is a w timed apart f d)

  -- with the columns of a structure that has the identifiers
  module _ (t : Structure) (shape : columns_of t ≡ identifiers_of a) (given : AreGiven (columns_of t)) where
    abbrev keys : List Component
    keys = identifiers_of a

    abbrev es : List CompExp
    es = columns_named made keys

    shown : AreFor p made es (columns_of t)
    shown = subst (AreFor p made es) (sym shape) (columns_for p made keys (series_apart a w) (identifiers_among a w))

    gives : each_point p es rows ≡ Ok (filled_keys (extent_of f) (with_points a d))
    gives = columns_each p made keys rows ∙ ap (λ (g : Row → Row). Ok (map g rows)) (λ i. λ r. named_cells made keys r i)

    items_are : items_as (all_to_sql p of_one es) (columns_of t) ≡ own_items keys
    items_are = ap (items_as (all_to_sql p of_one es)) shape ∙ ap (λ l. items_as l keys) (own_columns_are p made keys) ∙ items_each (λ y. first_column y.name) keys

    pub keys_exactly : IsExactly p before (fill_keys_query f a name) t (Ok (filled_keys (extent_of f) (with_points a d)))
    keys_exactly =
        let names : Names of_one (one_scope made) made = one_names made (series_apart a w) in
        let items = items_as (all_to_sql p of_one es) (columns_of t) in
        let it = expressions_give p law of_one made (one_formed made series_written) (one_scope made) names before es t shown (columns_written made keys) given source [] None (one_series items) (Ok rows) (rows_are items) (series_points a w timed (extent_of f) d set.typed) in
        let whole = exactly_same p before (select_as items source [] None ∷ []) t (each_point p es rows) (Ok (filled_keys (extent_of f) (with_points a d))) gives (one_exactly p before t given (select_as items source [] None) (each_point p es rows) it) in
        subst (λ l. IsExactly p before (select_as l source [] None ∷ []) t (Ok (filled_keys (extent_of f) (with_points a d)))) items_are whole
