-- The tables of sources: those that are held, and those of SERIES over them.
use Rattle.std.proofs.Common.{◌≡◌, ℕ, suc, ◌+◌, Bool, true, false, cond, not, List, [], ◌∷◌, ◌++◌, map, length, Option, Some, None, IsSome, refl, sym, ap, ◌∙◌, subst, arith}
use Rattle.std.specs.Prelude.{is_some, option_map, ◌&&◌}
use Rattle.std.specs.List.{AllByRecursion, list_all}
use Rattle.std.proofs.lemmas.List.{map-append}
use Rattle.std.proofs.lemmas.Bool.{and_parts}
use Rattle.vtl_decimal.specs.Settings.{Settings}
use Rattle.vtl_text.specs.Texts.{same_text}
use Rattle.vtl_cell.specs.Kinds.{same_kind}
use Rattle.vtl_cell.specs.Row.{Row}
use Rattle.vtl_cell.specs.declared.kind.Kind.{Kind}
use Rattle.vtl_cell.specs.declared.kind.Kind.TheVariants as k
use Rattle.vtl_rows.specs.Named.{NamedTables, table_of}
use Rattle.vtl_rows.specs.Tables.{Listed, column_at}
use Rattle.vtl_rows.specs.declared.column.Column.{Column as TableColumn}
use Rattle.vtl_series.specs.Series.{series_rows}
use Rattle.sql_tree.specs.Trees.{Text}
use Rattle.sql_tree.specs.declared.parts.Series.{Series}
use Rattle.sql_tree.specs.declared.parts.Source.{Source}
use Rattle.sql_check_parts.specs.Scopes.{Columns, columns_of, columns_within, maybe_series_fits, or_null, repeats, series_fits, series_names, value_among}
use Rattle.sql_check_parts.specs.Scopes.{or_nothing as columns_or_nothing}
use Rattle.sql_check_laws.specs.Selects.{IsSourceTyped}
use Rattle.sql_meaning.specs.Profiles.{AreOfProfile, IsRowOfProfile, TablesOfProfile}
use Rattle.sql_meaning.specs.Tables.{column_entry, columns_given, columns_named, given_rows, place_among, rows_from, rows_of}
use Rattle.sql_meaning.proofs.Lists.{under}
use Rattle.sql_meaning.proofs.Profiled.{dated_is, source_is}
use Rattle.sql_meaning.proofs.SeriesColumns.{given_columns, series_columns}
use Rattle.sql_meaning.proofs.SeriesRows.{series_all}
use Rattle.sql_meaning.proofs.WindowKinds.{same_text-is}
use Rattle.sql_eval.specs.Origins.{IsSeriesOf, rows_at, rows_by}
use Rattle.sql_eval.specs.declared.origin.Origin.{Origin}
use Rattle.sql_eval.specs.declared.origin.SeriesPlaces.{SeriesPlaces}
use Rattle.sql_from.specs.Given.{filled}
use Rattle.sql_from.specs.Held.{IsHeld, base_held, columns_held, rows_held, tables_held}
use Rattle.sql_from.specs.Sources.{given_table, or_nothing, series_table, table_given, table_named}
use Rattle.sql_from.proofs.Sited.{columns_are}

-- ---- the table of a name

pub named_rows : (held : NamedTables) (name : Text) → rows_held held name ≡ (table_named held name).rows
named_rows held name = go (table_of name held)
  where
    go : (o : Option Listed) → rows_of o ≡ (or_nothing o).rows
    go None = refl
    go (Some t) = refl

pub named_columns : (held : NamedTables) (name : Text) → columns_named (tables_held held) name ≡ columns_held (table_named held name)
named_columns held name = ap columns_or_nothing (columns_are held name) ∙ go (table_of name held)
  where
    go : (o : Option Listed) → columns_or_nothing (option_map columns_held o) ≡ columns_held (or_nothing o)
    go None = refl
    go (Some t) = refl

-- ---- the rows of a source

given_is : (o : Option Series) (t : Listed) → given_rows o (columns_held t) t.rows ≡ (given_table o t).rows
given_is None t = refl
given_is (Some s) t = refl

pub source_rows_are : (p : Settings) (held : NamedTables) (s : Source) → rows_from (base_held p held) s ≡ (table_given held s).rows
source_rows_are p held s = (λ i. given_rows s.series (named_columns held s.table i) (named_rows held s.table i)) ∙ given_is s.series (table_named held s.table)

-- they are of the profile where those of all tables are
pub source_held : (held : NamedTables) (s : Source) → IsHeld held (table_given held s)
source_held held s = λ p ranged. subst (AreOfProfile p) (source_rows_are p held s) (source_is (base_held p held) ranged s)

pub origin_ranged : (p : Settings) (held : NamedTables) (o : Origin) → TablesOfProfile (base_held p held) → AreOfProfile p (rows_at (rows_held held) o)
origin_ranged p held o ranged = go o.series
  where
    go : (x : Option SeriesPlaces) → AreOfProfile p (rows_by x (rows_held held o.table))
    go None = ranged o.table
    go (Some x) = series_all (IsRowOfProfile p) x.extent x.on x.by.items (rows_held held o.table) (under (λ r h. dated_is p x.by.items r h) (rows_held held o.table) (ranged o.table))

-- ---- the columns of a source

abbrev entry_named : Columns → Text → Text × Kind
entry_named table name = (name, or_null (value_among table name))

-- the column at the place of a name that is known has that name, and its kind
entry_at : (columns : List TableColumn) (name : Text) → is_some (value_among (map column_entry columns) name) ≡ true → column_entry (column_at columns (place_among (map column_entry columns) name)) ≡ entry_named (map column_entry columns) name
entry_at [] name known = cc
entry_at (x ∷ xs) name known = go (same_text name x.name) refl known (entry_at xs name)
  where
    rest : Columns
    rest = map column_entry xs

    go : (b : Bool) → same_text name x.name ≡ b → is_some (cond b (Some x.kind) (value_among rest name)) ≡ true → (is_some (value_among rest name) ≡ true → column_entry (column_at xs (place_among rest name)) ≡ entry_named rest name)
        → column_entry (column_at (x ∷ xs) (cond (not b) (1 + place_among rest name) 0)) ≡ (name, or_null (cond b (Some x.kind) (value_among rest name)))
    go true same there ih = ap (λ (n : Text). (n, x.kind)) (sym (same_text-is name x.name same))
    go false same there ih =
        let next : suc (place_among rest name) ≡ 1 + place_among rest name = omega arith in
        ap (λ n. column_entry (column_at (x ∷ xs) n)) (sym next) ∙ ih there

all_entries : (t : Listed) (names : List Text) → list_all (λ name. is_some (value_among (columns_held t) name)) names ≡ true
    → map column_entry (map (λ name. column_at t.columns (place_among (columns_held t) name)) names) ≡ map (entry_named (columns_held t)) names
all_entries t [] known = refl
all_entries t (name ∷ names) known =
    let parts = and_parts (is_some (value_among (columns_held t) name)) (list_all (λ name. is_some (value_among (columns_held t) name)) names) known in
    λ i. entry_at t.columns name parts.0 i ∷ all_entries t names parts.1 i

table_columns : (o : Option Series) (t : Listed) → maybe_series_fits (columns_held t) o ≡ true → columns_within (columns_held t) o ≡ columns_held (given_table o t)
table_columns None t fits = refl
table_columns (Some s) t fits =
    let known = (and_parts (list_all (λ name. is_some (value_among (columns_held t) name)) (series_names s)) (not (repeats (series_names s)) && same_kind (or_null (value_among (columns_held t) s.on)) k.Period) fits).0 in
    series_columns (columns_held t) s fits ∙ sym (all_entries t (series_names s) known)

pub source_columns_are : (held : NamedTables) (s : Source) → IsSome (columns_of (tables_held held) s.table) → maybe_series_fits (columns_named (tables_held held) s.table) s.series ≡ true
    → columns_given (tables_held held) s ≡ columns_held (table_given held s)
source_columns_are held s there fits =
    given_columns (tables_held held) s there ∙ ap (λ table. columns_within table s.series) (named_columns held s.table)
    ∙ table_columns s.series (table_named held s.table) (subst (λ table. maybe_series_fits table s.series ≡ true) (named_columns held s.table) fits)

-- ---- the tables of SERIES

-- by the places of its columns it is the same
pub filled_is : (s : Series) (t : Listed) (x : SeriesPlaces) → IsSeriesOf (columns_held t) s x → filled x t ≡ series_table s t
filled_is s t x h = λ i. record {
  columns = columns i;
  rows = series_rows (h.extent i) (h.on i) (h.by i) t.rows;
}
  where
    place : Text → ℕ
    place = place_among (columns_held t)

    at_places : (names : List Text) → map (column_at t.columns) (map place names) ≡ map (λ name. column_at t.columns (place name)) names
    at_places [] = refl
    at_places (name ∷ names) = ap (λ l. column_at t.columns (place name) ∷ l) (at_places names)

    columns : map (column_at t.columns) (x.by.items ++ x.on ∷ []) ≡ map (λ name. column_at t.columns (place name)) (series_names s)
    columns =
        (λ i. map (column_at t.columns) (h.by i ++ h.on i ∷ []))
        ∙ ap (map (column_at t.columns)) (sym (map-append place s.by (s.on ∷ [])))
        ∙ at_places (series_names s)
