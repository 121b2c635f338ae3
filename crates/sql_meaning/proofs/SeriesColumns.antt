-- The columns of a SERIES, and that its rows fit them where its table's rows fit the table's.
use Rattle.std.proofs.Common.{◌≡◌, ℕ, zero, suc, ◌+◌, Bool, true, false, cond, not, ◌&&◌, ◌||◌, List, [], ◌∷◌, ◌++◌, map, append_assoc, Option, Some, None, refl, ap, sym, ◌∙◌, subst, arith}
use Rattle.std.specs.Prelude.{IsSome, fold, is_some}
use Rattle.std.specs.List.{AllByRecursion, list_all, list_any, position_or_len}
use Rattle.std.specs.Map.{keys_of, lookup}
use Rattle.std.specs.Cmp.Lexicographic.{nat_list_eq_equiv}
use Rattle.std.proofs.lemmas.List.{append-nil, map-append}
use Rattle.std.proofs.lemmas.List.Folds.{list_any-append}
use Rattle.std.proofs.lemmas.Bool.{and_parts}
use Rattle.vtl_decimal.specs.Settings.{Settings}
use Rattle.vtl_lists.specs.Apart.{all_apart}
use Rattle.vtl_lists.specs.Perm.{Perm}
use Rattle.vtl_lists.proofs.Aparts.{apart_parts}
use Rattle.vtl_text.specs.Texts.{same_text}
use Rattle.vtl_time.specs.Periods.{YearPart}
use Rattle.vtl_cell.specs.Kinds.{is_of, same_kind}
use Rattle.vtl_cell.specs.Row.{Row, column_of}
use Rattle.vtl_cell.specs.declared.cell.Cell.{Cell}
use Rattle.vtl_cell.specs.declared.cell.Cell.TheVariants as c
use Rattle.vtl_cell.specs.declared.kind.Kind.{Kind}
use Rattle.vtl_cell.specs.declared.kind.Kind.TheVariants as k
use Rattle.vtl_rows.specs.Tables.{cells_at, fits_kinds}
use Rattle.sql_tree.specs.Trees.{Text}
use Rattle.sql_tree.specs.declared.parts.Series.{Series}
use Rattle.sql_tree.specs.declared.parts.Source.{Source}
use Rattle.sql_check_parts.specs.Scopes.{Columns, Tables, add_column, columns_of, columns_within, is_among, maybe_series_fits, maybe_within, or_nothing, or_null, repeats, series_fits, series_names, value_among}
use Rattle.sql_meaning.specs.Tables.{RowsFit, columns_given, columns_named, extent_of, given_rows, kinds_of, place_among, series_over}
use Rattle.sql_meaning.proofs.Lists.{under}
use Rattle.sql_meaning.proofs.RowKinds.{fits_beside}
use Rattle.sql_meaning.proofs.SeriesRows.{series_all, series_order}

-- ---- columns

abbrev kind_named : Columns → Text → Kind
kind_named table name = or_null (value_among table name)

abbrev entry_named : Columns → Text → Text × Kind
entry_named table name = (name, kind_named table name)

-- a name that is not among those of columns, nor the name of one more, is not among theirs with it
among_more : (name other : Text) (kind : Kind) (columns : Columns) → same_text other name ≡ false → is_among name (keys_of columns) ≡ false → is_among name (keys_of (columns ++ (other, kind) ∷ [])) ≡ false
among_more name other kind columns apart free =
    ap (is_among name) (map-append (λ (x : Text × Kind). x.0) columns ((other, kind) ∷ []))
    ∙ list_any-append (same_text name) (keys_of columns) (other ∷ [])
    ∙ (λ i. free i || ((nat_list_eq_equiv.symm name other ∙ apart) i || false))

all_free : (other : Text) (kind : Kind) (columns : Columns) (names : List Text) → AllByRecursion (λ name. same_text other name ≡ false) names → AllByRecursion (λ name. is_among name (keys_of columns) ≡ false) names
    → AllByRecursion (λ name. is_among name (keys_of (columns ++ (other, kind) ∷ [])) ≡ false) names
all_free other kind columns [] apart free = tt
all_free other kind columns (name ∷ names) apart free = (among_more name other kind columns apart.0 free.0, all_free other kind columns names apart.1 free.1)

-- names that are apart, and apart from those of the columns before, have a column each
chosen_behind : (table : Columns) (names : List Text) (done : Columns) → all_apart same_text names ≡ true → AllByRecursion (λ name. is_among name (keys_of done) ≡ false) names
    → fold (λ columns name. add_column columns name (kind_named table name)) done names ≡ done ++ map (entry_named table) names
chosen_behind table [] done apart free = sym (append-nil done)
chosen_behind table (name ∷ names) done apart free =
    let parts = apart_parts same_text name names apart in
    let added : add_column done name (kind_named table name) ≡ done ++ entry_named table name ∷ [] = ap (λ b. cond b done (done ++ entry_named table name ∷ [])) free.0 in
    ap (λ columns. fold (λ columns name. add_column columns name (kind_named table name)) columns names) added
    ∙ chosen_behind table names (done ++ entry_named table name ∷ []) parts.1 (all_free name (kind_named table name) done names parts.0 free.1)
    ∙ append_assoc done (entry_named table name ∷ []) (map (entry_named table) names)

abbrev no_columns : Columns
no_columns = []

nothing_before : (names : List Text) → AllByRecursion (λ name. is_among name (keys_of no_columns) ≡ false) names
nothing_before [] = tt
nothing_before (name ∷ names) = (refl, nothing_before names)

-- what a SERIES that fits its table has: its names are known, apart, and it is ON periods
pub series_parts : (table : Columns) (s : Series) → series_fits table s ≡ true → (all_apart same_text (series_names s) ≡ true) × (kind_named table s.on ≡ k.Period)
series_parts table s h =
    let two = and_parts (list_all (λ name. is_some (value_among table name)) (series_names s)) (not (repeats (series_names s)) && same_kind (kind_named table s.on) k.Period) h in
    let rest = and_parts (not (repeats (series_names s))) (same_kind (kind_named table s.on) k.Period) two.1 in
    (twice (all_apart same_text (series_names s)) rest.0, periods (kind_named table s.on) rest.1)
  where
    twice : (b : Bool) → not (not b) ≡ true → b ≡ true
    twice true e = refl
    twice false e = e

    periods : (kind : Kind) → same_kind kind k.Period ≡ true → kind ≡ k.Period
    periods k.Period e = refl
    periods k.Null e = cc
    periods k.Bool e = cc
    periods k.Int e = cc
    periods k.Num e = cc
    periods k.Text e = cc
    periods k.Day e = cc

-- each name of a SERIES that fits its table is a column
pub series_columns : (table : Columns) (s : Series) → series_fits table s ≡ true → columns_within table (Some s) ≡ map (entry_named table) (series_names s)
series_columns table s h = chosen_behind table (series_names s) no_columns (series_parts table s h).0 (nothing_before (series_names s))

kinds_named : (table : Columns) (names : List Text) → kinds_of (map (entry_named table) names) ≡ map (kind_named table) names
kinds_named table [] = refl
kinds_named table (name ∷ names) = ap (λ l. kind_named table name ∷ l) (kinds_named table names)

series_kinds : (table : Columns) (s : Series) → series_fits table s ≡ true → kinds_of (columns_within table (Some s)) ≡ map (kind_named table) s.by ++ k.Period ∷ []
series_kinds table s h =
    ap kinds_of (series_columns table s h) ∙ kinds_named table (series_names s) ∙ map-append (kind_named table) s.by (s.on ∷ [])
    ∙ ap (λ kind. map (kind_named table) s.by ++ kind ∷ []) (series_parts table s h).1

-- ---- rows

-- the cell of a name is null or of its kind
named_fits : (table : Columns) (r : Row) (name : Text) → fits_kinds (kinds_of table) r ≡ true → is_of (kind_named table name) (column_of (place_among table name) r) ≡ true
named_fits [] [] name h = refl
named_fits [] (v ∷ vs) name h = cc
named_fits (x ∷ xs) [] name h = cc
named_fits (x ∷ xs) (v ∷ vs) name h =
    let parts = and_parts (is_of x.1 v) (fits_kinds (kinds_of xs) vs) h in
    go (same_text name x.0) parts.0 (named_fits xs vs name parts.1)
  where
    go : (b : Bool) → is_of x.1 v ≡ true → is_of (kind_named xs name) (column_of (place_among xs name) vs) ≡ true
        → is_of (or_null (cond b (Some x.1) (value_among xs name))) (column_of (cond (not b) (1 + place_among xs name) 0) (v ∷ vs)) ≡ true
    go true one rest = one
    go false one rest = let next : suc (place_among xs name) ≡ 1 + place_among xs name = omega arith in subst (λ n. is_of (kind_named xs name) (column_of n (v ∷ vs)) ≡ true) next rest

all_named : (table : Columns) (r : Row) → fits_kinds (kinds_of table) r ≡ true → (names : List Text) → fits_kinds (map (kind_named table) names) (cells_at (map (place_among table) names) r) ≡ true
all_named table r h [] = refl
all_named table r h (name ∷ names) = λ i. named_fits table r name h i && all_named table r h names i

dated_fits : (table : Columns) (s : Series) (r : Row) → fits_kinds (kinds_of table) r ≡ true → (q : YearPart) → fits_kinds (map (kind_named table) s.by ++ k.Period ∷ []) (cells_at (map (place_among table) s.by) r ++ c.Period q ∷ []) ≡ true
dated_fits table s r h q = fits_beside (map (kind_named table) s.by) (k.Period ∷ []) (cells_at (map (place_among table) s.by) r) (c.Period q ∷ []) (all_named table r h s.by) refl

series_fit : (table : Columns) (s : Series) (rows : List Row) → series_fits table s ≡ true → RowsFit (kinds_of table) rows → RowsFit (kinds_of (columns_within table (Some s))) (series_over s table rows)
series_fit table s rows h fit =
    subst (λ kinds. RowsFit kinds (series_over s table rows)) (sym (series_kinds table s h))
    (series_all (λ r. fits_kinds (map (kind_named table) s.by ++ k.Period ∷ []) r ≡ true) (extent_of s.span) (place_among table s.on) (map (place_among table) s.by) rows
    (under (λ r g. dated_fits table s r g) rows fit))

-- ---- sources

pub given_fit : (o : Option Series) (table : Columns) (rows : List Row) → maybe_series_fits table o ≡ true → RowsFit (kinds_of table) rows → RowsFit (kinds_of (columns_within table o)) (given_rows o table rows)
given_fit None table rows h fit = fit
given_fit (Some s) table rows h fit = series_fit table s rows h fit

-- the order of a table's rows is not seen
pub given-Perm : (o : Option Series) (table : Columns) {rows others : List Row} → Perm rows others → Perm (given_rows o table rows) (given_rows o table others)
given-Perm None table p = p
given-Perm (Some s) table p = series_order (extent_of s.span) (place_among table s.on) (map (place_among table) s.by) p

-- what holds of each row of a table, and is kept by some of its cells with a period behind them, holds of each row of a source over it
pub given_all : (P : Row → Type 0) → ((places : List ℕ) (r : Row) → P r → (q : YearPart) → P (cells_at places r ++ c.Period q ∷ [])) → (o : Option Series) (table : Columns) (rows : List Row) → AllByRecursion P rows → AllByRecursion P (given_rows o table rows)
given_all P kept None table rows all = all
given_all P kept (Some s) table rows all =
    series_all P (extent_of s.span) (place_among table s.on) (map (place_among table) s.by) rows (under (λ r h. kept (map (place_among table) s.by) r h) rows all)

-- the columns of a source whose table is there
pub given_columns : (tables : Tables) (s : Source) → IsSome (columns_of tables s.table) → columns_given tables s ≡ columns_within (columns_named tables s.table) s.series
given_columns tables s h = go s.series (columns_of tables s.table) h
  where
    go : (x : Option Series) (o : Option Columns) → IsSome o → or_nothing (maybe_within x o) ≡ columns_within (or_nothing o) x
    go None o e = refl
    go (Some x) None e = cc
    go (Some x) (Some table) e = refl
