-- Tables by name, their columns by name, and the sources of a select by alias, with one look-up for kinds, places and cells.
use Rattle.std.specs.Prelude.{ℕ, suc, ◌+◌, Bool, true, false, not, ◌&&◌, List, [], ◌∷◌, ◌++◌, Option, Some, None, is_some, length, map, option_and_then, option_map, if◌then◌else◌}
use Rattle.std.specs.Cmp.Lexicographic.{slice_cmp}
use Rattle.std.specs.FinSet as set
use Rattle.std.specs.List.{flat_map, fold, list_all, list_any}
use Rattle.std.specs.Map.{keys_of, lookup}
use Rattle.std.specs.Ordering.{nat_cmp, ordering_then}
use Rattle.std.specs.declared.cmp.Ordering.{Ordering}
use Rattle.vtl_lists.specs.Apart.{all_apart}
use Rattle.vtl_text.specs.Texts.{same_text}
use Rattle.vtl_cell.specs.Kinds.{same_kind}
use Rattle.vtl_cell.specs.declared.kind.Kind.{Kind}
use Rattle.vtl_cell.specs.declared.kind.Kind.TheVariants as k
use Rattle.sql_tree.specs.Trees.{Text}
use Rattle.sql_tree.specs.declared.parts.Column.{Column}
use Rattle.sql_tree.specs.declared.parts.Series.{Series}
use Rattle.sql_tree.specs.declared.parts.Source.{Source}

abbrev pub is_among : Text → List Text → Bool
is_among name names = list_any (same_text name) names

-- whether a name stands twice
abbrev pub repeats : List Text → Bool
repeats names = not (all_apart same_text names)

abbrev pub is_empty : {A : Type 0} → List A → Bool
is_empty [] = true
is_empty (x ∷ xs) = false

-- values by name, as those of the columns of a table
abbrev pub Named : Type 0 → Type 0
Named V = List (Text × V)

-- the value at a name, if there is one
abbrev pub value_among : {V : Type 0} → Named V → Text → Option V
value_among named name = lookup (same_text name) named

-- the kinds of a table's columns, by name
abbrev pub Columns : Type 0
Columns = Named Kind

abbrev pub Tables : Type 0
Tables = Named Columns

abbrev pub columns_of : Tables → Text → Option Columns
columns_of tables name = value_among tables name

-- what has no kind counts as null: a rule is broken at it that comes before those on kinds
abbrev pub or_null : Option Kind → Kind
or_null (Some kind) = kind
or_null None = k.Null

-- ---- the columns of a source

-- the names of a SERIES, as its columns stand
abbrev pub series_names : Series → List Text
series_names s = s.by ++ s.on ∷ []

-- one more column, unless one of its name is there
abbrev pub add_column : Columns → Text → Kind → Columns
add_column columns name kind = if is_among name (keys_of columns) then columns else columns ++ (name, kind) ∷ []

-- the columns of these names, each with its kind in a table; a name that the table does not have counts as one of kind null, and one that stands twice counts once: a SERIES with such a name breaks a rule of its own, and what names its column breaks none
abbrev pub columns_chosen : Columns → List Text → Columns
columns_chosen table names = fold (λ columns name. add_column columns name (or_null (value_among table name))) [] names

-- a SERIES has the columns that it names, and a table has its own
abbrev pub columns_within : Columns → Option Series → Columns
columns_within table None = table
columns_within table (Some s) = columns_chosen table (series_names s)

-- the same of a table that may not be there
abbrev pub maybe_within : Option Series → Option Columns → Option Columns
maybe_within None table = table
maybe_within (Some s) table = option_map (λ t. columns_within t (Some s)) table

-- the columns of a source, where its table is there
abbrev pub columns_from : Tables → Source → Option Columns
columns_from tables s = maybe_within s.series (columns_of tables s.table)

-- the names of a SERIES are columns of its table
abbrev pub has_names : Columns → Series → Bool
has_names table s = list_all (λ name. is_some (value_among table name)) (series_names s)

-- they are, and differ, and it is ON periods
abbrev pub series_fits : Columns → Series → Bool
series_fits table s =
    has_names table s
    && (not (repeats (series_names s)) && same_kind (or_null (value_among table s.on)) k.Period)

abbrev pub maybe_series_fits : Columns → Option Series → Bool
maybe_series_fits table None = true
maybe_series_fits table (Some s) = series_fits table s

-- what a source names where its table is not there: nothing
abbrev pub or_nothing : {V : Type 0} → Option (Named V) → Named V
or_nothing (Some columns) = columns
or_nothing None = []

-- whether a source is its table, or a SERIES that fits it
abbrev pub fits_table : Tables → Source → Bool
fits_table tables s = maybe_series_fits (or_nothing (columns_of tables s.table)) s.series

abbrev pub misnames_series : Tables → Source → Bool
misnames_series tables s = not (fits_table tables s)

abbrev pub maybe_has_names : Columns → Option Series → Bool
maybe_has_names table None = true
maybe_has_names table (Some s) = has_names table s

-- whether a source is a SERIES that names what its table does not have
abbrev pub lacks_names : Tables → Source → Bool
lacks_names tables s = not (maybe_has_names (or_nothing (columns_of tables s.table)) s.series)

-- ---- sources

-- the sources of a select from the left, by alias: at each column a value, as its kind, its place or the cell of a row
abbrev pub Sources : Type 0 → Type 0
Sources V = Named (Named V)

-- the value at a column, if there is one
abbrev pub found : {V : Type 0} → Sources V → Column → Option V
found sources c = option_and_then (λ named. value_among named c.name) (value_among sources c.source)

-- one more source; a table that is not there has no columns, and of two sources of one alias the first counts
abbrev pub add_source : {V : Type 0} → Sources V → Text → Option (Named V) → Sources V
add_source sources alias None = sources
add_source sources alias (Some columns) = if is_among alias (keys_of sources) then sources else sources ++ (alias, columns) ∷ []

-- the sources within EXISTS: its own stands first, so that it hides an outer one of its alias wholly
abbrev pub inside : {V : Type 0} → Sources V → Text → Option (Named V) → Sources V
inside outer alias columns = (alias, or_nothing columns) ∷ outer

-- the kinds of the columns of the sources
abbrev pub Scope : Type 0
Scope = Sources Kind

abbrev pub with_source : Tables → Scope → Source → Scope
with_source tables scope s = add_source scope s.alias (columns_from tables s)

abbrev pub column_kind : Scope → Column → Kind
column_kind scope c = or_null (found scope c)

-- ---- places

-- the values of a source, or of all sources, with others in their places
abbrev pub each_value : {V W : Type 0} → (V → W) → Named V → Named W
each_value f named = map (λ e. (e.0, f e.1)) named

-- numbers in place of values, from this one on
abbrev pub numbered : {V : Type 0} → ℕ → Named V → Named ℕ
numbered n [] = []
numbered n (e ∷ es) = (e.0, n) ∷ numbered (suc n) es

abbrev pub placed_from : {V : Type 0} → ℕ → Sources V → Sources ℕ
placed_from n [] = []
placed_from n (s ∷ ss) = (s.0, numbered n s.1) ∷ placed_from (n + length s.1) ss

-- the place of each column in the row of FROM, which is the columns of the sources one after the other
abbrev pub placed : {V : Type 0} → Sources V → Sources ℕ
placed sources = placed_from 0 sources

-- the row of FROM of these values
abbrev pub row_of : {V : Type 0} → Sources V → List V
row_of sources = flat_map (λ s. map (λ e. e.1) s.1) sources

-- ---- groups

-- the alias and the name of a column
abbrev pub ColumnName : Type 0
ColumnName = Text × Text

abbrev pub column_name : Column → ColumnName
column_name c = (c.source, c.name)

-- columns by alias, and those of one alias by name
abbrev pub column_order : ColumnName → ColumnName → Ordering
column_order a b = ordering_then (slice_cmp nat_cmp a.0 b.0) (slice_cmp nat_cmp a.1 b.1)

-- a set of columns
abbrev pub Grouping : Type 0
Grouping = set.FinSet column_order

-- the columns of GROUP BY
abbrev pub grouping_of : List Column → Grouping
grouping_of cs = set.from_list (map column_name cs)

abbrev pub is_grouped_by : Grouping → Column → Bool
is_grouped_by group c = set.contains group (column_name c)
