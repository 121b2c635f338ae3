-- The columns that a SERIES names.
use Rattle.std.proofs.Common.{◌≡◌, ◌∙◌, ◌+◌, ◌<◌, ℕ, Bool, true, false, not, ◌&&◌, ◌∷◌, ◌++◌, List, [], Some, None, take, get_or, length, refl, ap}
use Rattle.std.specs.List.{fold, list_all}
use Rattle.std.specs.Prelude.{Option, is_some}
use Rattle.std.proofs.lemmas.List.Folds.{list_all-append}
use Rattle.std.proofs.lemmas.List.Sums.{fold_more}
use Rattle.vtl_cell.specs.Kinds.{same_kind}
use Rattle.vtl_cell.specs.declared.kind.Kind.{Kind}
use Rattle.vtl_cell.specs.declared.kind.Kind.TheVariants as k
use Rattle.sql_tree.specs.Trees.{Text}
use Rattle.sql_tree.specs.declared.parts.Series.{Series}
use Rattle.sql_tree.specs.declared.parts.Source.{Source}
use Rattle.sql_check_parts.specs.Scopes.{Columns, Tables, add_column, columns_chosen, columns_of, columns_within, fits_table, has_names, maybe_within, lacks_names, maybe_has_names, maybe_series_fits, or_nothing, or_null, repeats, series_fits, series_names, value_among}

and_left : (a b : Bool) → (a && b) ≡ true → a ≡ true
and_left true b e = refl
and_left false b e = e

-- one more name
pub chosen_more : (table : Columns) (names : List Text) (i : ℕ) (d : Text) → i < length names
    → columns_chosen table (take (i + 1) names) ≡ add_column (columns_chosen table (take i names)) (get_or names i d) (or_null (value_among table (get_or names i d)))
chosen_more table names i d lt = fold_more (λ columns name. add_column columns name (or_null (value_among table name))) [] names i d lt

-- the names of BY, and that of ON
pub names_parted : (table : Columns) (s : Series) → has_names table s ≡ (list_all (λ name. is_some (value_among table name)) s.by && is_some (value_among table s.on))
names_parted table s =
    list_all-append (λ name. is_some (value_among table name)) s.by (s.on ∷ [])
    ∙ ap (λ b. list_all (λ name. is_some (value_among table name)) s.by && b) (and_true (is_some (value_among table s.on)))
  where
    and_true : (b : Bool) → (b && true) ≡ b
    and_true true = refl
    and_true false = refl

-- what has no columns has none that a SERIES names, and none fits it
pub none_named : (s : Series) → has_names [] s ≡ false
none_named s = go s.by
  where
    go : (by : List Text) → list_all (λ name. is_some (value_among {V = Kind} [] name)) (by ++ s.on ∷ []) ≡ false
    go [] = refl
    go (name ∷ by) = refl

pub none_fits : (s : Series) → series_fits [] s ≡ false
none_fits s = ap (λ b. b && (not (repeats (series_names s)) && same_kind (or_null (value_among {V = Kind} [] s.on)) k.Period)) (none_named s)

-- the columns of a source, where its table is there and where it is not
pub within_some : (o : Option Series) (table : Columns) → maybe_within o (Some table) ≡ Some (columns_within table o)
within_some None table = refl
within_some (Some s) table = refl

pub within_none : (o : Option Series) → maybe_within o None ≡ None
within_none None = refl
within_none (Some s) = refl

-- a SERIES that fits has its names
pub named_where_fits : (tables : Tables) (s : Source) → fits_table tables s ≡ true → lacks_names tables s ≡ false
named_where_fits tables s h = go s.series h
  where
    go : (o : Option Series) → maybe_series_fits (or_nothing (columns_of tables s.table)) o ≡ true → not (maybe_has_names (or_nothing (columns_of tables s.table)) o) ≡ false
    go None e = refl
    go (Some x) e = ap not (and_left (has_names (or_nothing (columns_of tables s.table)) x) _ e)
