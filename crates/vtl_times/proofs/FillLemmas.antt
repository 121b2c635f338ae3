-- Points that are gathered from the rows of series and from points.
use Rattle.std.proofs.Common.{◌≡◌, ℕ, zero, suc, ◌+◌, ◌<◌, ◌≤◌, List, [], ◌∷◌, ◌++◌, length, map, take, get_or, refl, sym, ap, ◌∙◌, arith}
use Rattle.std.specs.List.{filter, range_with_len}
use Rattle.std.proofs.lemmas.List.{get_or-map, get_or_append_left, length-append, map-append}
use Rattle.vtl_tree.specs.Columns.{identifiers_of, others_of, place_of, places_in}
use Rattle.vtl_tree.specs.Structure.{columns_of}
use Rattle.vtl_tree.specs.declared.structure.Component.{Component}
use Rattle.vtl_expr.proofs.ColumnPlaces.{chosen_columns}
use Rattle.vtl_cell.specs.declared.kind.Kind.TheVariants as k
use Rattle.vtl_meaning.proofs.Places.{columns_split}
use Rattle.vtl_rows.specs.Tables.{column_at}
use Rattle.vtl_rows.specs.declared.column.Column.{Column}
use Rattle.vtl_sets.specs.TableOf.{column_for, table_columns}
use Rattle.vtl_tree.specs.Structure.{IsStructure}
use Rattle.vtl_tree.specs.declared.structure.Structure.{Structure}
use Rattle.vtl_timing.specs.Times.{HasTime, is_time, other_identifiers, series_columns, time_place}
use Rattle.vtl_timing.proofs.SeriesColumns.{others_among, time_only}
use Rattle.vtl_times.specs.Filling.{beside_each, numbered}

-- ---- numbers beside those that stand there
more_from : (a : ℕ) (ns : List ℕ) (i : ℕ) → i < length ns → beside_each (range_with_len a (suc i)) (take (suc i) ns) ≡ beside_each (range_with_len a i) (take i ns) ++ (a + i) ∷ get_or ns i 0 ∷ []
more_from a [] i h = absurd (omega (arith, h))
more_from a (x ∷ ns) zero h = let e : a ≡ a + 0 = omega arith in ap (λ k. k ∷ x ∷ []) e
more_from a (x ∷ ns) (suc i) h =
    let e : a + 1 + i ≡ a + suc i = omega arith in
    ap (λ l. a ∷ x ∷ l) (more_from (a + 1) ns i (omega (arith, h))) ∙ ap (λ k. a ∷ x ∷ (beside_each (range_with_len (a + 1) i) (take i ns) ++ k ∷ get_or ns i 0 ∷ [])) e

pub numbered_more : (ns : List ℕ) (i : ℕ) → i < length ns → beside_each (range_with_len 0 (i + 1)) (take (i + 1) ns) ≡ beside_each (range_with_len 0 i) (take i ns) ++ i ∷ get_or ns i 0 ∷ []
numbered_more ns i h =
    let next : i + 1 ≡ suc i = omega arith in
    let e : 0 + i ≡ i = omega arith in
    ap (λ k. beside_each (range_with_len 0 k) (take k ns)) next ∙ more_from 0 ns i h ∙ ap (λ k. beside_each (range_with_len 0 i) (take i ns) ++ k ∷ get_or ns i 0 ∷ []) e

all_from : (a : ℕ) (ns : List ℕ) (i : ℕ) → length ns ≤ i → beside_each (range_with_len a i) (take i ns) ≡ beside_each (range_with_len a (length ns)) ns
all_from a [] zero h = refl
all_from a [] (suc i) h = refl
all_from a (x ∷ ns) zero h = absurd (omega (arith, h))
all_from a (x ∷ ns) (suc i) h = ap (λ l. a ∷ x ∷ l) (all_from (a + 1) ns i (omega (arith, h)))

pub numbered_all : (ns : List ℕ) (i : ℕ) → length ns ≤ i → beside_each (range_with_len 0 i) (take i ns) ≡ numbered ns
numbered_all ns i h = all_from 0 ns i h

-- ---- the columns of the rows of series
pub columns_are : (a : Structure) → IsStructure a → HasTime a → map (column_at (table_columns a)) (places_in (columns_of a) (other_identifiers a) ++ time_place a ∷ []) ≡ map column_for (series_columns a)
columns_are a well h =
    let xs = columns_of a in
    let ids = identifiers_of a in
    let one = time_only a h in
    let tp = time_place a in
    let wide : length xs ≡ length (ids ++ others_of a) = ap length (columns_split a) in
    let many = length-append ids (others_of a) in
    let within : tp < length xs = omega (arith, wide, many, one.within) in
    let none : Column = record { name = []; kind = k.Null } in
    let here : column_at (table_columns a) tp ≡ column_for one.item
    = get_or-map column_for xs tp one.item none within ∙ ap (λ (l : List Component). column_for (get_or l tp one.item)) (columns_split a) ∙ ap column_for (get_or_append_left ids (others_of a) one.item tp one.within ∙ one.at) in
    let last : column_at (table_columns a) tp ∷ [] ≡ map column_for (filter is_time ids) = ap (λ c. c ∷ []) here ∙ ap (map column_for) (sym one.only) in
    map-append (column_at (table_columns a)) (places_in xs (other_identifiers a)) (tp ∷ [])
    ∙ (λ i. chosen_columns xs (other_identifiers a) (others_among a well) i ++ last i)
    ∙ sym (map-append column_for (other_identifiers a) (filter is_time ids))

-- ---- places
pub places_append : (xs ys zs : List Component) → places_in xs (ys ++ zs) ≡ places_in xs ys ++ places_in xs zs
places_append xs ys zs = map-append (λ y. place_of y.name xs) ys zs
