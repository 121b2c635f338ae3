-- Points that are gathered from the rows of series and from points are those of a filled data set.
use Rattle.std.proofs.Common.{◌≡◌, ℕ, suc, ◌+◌, ◌<◌, List, [], ◌∷◌, ◌++◌, All, find, length, map, Option, refl, sym, ap, ◌∙◌, subst, arith, append_assoc}
use Rattle.std.specs.Prelude.{slice_get, unwrap_or}
use Rattle.std.specs.List.{AllByRecursion, position_or_len, range_with_len}
use Rattle.std.proofs.lemmas.List.{append-nil, map-append}
use Rattle.std.proofs.lemmas.List.Elements.{All-from_recursion}
use Rattle.std.proofs.lemmas.List.Folds.{find_at}
use Rattle.std.proofs.lemmas.Option.{unwrap_or-slice_get}
use Rattle.vtl_lists.proofs.Alls.{all_append, all_back}
use Rattle.vtl_cell.specs.Row.{Row, column_of, same_row}
use Rattle.vtl_index.specs.Seekers.{first_meant}
use Rattle.vtl_rows.specs.Gathered.{picked, picked_cell, picked_kind, pieces}
use Rattle.vtl_rows.specs.Places.{row_at}
use Rattle.vtl_rows.specs.Tables.{Listed, cells_at, column_at, column_kinds}
use Rattle.vtl_rows.specs.declared.column.Column.{Column}
use Rattle.vtl_rows.specs.declared.gather.Pick.{Pick}
use Rattle.vtl_rows.proofs.Gathered.{pieces-next, pieces-none}
use Rattle.vtl_sets.specs.TableOf.{column_for, table_columns}
use Rattle.vtl_tree.specs.Columns.{identifiers_of, measures_of, others_of, place_of, places_in}
use Rattle.vtl_tree.specs.Environment.{DataSet}
use Rattle.vtl_tree.specs.Structure.{IsStructure, columns_of, of_role}
use Rattle.vtl_tree.specs.declared.structure.Component.{Component}
use Rattle.vtl_tree.specs.declared.structure.Role.TheVariants as role
use Rattle.vtl_tree.specs.declared.structure.Structure.{Structure}
use Rattle.vtl_meaning.specs.Agreement.{values_in}
use Rattle.vtl_meaning.specs.Joined.{tuple_at, tuple_point, values_or_nulls}
use Rattle.vtl_meaning.specs.Made.{AreAmong, IsColumnAt}
use Rattle.vtl_meaning.proofs.OwnColumns.{own_columns}
use Rattle.vtl_meaning.proofs.Places.{columns_split}
use Rattle.vtl_meaning.proofs.LookUps.{named_cells}
use Rattle.vtl_expr.proofs.ColumnPlaces.{chosen_columns}
use Rattle.vtl_tuples.proofs.Lists.{map-map}
use Rattle.vtl_series.specs.Series.{series_rows}
use Rattle.vtl_series.specs.declared.extent.Extent.{Extent}
use Rattle.vtl_timing.specs.Times.{fill_of, in_order, other_identifiers, series_columns, time_place}
use Rattle.vtl_timing.proofs.FilledPoints.{behind_cells}
use Rattle.vtl_timing.proofs.SeriesColumns.{identifiers_among}
use Rattle.vtl_times.specs.Filling.{beside_each, filled_picks, numbered, picks_of, sought_in}

-- ---- cells of two parts
module _ (s t : Listed) where
  abbrev pub two : List Listed
  two = s ∷ t ∷ []

  picked_first : (places : List ℕ) (i n : ℕ) → map (picked_cell two (i ∷ n ∷ [])) (picks_of 0 places) ≡ cells_at places (row_at s.rows i)
  picked_first [] i n = refl
  picked_first (p ∷ ps) i n = ap (λ l. column_of p (row_at s.rows i) ∷ l) (picked_first ps i n)

  picked_second : (places : List ℕ) (i n : ℕ) → map (picked_cell two (i ∷ n ∷ [])) (picks_of 1 places) ≡ cells_at places (row_at t.rows n)
  picked_second [] i n = refl
  picked_second (p ∷ ps) i n = ap (λ l. column_of p (row_at t.rows n) ∷ l) (picked_second ps i n)

  pub picked_both : (ps qs : List ℕ) (i n : ℕ) → picked two (picks_of 0 ps ++ picks_of 1 qs) (i ∷ n ∷ []) ≡ cells_at ps (row_at s.rows i) ++ cells_at qs (row_at t.rows n)
  picked_both ps qs i n = map-append (picked_cell two (i ∷ n ∷ [])) (picks_of 0 ps) (picks_of 1 qs) ∙ (λ j. picked_first ps i n j ++ picked_second qs i n j)

  kinds_first : (places : List ℕ) → map (picked_kind two) (picks_of 0 places) ≡ column_kinds (map (column_at s.columns) places)
  kinds_first [] = refl
  kinds_first (p ∷ ps) = ap (λ l. (column_at s.columns p).kind ∷ l) (kinds_first ps)

  kinds_second : (places : List ℕ) → map (picked_kind two) (picks_of 1 places) ≡ column_kinds (map (column_at t.columns) places)
  kinds_second [] = refl
  kinds_second (p ∷ ps) = ap (λ l. (column_at t.columns p).kind ∷ l) (kinds_second ps)

  pub kinds_both : (ps qs : List ℕ) → map (picked_kind two) (picks_of 0 ps ++ picks_of 1 qs) ≡ column_kinds (map (column_at s.columns) ps) ++ column_kinds (map (column_at t.columns) qs)
  kinds_both ps qs = map-append (picked_kind two) (picks_of 0 ps) (picks_of 1 qs) ∙ (λ j. kinds_first ps j ++ kinds_second qs j)

-- they are of these parts
picks_within : (part : ℕ) → part < 2 → (places : List ℕ) → AllByRecursion (λ (p : Pick). p.part < 2) (picks_of part places)
picks_within part h [] = tt
picks_within part h (p ∷ ps) = (h, picks_within part h ps)

pub all_within : (a : Structure) → All (λ (p : Pick). p.part < 2) (filled_picks a)
all_within a =
    let ps = places_in (series_columns a) (identifiers_of a) in
    let qs = places_in (columns_of a) (others_of a) in
    All-from_recursion (λ (p : Pick). p.part < 2) (filled_picks a) (all_append (λ (p : Pick). p.part < 2) (picks_of 0 ps) (picks_of 1 qs) (picks_within 0 (omega arith) ps) (picks_within 1 (omega arith) qs))

-- ---- kinds
pub filled_kinds : (a : Structure) (s t : Listed) → IsStructure a → s.columns ≡ map column_for (series_columns a) → t.columns ≡ table_columns a → column_kinds (table_columns a) ≡ map (picked_kind (two s t)) (filled_picks a)
filled_kinds a s t well e f =
    let xs = columns_of a in
    let P : Component → Type 0 = λ y. IsColumnAt (place_of y.name xs) y.name y.kind xs in
    let behind : AreAmong (others_of a) xs = all_back P (identifiers_of a) (others_of a) (subst (AllByRecursion P) (columns_split a) (own_columns a well)) in
    let ps = places_in (series_columns a) (identifiers_of a) in
    let qs = places_in xs (others_of a) in
    let first = ap (λ (l : List Column). map (column_at l) ps) e ∙ chosen_columns (series_columns a) (identifiers_of a) (identifiers_among a well) in
    let second = ap (λ (l : List Column). map (column_at l) qs) f ∙ chosen_columns xs (others_of a) behind in
    ap (λ (l : List Component). column_kinds (map column_for l)) (columns_split a) ∙ ap column_kinds (map-append column_for (identifiers_of a) (others_of a))
    ∙ map-append (λ (x : Column). x.kind) (map column_for (identifiers_of a)) (map column_for (others_of a))
    ∙ (λ j. column_kinds (sym first j) ++ column_kinds (sym second j))
    ∙ sym (kinds_both s t ps qs)

-- ---- pairs of numbers
abbrev pairs_from : ℕ → List ℕ → List (List ℕ)
pairs_from i [] = []
pairs_from i (n ∷ ns) = (i ∷ n ∷ []) ∷ pairs_from (i + 1) ns

pieces_are : (i : ℕ) (ns : List ℕ) → pieces 2 (beside_each (range_with_len i (length ns)) ns) ≡ pairs_from i ns
pieces_are i [] = pieces-none 2 [] (omega arith)
pieces_are i (n ∷ ns) = pieces-next 2 (i ∷ n ∷ []) (beside_each (range_with_len (i + 1) (length ns)) ns) (omega arith) refl ∙ ap (λ l. (i ∷ n ∷ []) ∷ l) (pieces_are (i + 1) ns)

module _ (s t : Listed) (ps qs : List ℕ) (g : Row → ℕ) where
  abbrev made : Row → Row
  made r = cells_at ps r ++ cells_at qs (row_at t.rows (g r))

  rows_from : (i : ℕ) (rs : List Row) → ((k : ℕ) → k < length rs → row_at s.rows (i + k) ≡ row_at rs k) → map (picked (two s t) (picks_of 0 ps ++ picks_of 1 qs)) (pairs_from i (map g rs)) ≡ map made rs
  rows_from i [] same = refl
  rows_from i (r ∷ rs) same =
      let here : i ≡ i + 0 = omega arith in
      let one = picked_both s t ps qs i (g r) ∙ ap (λ x. cells_at ps x ++ cells_at qs (row_at t.rows (g r))) (ap (row_at s.rows) here ∙ same 0 (omega arith)) in
      let more = rows_from (i + 1) rs (λ k h. let next : i + 1 + k ≡ i + suc k = omega arith in ap (row_at s.rows) next ∙ same (suc k) (omega (arith, h))) in
      λ j. one j ∷ more j

  pub rows_picked : map (picked (two s t) (picks_of 0 ps ++ picks_of 1 qs)) (pieces 2 (numbered (map g s.rows))) ≡ map made s.rows
  rows_picked = ap (map (picked (two s t) (picks_of 0 ps ++ picks_of 1 qs))) (pieces_are 0 (map g s.rows)) ∙ rows_from 0 s.rows (λ k h. let e : 0 + k ≡ k = omega arith in ap (row_at s.rows) e)

-- ---- a row of a series and the point with its identifiers
pub tuple_is : (d : DataSet) (r : Row)
    → cells_at (places_in (series_columns d.structure) (identifiers_of d.structure)) r ++ cells_at (places_in (columns_of d.structure) (others_of d.structure)) (row_at d.points (first_meant (sought_in d) r))
    ≡ tuple_point (tuple_at (identifiers_of d.structure) (d ∷ []) (in_order d.structure r))
tuple_is d r =
    let a = d.structure in
    let ids = identifiers_of a in
    let key = in_order a r in
    let o : Option Row = find (λ q. same_row (values_in a ids q) key) d.points in
    let place = first_meant (sought_in d) r in
    let key_is : cells_at (places_in (series_columns a) ids) r ≡ key = named_cells (series_columns a) ids r in
    let found : slice_get d.points place ≡ o
    = (λ j. slice_get d.points (position_or_len (λ q. same_row (named_cells (columns_of a) ids q j) (key_is j)) d.points)) ∙ sym (find_at (λ q. same_row (values_in a ids q) key) d.points) in
    let row : row_at d.points place ≡ unwrap_or o [] = sym (unwrap_or-slice_get d.points place []) ∙ ap (λ x. unwrap_or x []) found in
    let ms = values_or_nulls a (measures_of a) o in
    let ts = values_or_nulls a (of_role role.Attribute a) o in
    let last : key ++ (ms ++ ts) ≡ tuple_point (tuple_at ids (d ∷ []) key) = sym (append_assoc key ms ts) ∙ (λ j. (key ++ sym (append-nil ms) j) ++ sym (append-nil ts) j) in
    (λ j. key_is j ++ cells_at (places_in (columns_of a) (others_of a)) (row j))
    ∙ ap (λ l. key ++ l) (behind_cells a o) ∙ last

-- ---- all of them
pub filled_rows : (e : Extent) (d : DataSet) (s t : Listed) → t.rows ≡ d.points
    → s.rows ≡ series_rows e (time_place d.structure) (places_in (columns_of d.structure) (other_identifiers d.structure)) d.points
    → map (picked (two s t) (filled_picks d.structure)) (pieces 2 (numbered (map (first_meant (sought_in d)) s.rows))) ≡ fill_of e d
filled_rows e d s t points rows =
    let a = d.structure in
    let ps = places_in (series_columns a) (identifiers_of a) in
    let qs = places_in (columns_of a) (others_of a) in
    let g = first_meant (sought_in d) in
    let f : Row → Row = λ key. tuple_point (tuple_at (identifiers_of a) (d ∷ []) key) in
    rows_picked s t ps qs g
    ∙ ap (λ (l : List Row). map (λ r. cells_at ps r ++ cells_at qs (row_at l (g r))) s.rows) points
    ∙ ap (λ (h : Row → Row). map h s.rows) (λ j r. tuple_is d r j)
    ∙ sym (map-map f (in_order a) s.rows)
    ∙ ap (λ l. map f (map (in_order a) l)) rows
