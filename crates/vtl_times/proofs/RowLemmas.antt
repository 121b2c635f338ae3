-- Rows of values that are made one after the other.
use Rattle.std.proofs.Common.{◌≡◌, ℕ, ◌+◌, ◌<◌, true, ◌&&◌, List, [], ◌∷◌, ◌++◌, length, map, take, get_or, Option, refl, sym, ap, ◌∙◌, arith}
use Rattle.std.specs.List.{AllByRecursion, range_with_len}
use Rattle.std.proofs.lemmas.List.{map_more, map-append}
use Rattle.std.proofs.lemmas.List.FromFn.{map-range_with_len_more}
use Rattle.vtl_cell.specs.declared.cell.Cell.{Cell}
use Rattle.vtl_cell.specs.Row.{Row}
use Rattle.vtl_cell.specs.Kinds.{is_of}
use Rattle.vtl_decimal.specs.declared.number.Fault.{Fault}
use Rattle.vtl_frames.proofs.ListLemmas.{listed, map_same}
use Rattle.vtl_rows.specs.Places.{row_at}
use Rattle.vtl_rows.specs.Tables.{fits, fits_kinds}
use Rattle.vtl_sets.specs.TableOf.{column_for}
use Rattle.vtl_sets.proofs.ColumnLemmas.{kinds_of_columns}
use Rattle.std.specs.Borrow.{Bor}
use Rattle.vtl_tree.specs.Shown.{shown}
use Rattle.vtl_tree.specs.declared.structure.Component.{Component}
use Rattle.vtl_meaning.specs.Aggregates.{Made, group_fault as point_fault}
use Rattle.vtl_meaning.specs.Analytics.{each_point as each_made, point_of}
use Rattle.vtl_times.specs.declared.column.Column.{Column}
use Rattle.vtl_cell.specs.Outcome.{Outcome, fault_in, faults_by, join, unless}
use Rattle.vtl_tree.proofs.Faults.{faults_by-append, join_none}
use Rattle.vtl_meaning.specs.Points.{cell_or_null}
use Rattle.vtl_times.specs.Columns.{cells_of, fault_of, rows_of}

faults_map : {X Y : Type 0} (f : Y → Option Fault) (g : X → Y) (xs : List X) → faults_by f (map g xs) ≡ faults_by (λ x. f (g x)) xs
faults_map f g [] = refl
faults_map f g (x ∷ xs) = ap (join (f (g x))) (faults_map f g xs)

-- ---- one more value of a row
module _ {X : Type 0} (f : X → Outcome Cell) (xs : List X) (k : ℕ) (x : X) (h : k < length xs) (at : x ≡ get_or xs k x) where
  one : map f (take (k + 1) xs) ≡ map f (take k xs) ++ f x ∷ []
  one = map_more f xs k x h ∙ ap (λ y. map f (take k xs) ++ f y ∷ []) (sym at)

  pub cells_more : cells_of (map f (take (k + 1) xs)) ≡ cells_of (map f (take k xs)) ++ cell_or_null (f x) ∷ []
  cells_more = ap cells_of one ∙ map-append cell_or_null (map f (take k xs)) (f x ∷ [])

  pub fault_more : fault_of (map f (take (k + 1) xs)) ≡ join (fault_of (map f (take k xs))) (fault_in (f x))
  fault_more = ap fault_of one ∙ faults_by-append fault_in (map f (take k xs)) (f x ∷ []) ∙ ap (join (fault_of (map f (take k xs)))) (join_none (fault_in (f x)))

-- ---- one more column
pub made_more : (f : Column → Outcome Cell) (g : Component → Outcome Cell) (old new : List Column) (x : Column) (ys : List (Bor Component)) (k : ℕ) (y : Bor Component)
    → new ≡ old ++ x ∷ [] → map f old ≡ map g (shown (take k ys)) → f x ≡ g y.now → k < length ys → y ≡ get_or ys k y → map f new ≡ map g (shown (take (k + 1) ys))
made_more f g old new x ys k y n before one h at =
    ap (map f) n ∙ map-append f old (x ∷ []) ∙ ap (λ l. l ++ f x ∷ []) before ∙ ap (λ v. map g (shown (take k ys)) ++ v ∷ []) (one ∙ ap (λ (z : Bor Component). g z.now) at)
    ∙ sym (map-append g (shown (take k ys)) ((get_or ys k y).now ∷ [])) ∙ ap (map g) (sym (map_more (λ (z : Bor Component). z.now) ys k y h))

-- ---- one more row
module _ (values : ℕ → List (Outcome Cell)) (k : ℕ) where
  pub rows_more : map (λ i. cells_of (values i)) (range_with_len 0 (k + 1)) ≡ map (λ i. cells_of (values i)) (range_with_len 0 k) ++ cells_of (values k) ∷ []
  rows_more = map-range_with_len_more (λ i. cells_of (values i)) 0 k k (omega arith)

  pub faults_more : faults_by (λ i. fault_of (values i)) (range_with_len 0 (k + 1)) ≡ join (faults_by (λ i. fault_of (values i)) (range_with_len 0 k)) (fault_of (values k))
  faults_more =
      let f : ℕ → Option Fault = λ i. fault_of (values i) in
      sym (faults_map (λ o. o) f (range_with_len 0 (k + 1))) ∙ ap (faults_by (λ o. o)) (map-range_with_len_more f 0 k k (omega arith))
      ∙ faults_by-append (λ o. o) (map f (range_with_len 0 k)) (f k ∷ []) ∙ ap (join (faults_by (λ o. o) (map f (range_with_len 0 k)))) (join_none (f k))
      ∙ ap (λ o. join o (f k)) (faults_map (λ o. o) f (range_with_len 0 k))

-- ---- rows by what makes their columns
module _ (made : Made) (ys : List Component) (points : List Row) (values : ℕ → List (Outcome Cell)) (same : (i : ℕ) → i < length points → values i ≡ map (λ y. made y (row_at points i)) ys) where
  cells_made : (r : Row) (zs : List Component) → cells_of (map (λ y. made y r) zs) ≡ point_of made zs r
  cells_made r [] = refl
  cells_made r (z ∷ zs) = ap (λ l. cell_or_null (made z r) ∷ l) (cells_made r zs)

  faults_made : (r : Row) → fault_of (map (λ y. made y r) ys) ≡ point_fault made ys r
  faults_made r = faults_map fault_in (λ y. made y r) ys

  pub row_is : (i : ℕ) → i < length points → cells_of (values i) ≡ point_of made ys (row_at points i)
  row_is i h = ap cells_of (same i h) ∙ cells_made (row_at points i) ys

  rows_are : map (λ i. cells_of (values i)) (range_with_len 0 (length points)) ≡ map (point_of made ys) points
  rows_are = map_same (λ i. cells_of (values i)) (λ i. point_of made ys (get_or points i [])) (length points) (length points) refl row_is ∙ listed (point_of made ys) points []

  all_faults : faults_by (λ i. fault_of (values i)) (range_with_len 0 (length points)) ≡ faults_by (point_fault made ys) points
  all_faults =
      let f : ℕ → Option Fault = λ i. fault_of (values i) in
      sym (faults_map (λ o. o) f (range_with_len 0 (length points)))
      ∙ ap (faults_by (λ o. o)) (map_same f (λ i. point_fault made ys (get_or points i [])) (length points) (length points) refl (λ i h. ap fault_of (same i h) ∙ faults_made (row_at points i)) ∙ listed (point_fault made ys) points [])
      ∙ faults_map (λ o. o) (point_fault made ys) points

  pub rows_made : rows_of values (length points) ≡ each_made made ys points
  rows_made = (λ i. unless (all_faults i) (rows_are i))

-- ---- rows that fit
kinds_fit : (f : Component → Cell) (ys : List Component) → AllByRecursion (λ y. is_of y.kind (f y) ≡ true) ys → fits_kinds (map (λ y. y.kind) ys) (map f ys) ≡ true
kinds_fit f [] all = refl
kinds_fit f (y ∷ ys) all = ap (λ b. b && fits_kinds (map (λ z. z.kind) ys) (map f ys)) all.0 ∙ kinds_fit f ys all.1

pub made_fits : (f : Component → Cell) (ys : List Component) → AllByRecursion (λ y. is_of y.kind (f y) ≡ true) ys → fits (map column_for ys) (map f ys) ≡ true
made_fits f ys all = ap (λ ks. fits_kinds ks (map f ys)) (kinds_of_columns ys) ∙ kinds_fit f ys all
