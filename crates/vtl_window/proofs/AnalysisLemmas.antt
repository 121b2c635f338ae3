-- Columns of the result, cell by cell.
use Rattle.std.proofs.Common.{◌≡◌, ℕ, zero, suc, ◌+◌, ◌<◌, ◌≤◌, List, [], ◌∷◌, ◌++◌, length, map, take, drop, set, get_or, Option, Some, None, Ok, Result, refl, sym, ap, ◌∙◌, subst, arith, append_assoc}
use Rattle.std.specs.Borrow.{Bor}
use Rattle.std.specs.Prelude.{IfOk}
use Rattle.std.specs.List.{range_with_len}
use Rattle.std.specs.Option.{option_map_or}
use Rattle.std.proofs.lemmas.List.{append-nil, drop-set-lt, drop_all, drop_more, map-append, map_more, take_all, take_more_set}
use Rattle.vtl_decimal.specs.declared.number.Fault.{Fault}
use Rattle.vtl_cell.specs.Outcome.{Outcome, fault_in, faults_by, join}
use Rattle.vtl_cell.specs.Row.{Row, column_of}
use Rattle.vtl_decimal.specs.Settings.{Settings}
use Rattle.vtl_cell.specs.declared.cell.Cell.{Cell}
use Rattle.vtl_tree.specs.Environment.{DataSet}
use Rattle.vtl_tree.specs.Shown.{shown}
use Rattle.vtl_tree.specs.Structure.{columns_of}
use Rattle.vtl_tree.specs.declared.structure.Component.{Component}
use Rattle.vtl_tree.proofs.Faults.{faults_by-append, join_assoc, join_none, join_swap}
use Rattle.vtl_meaning.specs.Aggregates.{Made}
use Rattle.vtl_meaning.specs.Points.{cell_or_null}
use Rattle.vtl_meaning.specs.Analytics.{made_of, point_of, tree_value, value_for}
use Rattle.vtl_tree.specs.Columns.{place_of}
use Rattle.vtl_tree.specs.Trees.{AnalyticTree, ValueTree}
use Rattle.vtl_expr.proofs.ValueWalks.{cells_more, seen_more}
use Rattle.vtl_window.specs.Analyses.{cells_by, cells_in, faults_of, made_cells, made_faults}
use Rattle.vtl_frames.proofs.ListLemmas.{listed}
use Rattle.vtl_window.specs.declared.column.Column.{Column}

-- ---- one more value
module _ {X : Type 0} (f : X → Outcome Cell) (xs : List X) (i : ℕ) (x : X) (h : i < length xs) (at : x ≡ get_or xs i x) where
  pub cells_next : (now then : List Cell) → now ≡ cells_by f (take i xs) → then ≡ now ++ cell_or_null (f x) ∷ [] → then ≡ cells_by f (take (i + 1) xs)
  cells_next now then n a = cells_more f xs i x h [] now then n (a ∙ ap (λ y. now ++ cell_or_null (f y) ∷ []) at)

  pub faults_next : (before now then : Option Fault) → now ≡ join before (faults_of f (take i xs)) → then ≡ join now (fault_in (f x)) → then ≡ join before (faults_of f (take (i + 1) xs))
  faults_next before now then n a = seen_more f xs i x h before now then n (a ∙ ap (λ y. join now (fault_in (f y))) at)

-- ---- the same values
faults_map : {X Y : Type 0} (g : Y → Outcome Cell) (f : X → Y) (xs : List X) → faults_of g (map f xs) ≡ faults_of (λ x. g (f x)) xs
faults_map g f [] = refl
faults_map g f (x ∷ xs) = ap (join (fault_in (g (f x)))) (faults_map g f xs)

-- listed by places
pub faults_listed : (f : Row → Outcome Cell) (points : List Row) → faults_of (λ k. f (get_or points k [])) (range_with_len 0 (length points)) ≡ faults_of f points
faults_listed f points =
    sym (faults_map f (λ k. get_or points k []) (range_with_len 0 (length points))) ∙ ap (faults_of f) (listed (λ r. r) points []) ∙ faults_map f (λ r. r) points

-- in an answer
pub ok_same : {A E X : Type 0} (r : Result A E) (at : A → X) (x y : X) → x ≡ y → IfOk r (λ a. at a ≡ x) → IfOk r (λ a. at a ≡ y)
ok_same r at x y e h = subst (λ z. IfOk r (λ a. at a ≡ z)) e h

-- ---- what makes a column
module _ (p : Settings) (spec : AnalyticTree) (d : DataSet) (y : Component) where
  abbrev pub made_by : Option ValueTree → Row → Outcome Cell
  made_by o r = option_map_or (λ v. tree_value p d y.kind v r) o (Ok (column_of (place_of y.name (columns_of d.structure)) r))

  pub made_as : (v : ValueTree) → value_for spec y ≡ Some v → tree_value p d y.kind v ≡ made_of p spec d y
  made_as v e = ap made_by (sym e)

  pub kept_as : value_for spec y ≡ None → made_by None ≡ made_of p spec d y
  kept_as e = ap made_by (sym e)

-- ---- columns
no_faults : {X : Type 0} (xs : List X) → faults_by (λ x. None) xs ≡ None
no_faults [] = refl
no_faults (x ∷ xs) = no_faults xs

-- one that stays has no fault
pub stays : (place : ℕ) (before : Option Fault) (points : List Row) → before ≡ join before (faults_of (λ r. Ok (column_of place r)) points)
stays place before points = sym (join_none before) ∙ ap (join before) (sym (no_faults points))

pub shown_next : {X : Type 0} (ws : List (Bor X)) (i : ℕ) (w : Bor X) → i < length ws → w ≡ get_or ws i w → shown (take (i + 1) ws) ≡ shown (take i ws) ++ w.now ∷ []
shown_next ws i w h e = map_more (λ r. r.now) ws i w h ∙ ap (λ v. shown (take i ws) ++ v.now ∷ []) (sym e)

-- ---- a point, column by column
-- The columns from this one on are as they were; the cells before it are those of the point, and were taken from their columns.
pub record IsAcross (made : Made) (ys : List Component) (q : Row) (points : List Row) (i : ℕ) (columns : List Column) (row before : List Cell) : Type 0 where
  pub left : map (cells_in (q ∷ points)) (drop i columns) ≡ made_cells made (drop i ys) (q ∷ points)
  pub put : row ++ point_of made (drop i ys) q ≡ before ++ point_of made ys q
  pub taken : map (cells_in points) (take i columns) ++ made_cells made (drop i ys) points ≡ made_cells made ys points

one_less : {X : Type 0} (xs : List X) (i : ℕ) (x : X) (rest : List X) → drop i xs ≡ x ∷ rest → drop (suc i) xs ≡ rest
one_less [] zero x rest e = cc
one_less [] (suc i) x rest e = cc
one_less (y ∷ xs) zero x rest e = cc
one_less (y ∷ xs) (suc i) x rest e = one_less xs i x rest e

module _ (made : Made) (ys : List Component) (q : Row) (points : List Row) where
  pub across_next : (i : ℕ) (columns : List Column) (column then : Column) (cell : Cell) (row before : List Cell) → i < length columns → column ≡ get_or columns i column
      → ((first : Cell) (others : List Cell) → cells_in (q ∷ points) column ≡ first ∷ others → (cell ≡ first) × (cells_in points then ≡ others))
      → IsAcross made ys q points i columns row before → IsAcross made ys q points (i + 1) (set columns i then) (row ++ cell ∷ []) before
  across_next i columns column then cell row before h at taken was = go (drop i ys) refl
    where
      rest : List Column
      rest = drop (i + 1) columns

      left : (zs : List Component) → drop i ys ≡ zs → cells_in (q ∷ points) column ∷ map (cells_in (q ∷ points)) rest ≡ made_cells made zs (q ∷ points)
      left zs e =
          ap (λ c. cells_in (q ∷ points) c ∷ map (cells_in (q ∷ points)) rest) at
          ∙ ap (map (cells_in (q ∷ points))) (sym (drop_more columns i column h)) ∙ was.left ∙ ap (λ l. made_cells made l (q ∷ points)) e

      go : (zs : List Component) → drop i ys ≡ zs → IsAcross made ys q points (i + 1) (set columns i then) (row ++ cell ∷ []) before
      go [] e = let l = left [] e in cc
      go (y ∷ zs) e =
          let l = left (y ∷ zs) e in
          let here : cells_in (q ∷ points) column ≡ cell_or_null (made y q) ∷ cells_by (made y) points = cc in
          let others : map (cells_in (q ∷ points)) rest ≡ made_cells made zs (q ∷ points) = cc in
          let both = taken (cell_or_null (made y q)) (cells_by (made y) points) here in
          let next : i + 1 ≡ suc i = omega arith in
          let less = ap (λ n. drop n ys) next ∙ one_less ys i y zs e in
          record {
            left = ap (map (cells_in (q ∷ points))) (drop-set-lt (i + 1) columns i then (omega arith)) ∙ others ∙ ap (λ l. made_cells made l (q ∷ points)) (sym less);
            put =
                append_assoc row (cell ∷ []) (point_of made (drop (i + 1) ys) q)
                ∙ ap (λ c. row ++ c ∷ point_of made (drop (i + 1) ys) q) both.0
                ∙ ap (λ l. row ++ cell_or_null (made y q) ∷ point_of made l q) less
                ∙ ap (λ l. row ++ point_of made l q) (sym e) ∙ was.put;
            taken =
                ap (λ l. map (cells_in points) l ++ made_cells made (drop (i + 1) ys) points) (take_more_set columns i then h)
                ∙ ap (λ l. l ++ made_cells made (drop (i + 1) ys) points) (map-append (cells_in points) (take i columns) (then ∷ []))
                ∙ append_assoc (map (cells_in points) (take i columns)) (cells_in points then ∷ []) (made_cells made (drop (i + 1) ys) points)
                ∙ ap (λ c. map (cells_in points) (take i columns) ++ c ∷ made_cells made (drop (i + 1) ys) points) both.1
                ∙ ap (λ l. map (cells_in points) (take i columns) ++ cells_by (made y) points ∷ made_cells made l points) less
                ∙ ap (λ l. map (cells_in points) (take i columns) ++ made_cells made l points) (sym e) ∙ was.taken;
          }

  -- behind the last column
  pub across_ends : (i : ℕ) (columns : List Column) (row before : List Cell) → length columns ≤ i → IsAcross made ys q points i columns row before
      → (row ≡ before ++ point_of made ys q) × (map (cells_in points) columns ≡ made_cells made ys points)
  across_ends i columns row before h was = go (drop i ys) refl
    where
      go : (zs : List Component) → drop i ys ≡ zs → (row ≡ before ++ point_of made ys q) × (map (cells_in points) columns ≡ made_cells made ys points)
      go [] e = (
        sym (append-nil row) ∙ ap (λ l. row ++ point_of made l q) (sym e) ∙ was.put,
        ap (map (cells_in points)) (sym (take_all i columns h)) ∙ sym (append-nil (map (cells_in points) (take i columns)))
            ∙ ap (λ l. map (cells_in points) (take i columns) ++ made_cells made l points) (sym e) ∙ was.taken,
      )
      go (y ∷ zs) e =
          let none = ap (map (cells_in (q ∷ points))) (sym (drop_all i columns h)) ∙ was.left ∙ ap (λ l. made_cells made l (q ∷ points)) e in
          cc

-- ---- faults, column by column or point by point
pair_up : (a b f g : Option Fault) → join (join a b) (join f g) ≡ join (join a f) (join b g)
pair_up a b f g = join_assoc a b (join f g) ∙ ap (join a) (join_swap b f g) ∙ sym (join_assoc a f (join b g))

-- the faults of one column before those of others
one_before : (f g : Row → Option Fault) (points : List Row) → join (faults_by f points) (faults_by g points) ≡ faults_by (λ r. join (f r) (g r)) points
one_before f g [] = refl
one_before f g (r ∷ points) = pair_up (f r) (faults_by f points) (g r) (faults_by g points) ∙ ap (join (join (f r) (g r))) (one_before f g points)

pub faults_turned : (made : Made) (ys : List Component) (points : List Row) → made_faults made ys points ≡ faults_by (λ r. faults_by (λ y. fault_in (made y r)) ys) points
faults_turned made [] points = sym (no_faults points)
faults_turned made (y ∷ ys) points =
    ap (join (faults_of (made y) points)) (faults_turned made ys points)
    ∙ one_before (λ r. fault_in (made y r)) (λ r. faults_by (λ x. fault_in (made x r)) ys) points

-- ---- one more column
pub cells_more_columns : (made : Made) (points : List Row) (ys : List Component) (y : Component) (now : List (List Cell)) (cells : List Cell) → now ≡ made_cells made ys points → cells ≡ cells_by (made y) points → now ++ cells ∷ [] ≡ made_cells made (ys ++ y ∷ []) points
cells_more_columns made points ys y now cells n e =
    ap (λ l. l ++ cells ∷ []) n ∙ ap (λ x. made_cells made ys points ++ x ∷ []) e ∙ sym (map-append (λ x. cells_by (made x) points) ys (y ∷ []))

pub faults_more_columns : (made : Made) (points : List Row) (ys : List Component) (y : Component) → join (made_faults made ys points) (faults_of (made y) points) ≡ made_faults made (ys ++ y ∷ []) points
faults_more_columns made points ys y =
    let f : Component → Option Fault = λ x. faults_of (made x) points in
    ap (join (made_faults made ys points)) (sym (join_none (f y))) ∙ sym (faults_by-append f ys (y ∷ []))
