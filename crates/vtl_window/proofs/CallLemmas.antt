-- The values over a column's cells are those of a call over a partition.
use Rattle.std.proofs.Common.{◌≡◌, ℕ, zero, suc, ◌+◌, ◌<◌, ◌≤◌, List, [], ◌∷◌, length, get_or, map, Option, Some, None, refl, sym, ap, ◌∙◌, arith}
use Rattle.std.specs.Borrow.{Bor}
use Rattle.std.specs.Prelude.{option_map}
use Rattle.std.specs.List.{AllByRecursion}
use Rattle.std.specs.Option.{option_map_or}
use Rattle.std.proofs.lemmas.List.{get_or-map, length-map}
use Rattle.vtl_cell.specs.Frames.{frame_of}
use Rattle.vtl_cell.specs.Outcome.{Outcome}
use Rattle.vtl_cell.specs.Row.{Row, column_of}
use Rattle.vtl_decimal.specs.Settings.{Settings}
use Rattle.vtl_cell.specs.declared.cell.Cell.{Cell}
use Rattle.vtl_cell.specs.declared.cell.Cell.TheVariants as c
use Rattle.vtl_text.specs.declared.shared_text.Txt.{Txt}
use Rattle.vtl_tree.specs.Columns.{place_of}
use Rattle.vtl_frames.specs.Framed as frames
use Rattle.vtl_frames.specs.Framed.{at_each}
use Rattle.vtl_rows.specs.Places.{row_at}
use Rattle.vtl_tree.specs.declared.structure.Component.{Component}
use Rattle.vtl_tree.specs.declared.calls.AnalyticCall.{AnalyticCall}
use Rattle.vtl_tree.specs.declared.calls.AnalyticOp.{AnalyticOp}
use Rattle.vtl_tree.specs.declared.calls.Bound.{Bound}
use Rattle.vtl_tree.specs.declared.calls.Bound.TheVariants as bound
use Rattle.vtl_tree.specs.declared.calls.Window.{Window}
use Rattle.vtl_meaning.specs.Windows.{argument, bound_of, frame_in, framed, op_value}
use Rattle.vtl_window.specs.Frames.{bound_in, taken_frame}
use Rattle.vtl_frames.specs.Lanes.{lane_cells}
use Rattle.vtl_frames.proofs.ListLemmas.{map_same}
use Rattle.vtl_window.specs.Runs.{run_values, stand_at, value_at}

-- ---- frames
bound_is : (b : Bound) → frames.bound_of (bound_in b) ≡ bound_of b
bound_is bound.UnboundedPreceding = refl
bound_is (bound.Preceding n) = refl
bound_is bound.Current = refl
bound_is (bound.Following n) = refl
bound_is bound.UnboundedFollowing = refl

pub frame_is : (w : Window) (i : ℕ) (xs : List Cell) → frames.framed (taken_frame (frame_in w)) i xs ≡ framed w i xs
frame_is w i xs =
    ap (λ b. frame_of b (frames.bound_of (bound_in (frame_in w).end)) i xs) (bound_is (frame_in w).start)
    ∙ ap (λ b. frame_of (bound_of (frame_in w).start) b i xs) (bound_is (frame_in w).end)

-- ---- calls over a column's cells
module _ (p : Settings) (xs : List Component) (call : AnalyticCall) (rows : List Row) (run : List ℕ) (column : ℕ)
    (at : (k : ℕ) → column_of column (row_at rows k) ≡ argument xs call.component (row_at rows k)) where
  abbrev arg : Row → Cell
  arg = argument xs call.component

  lane_from : (ks : List ℕ) → lane_cells rows ks column ≡ map arg (map (row_at rows) ks)
  lane_from [] = refl
  lane_from (k ∷ ks) = ap (λ v. v ∷ lane_cells rows ks column) (at k) ∙ ap (λ l. arg (row_at rows k) ∷ l) (lane_from ks)

  abbrev pub lent_cells : List Cell
  lent_cells = map arg (map (row_at rows) run)

  lane_many : length (lane_cells rows run column) ≡ length run
  lane_many = length-map run (λ k. column_of column (row_at rows k))

  -- what is made at each place of the cells is what is made at each stand
  pub values_of_lane : (f : ℕ → List Cell → Outcome Cell) (cells : List Cell) → cells ≡ lane_cells rows run column
      → ((i : ℕ) → i < length run → f i lent_cells ≡ value_at p xs call (stand_at rows run i)) → at_each (λ i. f i cells) cells ≡ run_values p xs call rows run
  values_of_lane f cells e same =
      map_same (λ i. f i cells) (λ i. value_at p xs call (stand_at rows run i)) (length cells) (length run) (ap length e ∙ lane_many)
      (λ i h. ap (f i) (e ∙ lane_from run) ∙ same i h)

  -- the cell at a place
  pub own_cell : (i : ℕ) → i < length run → column_of i lent_cells ≡ arg (row_at rows (get_or run i 0))
  own_cell i h =
      ap (column_of i) (sym (lane_from run)) ∙ get_or-map (λ k. column_of column (row_at rows k)) run i 0 c.Null h ∙ at (get_or run i 0)

  -- the same by the operator of the call
  pub op_values : (o : AnalyticOp) → call.op ≡ o → (f : ℕ → List Cell → Outcome Cell) → ((i : ℕ) → i < length run → f i lent_cells ≡ op_value p xs call.window arg o (stand_at rows run i))
      → (cells : List Cell) → cells ≡ lane_cells rows run column → at_each (λ i. f i cells) cells ≡ run_values p xs call rows run
  op_values o is f same cells e =
      values_of_lane f cells e (λ i h. same i h ∙ ap (λ x. op_value p xs call.window arg x (stand_at rows run i)) (sym is))

-- ---- the column of a call
past_end : (r : Row) (i : ℕ) → length r ≤ i → column_of i r ≡ c.Null
past_end [] i h = refl
past_end (x ∷ r) zero h = absurd (omega (arith, h))
past_end (x ∷ r) (suc i) h = past_end r i (omega (arith, h))

none_past : (n : ℕ) (rows : List Row) (k : ℕ) → AllByRecursion (λ r. length r ≡ n) rows → column_of n (row_at rows k) ≡ c.Null
none_past n [] k all = refl
none_past n (r ∷ rows) zero all = past_end r n (let e = all.0 in omega (arith, e))
none_past n (r ∷ rows) (suc k) all = none_past n rows k all.1

pub argument_at : (xs : List Component) (component : Option (Bor Txt)) (n : ℕ) (rows : List Row) → n ≡ length xs → AllByRecursion (λ r. length r ≡ length xs) rows → (k : ℕ)
    → column_of (option_map_or (λ name. place_of name.now xs) component n) (row_at rows k) ≡ argument xs (option_map (λ name. name.now) component) (row_at rows k)
argument_at xs None n rows e all k = ap (λ m. column_of m (row_at rows k)) e ∙ none_past (length xs) rows k all
argument_at xs (Some name) n rows e all k = refl
