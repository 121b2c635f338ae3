-- The values over a column's cells are those of a call over a partition.
use Rattle.std.proofs.Common.{◌≡◌, ℕ, ◌<◌, List, [], ◌∷◌, length, get_or, map, Ok, refl, ap, ◌∙◌}
use Rattle.std.proofs.lemmas.List.{get_or-map, length-map}
use Rattle.vtl_cell.specs.Groups.{group_value}
use Rattle.vtl_cell.specs.Row.{Row, column_of}
use Rattle.vtl_cell.specs.declared.cell.Cell.{Cell}
use Rattle.vtl_cell.specs.declared.cell.Cell.TheVariants as c
use Rattle.vtl_cell.specs.declared.operator.AggKind.{AggKind}
use Rattle.vtl_frames.specs.Framed as frames
use Rattle.vtl_frames.specs.Framed.{at_each}
use Rattle.vtl_frames.specs.Picks as picks
use Rattle.vtl_frames.specs.declared.bounds.Frame.{Frame}
use Rattle.vtl_frames.specs.declared.picks.End.{End}
use Rattle.vtl_decimal.specs.Settings.{Settings}
use Rattle.sql_tree.specs.declared.windows.Frame.{Frame as SqlFrame}
use Rattle.sql_tree.specs.declared.word_groups.ValueFunction.{ValueFunction}
use Rattle.vtl_rows.specs.Places.{row_at}
use Rattle.sql_tree.specs.Trees.{Text}
use Rattle.sql_tree.specs.declared.parts.Column.{Column}
use Rattle.sql_tree.specs.declared.parts.Literal.{Literal}
use Rattle.std.specs.Prelude.{Option}
use Rattle.sql_tree.specs.declared.windows.Over.{Over}
use Rattle.sql_tree.specs.declared.windows.WindowCall.TheVariants as call
use Rattle.sql_tree.specs.declared.word_groups.ShiftFunction.{ShiftFunction}
use Rattle.sql_tree.specs.declared.word_groups.ShiftFunction.TheVariants as shift
use Rattle.sql_meaning.specs.Values.{View, cell_at}
use Rattle.sql_meaning.specs.Windows.{cells_of, count_of, default_cell, framed, shifted, value_in}
use Rattle.vtl_frames.specs.Lanes.{lane_cells}
use Rattle.vtl_frames.proofs.ListLemmas.{map_same}
use Rattle.sql_window.specs.Runs.{run_values, shift_in}

-- ---- a column's cells
lane_is : (v : View) (x : Column) (rows : List Row) (run : List ℕ) → lane_cells rows run (v.place x) ≡ cells_of v x (map (row_at rows) run)
lane_is v x rows [] = refl
lane_is v x rows (k ∷ run) = ap (λ l. column_of (v.place x) (row_at rows k) ∷ l) (lane_is v x rows run)

lane_many : (rows : List Row) (run : List ℕ) (column : ℕ) → length (lane_cells rows run column) ≡ length run
lane_many rows run column = length-map run (λ k. column_of column (row_at rows k))

lane_at : (rows : List Row) (run : List ℕ) (column i : ℕ) → i < length run → column_of i (lane_cells rows run column) ≡ column_of column (row_at rows (get_or run i 0))
lane_at rows run column i h = get_or-map (λ k. column_of column (row_at rows k)) run i 0 c.Null h

-- ---- calls
module _ (v : View) (x : Column) (o : Over) (rows : List Row) (run : List ℕ) (cells : List Cell) (lane : cells ≡ lane_cells rows run (v.place x)) where
  many : length cells ≡ length run
  many = ap length lane ∙ lane_many rows run (v.place x)

  seen : cells ≡ cells_of v x (map (row_at rows) run)
  seen = lane ∙ lane_is v x rows run

  pub aggregate_values : (f : AggKind) (frame : Frame) → ((i : ℕ) (xs : List Cell) → frames.framed frame i xs ≡ framed v.base.settings o.frame i xs) → at_each (λ i. group_value v.base.settings f (frames.framed frame i cells)) cells ≡ run_values v (call.Aggregate f x) o rows run
  aggregate_values f frame same =
      map_same (λ i. group_value v.base.settings f (frames.framed frame i cells)) (λ i. group_value v.base.settings f (framed v.base.settings o.frame i (cells_of v x (map (row_at rows) run)))) (length cells) (length run) many
      (λ i h. ap (group_value v.base.settings f) (same i cells ∙ ap (framed v.base.settings o.frame i) seen))

  pub value_values : (f : ValueFunction) → at_each (λ i. value_in v.base.settings o.frame f (column_of i cells) i cells) cells ≡ run_values v (call.Value f x) o rows run
  value_values f =
      map_same (λ i. value_in v.base.settings o.frame f (column_of i cells) i cells) (λ i. value_in v.base.settings o.frame f (cell_at v (row_at rows (get_or run i 0)) x) i (cells_of v x (map (row_at rows) run))) (length cells) (length run) many
      (λ i h. ap (λ y. value_in v.base.settings o.frame f y i cells) (ap (column_of i) lane ∙ lane_at rows run (v.place x) i h)
      ∙ ap (value_in v.base.settings o.frame f (cell_at v (row_at rows (get_or run i 0)) x) i) seen)

  pub shift_values : (f : ShiftFunction) (digits : Text) (default : Option Literal) → at_each (λ i. Ok (shifted f (count_of v.base.settings digits) (default_cell v.base.settings default) i cells)) cells ≡ run_values v (call.Shift f x digits default) o rows run
  shift_values f digits default =
      map_same (λ i. Ok (shifted f (count_of v.base.settings digits) (default_cell v.base.settings default) i cells)) (λ i. Ok (shifted f (count_of v.base.settings digits) (default_cell v.base.settings default) i (cells_of v x (map (row_at rows) run)))) (length cells) (length run) many
      (λ i h. ap (λ l. Ok (shifted f (count_of v.base.settings digits) (default_cell v.base.settings default) i l)) seen)

pub shifts_alike : (f : ShiftFunction) → picks.shifted (shift_in f) ≡ shifted f
shifts_alike shift.Lag = refl
shifts_alike shift.Lead = refl

-- ---- ends of frames
pub end_values : (p : Settings) (f : Option SqlFrame) (end : End) (frame : Frame) (cells : List Cell) → ((i : ℕ) (xs : List Cell) → frames.framed frame i xs ≡ framed p f i xs)
    → at_each (λ i. Ok (picks.end_cell end (frames.framed frame i cells))) cells ≡ at_each (λ i. Ok (picks.end_cell end (framed p f i cells))) cells
end_values p f end frame cells same =
    map_same (λ i. Ok (picks.end_cell end (frames.framed frame i cells))) (λ i. Ok (picks.end_cell end (framed p f i cells))) (length cells) (length cells) refl (λ i h. ap (λ l. Ok (picks.end_cell end l)) (same i cells))
