-- Frames as they are written.
use Rattle.std.proofs.Common.{◌≡◌, ℕ, List, length, Some, None, refl, ap, ◌∙◌, arith}
use Rattle.std.proofs.lemmas.List.{take_all}
use Rattle.vtl_cell.specs.Frames.{frame_of}
use Rattle.vtl_decimal.specs.Settings.{Settings}
use Rattle.vtl_cell.specs.declared.cell.Cell.{Cell}
use Rattle.vtl_frames.specs.Framed as places
use Rattle.vtl_frames.specs.declared.bounds.Bound.TheVariants as place
use Rattle.sql_tree.specs.declared.windows.Bound.{Bound}
use Rattle.sql_tree.specs.declared.windows.Bound.TheVariants as bound
use Rattle.sql_tree.specs.declared.windows.Frame.{Frame}
use Rattle.sql_tree.specs.declared.word_groups.Side.TheVariants as side
use Rattle.sql_meaning.specs.Windows.{bound_of, framed}
use Rattle.sql_window.specs.Frames.{bound_in}

bound_is : (p : Settings) (b : Bound) → places.bound_of (bound_in p b) ≡ bound_of p b
bound_is p (bound.Unbounded side.Preceding) = refl
bound_is p (bound.Unbounded side.Following) = refl
bound_is p (bound.Rows digits side.Preceding) = refl
bound_is p (bound.Rows digits side.Following) = refl
bound_is p bound.CurrentRow = refl

pub written_frame : (p : Settings) (f : Frame) (i : ℕ) (xs : List Cell) → places.framed (record { first = bound_in p f.first; last = bound_in p f.last }) i xs ≡ framed p (Some f) i xs
written_frame p f i xs = ap (λ b. frame_of b (places.bound_of (bound_in p f.last)) i xs) (bound_is p f.first) ∙ ap (λ b. frame_of (bound_of p f.first) b i xs) (bound_is p f.last)

pub whole_frame : (p : Settings) (i : ℕ) (xs : List Cell) → places.framed (record { first = place.UnboundedPreceding; last = place.UnboundedFollowing }) i xs ≡ framed p None i xs
whole_frame p i xs = take_all (length xs) xs (omega arith)
