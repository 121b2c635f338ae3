-- What is kept of the cells of a frame.
use Rattle.std.specs.Prelude.{◌≡◌, ◌<◌, ℕ, Bool, true, false, List, length, map}
use Rattle.std.specs.List.{All, AllByRecursion}
use Rattle.vtl_cell.specs.Groups.{values_of}
use Rattle.vtl_cell.specs.declared.cell.Cell.{Cell}
use Rattle.vtl_cell.specs.declared.operator.AggKind.{AggKind}
use Rattle.vtl_cell.specs.declared.operator.AggKind.TheVariants as kinds
use Rattle.vtl_frames.specs.Best.{best_places, le_of}
use Rattle.vtl_frames.specs.Totals.{IsSmall, totals_of}
use Rattle.vtl_frames.specs.declared.best.Best.{Best}
use Rattle.vtl_frames.specs.declared.kept.Kept.{Kept}
use Rattle.vtl_frames.specs.declared.kept.State.{State}
use Rattle.vtl_frames.specs.declared.kept.State.TheVariants as states
use Rattle.vtl_frames.specs.declared.totals.Totals.{Totals}

-- whether an aggregate is one of the least and the greatest
abbrev pub is_best : AggKind → Bool
is_best kinds.Min = true
is_best kinds.Max = true
is_best other = false

-- a median is taken of all cells of a frame, and not kept up
abbrev pub is_moved : AggKind → Bool
is_moved kinds.Median = false
is_moved other = true

-- the totals of the cells at these places
pub record HasTotals (at : ℕ → Cell) (ks : List ℕ) (t : Totals) : Type 0 where
  pub totals : t ≡ totals_of (values_of (map at ks))
  pub small : AllByRecursion (λ k. IsSmall (at k)) ks

-- the best of them
pub record HasBest (kind : AggKind) (at : ℕ → Cell) (ks : List ℕ) (b : Best) : Type 0 where
  pub kind_is : b.kind ≡ kind
  pub places : b.places.items ≡ best_places (le_of kind) at ks

abbrev pub IsKept : AggKind → (ℕ → Cell) → List ℕ → State → Type 0
IsKept kind at ks (states.Totals t) = (is_best kind ≡ false) × HasTotals at ks t
IsKept kind at ks (states.Best b) = (is_best kind ≡ true) × HasBest kind at ks b

-- it is kept of the cells at these places what an aggregate needs
pub record Keeps (at : ℕ → Cell) (ks : List ℕ) (k : Kept) : Type 0 where
  pub moved : is_moved k.kind ≡ true
  pub state : IsKept k.kind at ks k.state

-- these are places of cells
abbrev pub AreIn : List Cell → List ℕ → Type 0
AreIn cells ks = All (λ k. k < length cells) ks

-- these places lie behind one
abbrev pub AreAbove : ℕ → List ℕ → Type 0
AreAbove place ks = AllByRecursion (λ k. place < k) ks
