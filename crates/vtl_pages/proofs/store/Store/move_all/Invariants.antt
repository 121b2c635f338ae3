use Rattle.std.proofs.Common.{◌≡◌, ℕ, ◌+◌, ◌<◌, ◌≤◌, None, get_or, length, take}
use Rattle.vtl_pages.specs.Places.{values}
use Rattle.vtl_pages.specs.Stored.{block_size, spot}
use Rattle.vtl_pages.proofs.Puts.{IsPutFrom}
use Rattle.vtl_pages.proofs.store.Store.move_all.Given as goal

-- the last values are put where they belong, and their places are empty
abbrev pub invariant-loop-left : goal.invariant-loop-left
invariant-loop-left g l = record {
  put : IsPutFrom l.fn.self.places l.self.places l.at (values l.fn.other.places) (take l.left (values l.fn.other.places));
  first : l.self.first ≡ l.fn.self.first;
  step : l.self.step ≡ l.fn.self.step;
  within : l.left ≤ l.n;
  to : spot l.self.first l.self.step l.to.0 l.to.1 ≡ l.at + l.left;
  to_in : l.to.1 ≤ block_size l.self.first l.self.step l.to.0;
  from : spot l.other.first l.other.step l.from.0 l.from.1 ≡ l.left;
  from_in : l.from.1 ≤ block_size l.other.first l.other.step l.from.0;
  other_first : l.other.first ≡ l.fn.other.first;
  other_step : l.other.step ≡ l.fn.other.step;
  long : length l.other.places ≡ length l.fn.other.places;
  kept : (i : ℕ) → i < l.left → get_or l.other.places i None ≡ get_or l.fn.other.places i None;
  emptied : (i : ℕ) → l.left ≤ i → get_or l.other.places i None ≡ None;
}

abbrev pub decreases-loop-left : goal.decreases-loop-left
decreases-loop-left g l = l.left
