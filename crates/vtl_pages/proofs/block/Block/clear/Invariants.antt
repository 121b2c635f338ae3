use Rattle.std.proofs.Common.{◌≡◌, ℕ, ◌<◌, ◌≤◌, length, get_or, None}
use Rattle.vtl_pages.proofs.block.Block.clear.Given as goal

-- the places in front are empty, and the others are as they were
abbrev pub invariant-loop-place : goal.invariant-loop-place
invariant-loop-place g l = record {
  long : length l.self ≡ length l.fn.self;
  emptied : (i : ℕ) → i < l.place → get_or l.self i None ≡ None;
  left : (i : ℕ) → l.place ≤ i → get_or l.self i None ≡ get_or l.fn.self i None;
}
