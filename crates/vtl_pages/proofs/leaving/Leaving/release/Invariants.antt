use Rattle.std.proofs.Common.{◌≡◌, ℕ, length, replicate, reverse, None}
use Rattle.vtl_pages.specs.Joined.{joined, HaveSizes}
use Rattle.vtl_pages.specs.Stored.{block_size}
use Rattle.vtl_pages.proofs.leaving.Leaving.release.Given as goal

abbrev pub invariant-loop-block : goal.invariant-loop-block
invariant-loop-block g l = record {
  sized : HaveSizes (block_size l.count l.step) (reverse l.blocks.items);
  empty : (n : ℕ) × (joined (reverse l.blocks.items) ≡ replicate n None);
}

abbrev pub decreases-loop-block : goal.decreases-loop-block
decreases-loop-block g l = length l.blocks.items
