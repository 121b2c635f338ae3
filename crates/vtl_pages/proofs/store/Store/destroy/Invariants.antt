use Rattle.std.proofs.Common.{◌≡◌, length}
use Rattle.vtl_pages.specs.Joined.{joined, HaveSizes}
use Rattle.vtl_pages.specs.Places.{IsFilledTo}
use Rattle.vtl_pages.specs.Stored.{block_size}
use Rattle.vtl_pages.proofs.store.Store.destroy.Given as goal

abbrev pub invariant-loop-block : goal.invariant-loop-block
invariant-loop-block g l = record {
  sized : HaveSizes (block_size l.first l.step) l.blocks.items;
  filled : IsFilledTo (joined l.blocks.items) l.left;
  room : l.room ≡ length (joined l.blocks.items);
}

abbrev pub decreases-loop-block : goal.decreases-loop-block
decreases-loop-block g l = length l.blocks.items
