use Rattle.std.proofs.Common.{length}
use Rattle.vtl_pages.proofs.Puts.{IsPutFrom}
use Rattle.vtl_pages.proofs.block.Block.put_all.Given as goal

abbrev pub invariant-loop-value : goal.invariant-loop-value
invariant-loop-value g l = IsPutFrom l.fn.self l.self l.from l.fn.values.items l.values.items

abbrev pub decreases-loop-value : goal.decreases-loop-value
decreases-loop-value g l = length l.values.items
