use Rattle.vtl_pages.proofs.Spots.{first_size, later_size}
use Rattle.vtl_pages.proofs.store.size_of_block.Goals as goal

pub returns-then-block-eq0 : goal.returns-then-block-eq0
returns-then-block-eq0 c = first_size c.args.first c.args.step c.args.block c.if-block-eq0.true

pub returns-else-block-eq0 : goal.returns-else-block-eq0
returns-else-block-eq0 c = later_size c.args.first c.args.step c.args.block c.if-block-eq0.false
