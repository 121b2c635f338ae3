use Rattle.vtl_pages.proofs.store.Store.run_at.Goals as goal

pub run-requires-clause-in_block : goal.run-requires-clause-in_block
run-requires-clause-in_block g c = c.requires.one_block c.find-block.result.0 c.find-block.result.1 c.find-block.ensures.spot c.find-block.ensures.in_block
