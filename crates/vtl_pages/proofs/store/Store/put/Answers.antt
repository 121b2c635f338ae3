use Rattle.std.proofs.Common.{Some, sym, ◌∙◌, arith}
use Rattle.vtl_pages.proofs.Spots.{block_there, block_long, same_place, still_sized, place_set}
use Rattle.vtl_pages.proofs.store.Store.put.Goals as goal

pub index_mut-block-requires : goal.index_mut-block-requires
index_mut-block-requires g c =
    let s = c.self.inside in let count = s.blocks.ok.0 in
    omega (arith, block_there s.blocks.items s.first s.step c.self.invariant.2 c.args.self.now c.self.view_is c.args.block c.args.place c.requires.there)

pub put-requires-clause-there : goal.put-requires-clause-there
put-requires-clause-there g c =
    let s = c.self.inside in let inv = c.self.invariant.2 in let low = c.requires.in_block in
    let there = block_there s.blocks.items s.first s.step inv c.args.self.now c.self.view_is c.args.block c.args.place c.requires.there in
    omega (arith, block_long s.blocks.items s.first s.step inv c.args.self.now c.self.view_is c.args.block c.index_mut-block.result.now there c.index_mut-block.ensures.value)

pub put-requires-clause-empty : goal.put-requires-clause-empty
put-requires-clause-empty g c =
    let s = c.self.inside in let inv = c.self.invariant.2 in
    let there = block_there s.blocks.items s.first s.step inv c.args.self.now c.self.view_is c.args.block c.args.place c.requires.there in
    sym (same_place s.blocks.items s.first s.step inv c.args.self.now c.self.view_is c.args.block c.args.place c.index_mut-block.result.now there c.requires.in_block c.index_mut-block.ensures.value) ∙ c.requires.empty

pub invariant_of-self : goal.invariant_of-self
invariant_of-self g c =
    let s = c.self.inside in let inv = c.self.invariant in
    let there = block_there s.blocks.items s.first s.step inv.2 c.args.self.now c.self.view_is c.args.block c.args.place c.requires.there in
    (inv.0, inv.1, still_sized s.blocks.items s.first s.step inv.2 c.args.self.now c.self.view_is c.args.block c.args.place (Some c.args.value) c.index_mut-block.result.now c.put.new.self there c.index_mut-block.ensures.value c.put.ensures)

pub returns : goal.returns
returns g c =
    let s = c.self.inside in let inv = c.self.invariant.2 in
    let there = block_there s.blocks.items s.first s.step inv c.args.self.now c.self.view_is c.args.block c.args.place c.requires.there in
    place_set s.blocks.items s.first s.step inv c.args.self.now c.self.view_is c.args.block c.args.place (Some c.args.value) c.index_mut-block.result.now c.put.new.self there c.requires.in_block c.index_mut-block.ensures.value c.put.ensures
