use Rattle.std.proofs.Common.{◌<◌, length, arith}
use Rattle.vtl_pages.specs.Stored.{spot}
use Rattle.vtl_pages.proofs.Spots.{all_put, all_sized, block_long, block_there, free_in}
use Rattle.vtl_pages.proofs.store.Store.put_all.Goals as goal

pub index_mut-block-requires : goal.index_mut-block-requires
index_mut-block-requires g c =
    let s = c.self.inside in let t = c.args.self.now in let count = s.blocks.ok.0 in let some = c.requires.some in let within = c.requires.there in
    let low : spot t.first t.step c.args.block c.args.from < length t.places = omega arith in
    omega (arith, block_there s.blocks.items s.first s.step c.self.invariant.2 t c.self.view_is c.args.block c.args.from low)

pub put_all-requires-clause-there : goal.put_all-requires-clause-there
put_all-requires-clause-there g c =
    let s = c.self.inside in let t = c.args.self.now in let some = c.requires.some in let within = c.requires.there in let fits = c.requires.in_block in
    let low : spot t.first t.step c.args.block c.args.from < length t.places = omega arith in
    let there = block_there s.blocks.items s.first s.step c.self.invariant.2 t c.self.view_is c.args.block c.args.from low in
    omega (arith, block_long s.blocks.items s.first s.step c.self.invariant.2 t c.self.view_is c.args.block c.index_mut-block.result.now there c.index_mut-block.ensures.value)

pub put_all-requires-clause-free : goal.put_all-requires-clause-free
put_all-requires-clause-free g c =
    let s = c.self.inside in let t = c.args.self.now in let some = c.requires.some in let within = c.requires.there in
    let low : spot t.first t.step c.args.block c.args.from < length t.places = omega arith in
    let there = block_there s.blocks.items s.first s.step c.self.invariant.2 t c.self.view_is c.args.block c.args.from low in
    free_in s.blocks.items s.first s.step c.self.invariant.2 t c.self.view_is c.args.block c.args.from (length c.args.values.now.items) c.index_mut-block.result.now there c.requires.in_block c.index_mut-block.ensures.value c.requires.free

pub invariant_of-self : goal.invariant_of-self
invariant_of-self g c =
    let s = c.self.inside in let t = c.args.self.now in let inv = c.self.invariant in let some = c.requires.some in let within = c.requires.there in
    let low : spot t.first t.step c.args.block c.args.from < length t.places = omega arith in
    let there = block_there s.blocks.items s.first s.step inv.2 t c.self.view_is c.args.block c.args.from low in
    (inv.0, inv.1, all_sized s.blocks.items s.first s.step inv.2 t c.self.view_is c.args.block c.args.from c.args.values.now.items c.index_mut-block.result.now c.put_all.new.self there c.index_mut-block.ensures.value c.put_all.ensures.places)

pub returns-clause-places : goal.returns-clause-places
returns-clause-places g c =
    let s = c.self.inside in let t = c.args.self.now in let some = c.requires.some in let within = c.requires.there in
    let low : spot t.first t.step c.args.block c.args.from < length t.places = omega arith in
    let there = block_there s.blocks.items s.first s.step c.self.invariant.2 t c.self.view_is c.args.block c.args.from low in
    all_put s.blocks.items s.first s.step c.self.invariant.2 t c.self.view_is c.args.block c.args.from c.args.values.now.items c.index_mut-block.result.now c.put_all.new.self there c.requires.in_block c.index_mut-block.ensures.value c.put_all.ensures.places
