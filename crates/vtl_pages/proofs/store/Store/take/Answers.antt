use Rattle.std.proofs.Common.{None, sym, ◌∙◌, arith}
use Rattle.vtl_pages.specs.Stored.{spot}
use Rattle.vtl_pages.proofs.Rows.{filled_below}
use Rattle.vtl_pages.proofs.Spots.{block_there, same_place, still_sized, place_set}
use Rattle.vtl_pages.proofs.store.Store.take.Goals as goal

pub index_mut-block-requires : goal.index_mut-block-requires
index_mut-block-requires g c =
    let s = c.self.inside in let t = c.args.self.now in let count = s.blocks.ok.0 in let x = c.requires.filled in
    omega (arith, block_there s.blocks.items s.first s.step c.self.invariant.2 t c.self.view_is c.args.block c.args.place (filled_below t.places (spot t.first t.step c.args.block c.args.place) x.0 x.1))

pub take-requires : goal.take-requires
take-requires g c =
    let s = c.self.inside in let t = c.args.self.now in let inv = c.self.invariant.2 in let x = c.requires.filled in
    let there = block_there s.blocks.items s.first s.step inv t c.self.view_is c.args.block c.args.place (filled_below t.places (spot t.first t.step c.args.block c.args.place) x.0 x.1) in
    (x.0, sym (same_place s.blocks.items s.first s.step inv t c.self.view_is c.args.block c.args.place c.index_mut-block.result.now there c.requires.in_block c.index_mut-block.ensures.value) ∙ x.1)

pub invariant_of-self : goal.invariant_of-self
invariant_of-self g c =
    let s = c.self.inside in let t = c.args.self.now in let inv = c.self.invariant in let x = c.requires.filled in
    let there = block_there s.blocks.items s.first s.step inv.2 t c.self.view_is c.args.block c.args.place (filled_below t.places (spot t.first t.step c.args.block c.args.place) x.0 x.1) in
    (inv.0, inv.1, still_sized s.blocks.items s.first s.step inv.2 t c.self.view_is c.args.block c.args.place None c.index_mut-block.result.now c.take.new.self there c.index_mut-block.ensures.value c.take.ensures.places)

pub returns-clause-value : goal.returns-clause-value
returns-clause-value g c =
    let s = c.self.inside in let t = c.args.self.now in let inv = c.self.invariant.2 in let x = c.requires.filled in
    let there = block_there s.blocks.items s.first s.step inv t c.self.view_is c.args.block c.args.place (filled_below t.places (spot t.first t.step c.args.block c.args.place) x.0 x.1) in
    same_place s.blocks.items s.first s.step inv t c.self.view_is c.args.block c.args.place c.index_mut-block.result.now there c.requires.in_block c.index_mut-block.ensures.value ∙ c.take.ensures.value

pub returns-clause-places : goal.returns-clause-places
returns-clause-places g c =
    let s = c.self.inside in let t = c.args.self.now in let inv = c.self.invariant.2 in let x = c.requires.filled in
    let there = block_there s.blocks.items s.first s.step inv t c.self.view_is c.args.block c.args.place (filled_below t.places (spot t.first t.step c.args.block c.args.place) x.0 x.1) in
    place_set s.blocks.items s.first s.step inv t c.self.view_is c.args.block c.args.place None c.index_mut-block.result.now c.take.new.self there c.requires.in_block c.index_mut-block.ensures.value c.take.ensures.places
