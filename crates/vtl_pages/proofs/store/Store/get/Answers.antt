use Rattle.std.proofs.Common.{sym, ◌∙◌, arith}
use Rattle.vtl_pages.specs.Stored.{spot}
use Rattle.vtl_pages.proofs.Rows.{filled_below}
use Rattle.vtl_pages.proofs.Spots.{block_there, same_place}
use Rattle.vtl_pages.proofs.store.Store.get.Goals as goal

pub index-requires : goal.index-requires
index-requires g c =
    let s = c.self.inside in let t = c.args.self.now in let count = s.blocks.ok.0 in let x = c.requires.filled in
    omega (arith, block_there s.blocks.items s.first s.step c.self.invariant.2 t c.self.view_is c.args.block c.args.place (filled_below t.places (spot t.first t.step c.args.block c.args.place) x.0 x.1))

pub get-requires : goal.get-requires
get-requires g c =
    let s = c.self.inside in let t = c.args.self.now in let inv = c.self.invariant.2 in let x = c.requires.filled in
    let there = block_there s.blocks.items s.first s.step inv t c.self.view_is c.args.block c.args.place (filled_below t.places (spot t.first t.step c.args.block c.args.place) x.0 x.1) in
    (x.0, sym (same_place s.blocks.items s.first s.step inv t c.self.view_is c.args.block c.args.place c.index.result.now there c.requires.in_block c.index.ensures) ∙ x.1)

pub returns : goal.returns
returns g c =
    let s = c.self.inside in let t = c.args.self.now in let inv = c.self.invariant.2 in let x = c.requires.filled in
    let there = block_there s.blocks.items s.first s.step inv t c.self.view_is c.args.block c.args.place (filled_below t.places (spot t.first t.step c.args.block c.args.place) x.0 x.1) in
    same_place s.blocks.items s.first s.step inv t c.self.view_is c.args.block c.args.place c.index.result.now there c.requires.in_block c.index.ensures ∙ c.get.ensures
