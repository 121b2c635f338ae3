use Rattle.std.proofs.Common.{◌<◌, length, sym, ◌∙◌, arith}
use Rattle.vtl_pages.specs.Stored.{spot}
use Rattle.vtl_pages.proofs.Spots.{block_there, block_long, same_run}
use Rattle.vtl_pages.proofs.store.Store.run.Goals as goal

pub index-requires : goal.index-requires
index-requires g c =
    let s = c.self.inside in let t = c.args.self.now in let count = s.blocks.ok.0 in let some = c.requires.some in let within = c.requires.filled.0 in
    let low : spot t.first t.step c.args.block c.args.from < length t.places = omega arith in
    omega (arith, block_there s.blocks.items s.first s.step c.self.invariant.2 t c.self.view_is c.args.block c.args.from low)

pub run-requires : goal.run-requires
run-requires g c =
    let s = c.self.inside in let t = c.args.self.now in let inv = c.self.invariant.2 in let some = c.requires.some in let fits = c.requires.in_block in let within = c.requires.filled.0 in
    let low : spot t.first t.step c.args.block c.args.from < length t.places = omega arith in
    let there = block_there s.blocks.items s.first s.step inv t c.self.view_is c.args.block c.args.from low in
    let xs = c.requires.filled.1 in (
      omega (arith, block_long s.blocks.items s.first s.step inv t c.self.view_is c.args.block c.index.result.now there c.index.ensures),
      (xs.0, sym (same_run s.blocks.items s.first s.step inv t c.self.view_is c.args.block c.args.from c.args.count c.index.result.now there fits c.index.ensures) ∙ xs.1),
    )

pub returns : goal.returns
returns g c =
    let s = c.self.inside in let t = c.args.self.now in let some = c.requires.some in let within = c.requires.filled.0 in
    let low : spot t.first t.step c.args.block c.args.from < length t.places = omega arith in
    let there = block_there s.blocks.items s.first s.step c.self.invariant.2 t c.self.view_is c.args.block c.args.from low in
    same_run s.blocks.items s.first s.step c.self.invariant.2 t c.self.view_is c.args.block c.args.from c.args.count c.index.result.now there c.requires.in_block c.index.ensures ∙ c.run.ensures
