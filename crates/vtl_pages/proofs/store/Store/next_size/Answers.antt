use Rattle.std.proofs.Common.{sym, ap, ◌∙◌}
use Rattle.vtl_pages.specs.Stored.{block_size}
use Rattle.vtl_pages.proofs.Spots.{next_of}
use Rattle.vtl_pages.proofs.store.Store.next_size.Goals as goal

pub returns : goal.returns
returns g c =
    let s = c.self.inside in let inv = c.self.invariant in
    c.size_of_block.ensures ∙ ap (block_size s.first s.step) (c.len.ensures ∙ s.blocks.ok.0) ∙ sym (next_of s.blocks.items s.first s.step inv.0 inv.2 c.args.self.now c.self.view_is)
