use Rattle.std.proofs.Common.{◌≡◌, ◌-◌, None, length, min, replicate, sym, ap, ◌∙◌, arith}
use Rattle.vtl_pages.specs.Stored.{block_size}
use Rattle.vtl_pages.proofs.Emptied.{front_sized, front_room, front_filled, last_size, last_fits, last_filled}
use Rattle.vtl_pages.proofs.store.Store.destroy.Goals as goal

pub overflow_sub-room : goal.overflow_sub-room
overflow_sub-room g c =
    let l = c.loop-block in let bs = c.pop.new.self.items in let s = c.self.inside in
    let count = c.pop.new.self.ok.0 in let size = c.size_of_block-size.ensures ∙ ap (block_size s.first s.step) (c.len.ensures ∙ count) in
    omega (arith, last_fits l.blocks.items bs c.in-Some.block (block_size s.first s.step) l.room c.in-Some.ensures.items l.invariant.sized l.invariant.room)

pub clear-requires : goal.clear-requires
clear-requires g c =
    let l = c.loop-block in let bs = c.pop.new.self.items in let s = c.self.inside in let sizes = block_size s.first s.step in
    let size : c.size_of_block-size.result ≡ sizes (length bs) = c.size_of_block-size.ensures ∙ ap sizes (c.len.ensures ∙ c.pop.new.self.ok.0) in
    last_filled l.blocks.items bs c.in-Some.block sizes l.room c.in-Some.ensures.items l.invariant.sized l.invariant.room l.left c.min-before.result l.invariant.filled (c.min-before.ensures ∙ ap (λ n. min l.left (l.room - n)) size)

pub release-requires : goal.release-requires
release-requires g c =
    let l = c.loop-block in let bs = c.pop.new.self.items in let s = c.self.inside in let sizes = block_size s.first s.step in
    let size : c.size_of_block-size.result ≡ sizes (length bs) = c.size_of_block-size.ensures ∙ ap sizes (c.len.ensures ∙ c.pop.new.self.ok.0) in
    c.clear.ensures ∙ ap (λ n. replicate n None) (last_size l.blocks.items bs c.in-Some.block sizes l.room c.in-Some.ensures.items l.invariant.sized l.invariant.room ∙ sym size)

pub loop-block-preserved : goal.loop-block-preserved
loop-block-preserved g c =
    let l = c.loop-block in let bs = c.pop.new.self.items in let s = c.self.inside in let sizes = block_size s.first s.step in let is = c.in-Some.ensures.items in
    let size : c.size_of_block-size.result ≡ sizes (length bs) = c.size_of_block-size.ensures ∙ ap sizes (c.len.ensures ∙ c.pop.new.self.ok.0) in
    record {
      sized = front_sized l.blocks.items bs c.in-Some.block sizes l.room is l.invariant.sized l.invariant.room;
      filled = front_filled l.blocks.items bs c.in-Some.block sizes l.room is l.invariant.sized l.invariant.room l.left c.min-before.result l.invariant.filled (c.min-before.ensures ∙ ap (λ n. min l.left (l.room - n)) size);
      room = ap (λ n. l.room - n) size ∙ front_room l.blocks.items bs c.in-Some.block sizes l.room is l.invariant.sized l.invariant.room;
    }
