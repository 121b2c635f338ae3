use Rattle.std.proofs.Common.{length, inl, inr, ◌∙◌, arith}
use Rattle.std.proofs.lemmas.Bool.{cases_lt}
use Rattle.vtl_pages.proofs.Emptied.{all_empty}
use Rattle.vtl_pages.proofs.block.Block.clear.Goals as goal

pub take-requires : goal.take-requires
take-requires g c =
    let inv = c.loop-place.invariant in let i = c.loop-place.place in let x = c.requires.full i c.loop-place-test.true in
    (x.0, inv.left i (omega arith) ∙ x.1)

pub returns : goal.returns
returns g c =
    let inv = c.loop-place.invariant in let n = c.loop-place.place in let done = c.loop-place-test.false in
    all_empty c.loop-place.self (length c.args.self.now) inv.long (λ i. elim (cases_lt i n) [ inl lt ↦ inv.emptied i lt | inr le ↦ inv.left i le ∙ c.requires.free i (omega arith) ])
