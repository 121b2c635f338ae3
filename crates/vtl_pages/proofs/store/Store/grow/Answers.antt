use Rattle.std.proofs.Common.{[], ◌∷◌, ◌++◌, ap, ◌∙◌}
use Rattle.vtl_pages.proofs.Spots.{grown, grown_sized}
use Rattle.vtl_pages.proofs.store.Store.grow.Goals as goal

pub invariant_of-self-2 : goal.invariant_of-self-2
invariant_of-self-2 g c =
    let s = c.self.inside in let inv = c.self.invariant in let b = c.in_ok-block.block in (
      inv.0,
      inv.1,
      grown_sized s.blocks.items s.first s.step inv.0 inv.2 c.push_reserved.new.self.items b c.next_size-size.result c.args.self.now c.self.view_is c.next_size-size.ensures c.in_ok-block.ensures
          (c.push_reserved.ensures.items ∙ ap (λ l. l ++ b ∷ []) c.in_ok-reserve.ensures.items),
    )

pub returns-clause-ok : goal.returns-clause-ok
returns-clause-ok g c =
    let s = c.self.inside in let inv = c.self.invariant in let b = c.in_ok-block.block in
    grown s.blocks.items s.first s.step inv.0 inv.2 c.push_reserved.new.self.items b c.next_size-size.result c.args.self.now c.self.view_is c.next_size-size.ensures c.in_ok-block.ensures
    (c.push_reserved.ensures.items ∙ ap (λ l. l ++ b ∷ []) c.in_ok-reserve.ensures.items)
