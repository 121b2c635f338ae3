use Rattle.std.proofs.Common.{reverse, sym, ap, ◌∙◌, subst}
use Rattle.std.proofs.lemmas.List.{reverse-reverse}
use Rattle.vtl_pages.specs.Left.{IsLeaving}
use Rattle.vtl_pages.proofs.Leaves.{none_gone}
use Rattle.vtl_pages.proofs.leaving.Leaving.new.Goals as goal

pub invariant_of-result : goal.invariant_of-result
invariant_of-result g c =
    let a = c.args in let r = c.requires in
    let same = ap reverse c.reverse.ensures.items ∙ reverse-reverse a.blocks.items in
    subst (λ bs. IsLeaving bs a.first a.step 0 a.count) (sym same) (none_gone a.blocks.items a.first a.step a.count r.first r.step r.sized r.laid)
