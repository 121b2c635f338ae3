use Rattle.std.proofs.Common.{◌++◌, ◌∷◌, [], take, ap, ◌∙◌}
use Rattle.std.specs.Map.{keys_of}
use Rattle.vtl_check.proofs.KnownLemmas.{name_more}
use Rattle.vtl_check.proofs.uses.names_by_place.Goals as goal

pub loop-i-preserved : goal.loop-i-preserved
loop-i-preserved c =
    let entries = c.args.known.now in
    let i = c.loop-i.i in
    c.in_ok-push.ensures.items
    ∙ ap (λ ns. ns ++ c.in_ok-share.field-0 ∷ []) c.loop-i.invariant
    ∙ ap (λ name. keys_of (take i entries) ++ name ∷ []) c.in_ok-share.ensures
    ∙ name_more entries i c.at.result.0.now c.at.result.1.now c.at.ensures
