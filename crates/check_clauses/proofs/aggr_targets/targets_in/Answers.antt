use Rattle.std.proofs.Common.{◌≡◌, [], sym, ◌∙◌, append-nil}
use Rattle.std.specs.Vec.Iter.{into_iter_items}
use Rattle.vtl_lists.proofs.Filters.{nothing_left}
use Rattle.check_clauses.proofs.aggr_targets.targets_in.Goals as goal

pub returns : goal.returns
returns c =
    let at = c.loop-made in
    let empty : into_iter_items at.made-iterator ≡ [] = nothing_left _ (sym at.invariant.1 ∙ c.in-None.ensures.steps.0) in
    sym (append-nil at.targets.items) ∙ rw empty at at.invariant.0
