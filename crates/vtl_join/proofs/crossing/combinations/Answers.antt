use Rattle.std.proofs.Common.{◌∷◌, [], ap, sym, ◌∙◌}
use Rattle.vtl_join.specs.Crossing.{combined}
use Rattle.vtl_join.proofs.Combining.{none_combined}
use Rattle.vtl_join.proofs.crossing.combinations.Goals as goal

pub returns-then-contains : goal.returns-then-contains
returns-then-contains c =
    let counts = c.deref.result.now in
    c.new.ensures.items ∙ none_combined (0 ∷ []) counts (sym c.contains.ensures.value ∙ c.if-contains.true) ∙ ap (combined (0 ∷ [])) (c.deref.ensures.value ∙ c.in_ok-counts.ensures)
