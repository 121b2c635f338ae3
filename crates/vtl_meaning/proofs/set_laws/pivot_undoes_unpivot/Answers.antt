use Rattle.std.proofs.Common.{◌∙◌}
use Rattle.vtl_meaning.proofs.TurnedBack.{pivoted_back, whole_points}
use Rattle.vtl_meaning.proofs.set_laws.pivot_undoes_unpivot.Goals as goal

pub returns-clause-values : goal.returns-clause-values
returns-clause-values c = λ id m d s i h some filled. pivoted_back id m d.structure s i h.well_formed d.points h some filled

pub returns-clause-points : goal.returns-clause-points
returns-clause-points c = λ id m d s i h some plain filled. pivoted_back id m d.structure s i h.well_formed d.points h some filled ∙ whole_points d.structure d.points plain h
