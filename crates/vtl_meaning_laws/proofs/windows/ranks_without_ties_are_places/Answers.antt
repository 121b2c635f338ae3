use Rattle.std.specs.Prelude.{◌+◌, pos}
use Rattle.std.proofs.Common.{ap}
use Rattle.vtl_decimal.specs.Range.{fit_integer}
use Rattle.vtl_cell.specs.ScalarArithmetic.{integer}
use Rattle.vtl_meaning_laws.proofs.Stands.{rank_is_place, ranks_tie}
use Rattle.vtl_meaning_laws.proofs.windows.ranks_without_ties_are_places.Goals as goal

pub returns-clause-places : goal.returns-clause-places
returns-clause-places c = λ p d w at r alone. ap (λ n. integer (fit_integer p.scale (pos (n + 1)))) (rank_is_place p d w r alone)

pub returns-clause-ties : goal.returns-clause-ties
returns-clause-ties c = λ p d w at r q same e. ap (λ n. integer (fit_integer p.scale (pos (n + 1)))) (ranks_tie p d w r q same e)
