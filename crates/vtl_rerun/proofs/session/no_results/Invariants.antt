use Rattle.std.proofs.Common.{◌≡◌, None, map, take}
use Rattle.vtl_rerun.proofs.session.no_results.Given as goal

abbrev pub invariant-loop : goal.invariant-loop
invariant-loop l = l.results.items ≡ map (λ x. None) (take l.index l.parts)
