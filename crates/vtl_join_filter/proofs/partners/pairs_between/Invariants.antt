use Rattle.std.specs.List.{AllByRecursion}
use Rattle.vtl_join_filter.specs.Partners.{IsPair, IsPairBetween}
use Rattle.vtl_join_filter.specs.declared.sieve.Asked.{Asked}
use Rattle.vtl_join_filter.proofs.partners.pairs_between.Given as goal

abbrev pub invariant-loop-pair : goal.invariant-loop-pair
invariant-loop-pair l = (a : Asked) → AllByRecursion (IsPair a) l.pairs → AllByRecursion (IsPairBetween a l.front l.last) l.between.items
