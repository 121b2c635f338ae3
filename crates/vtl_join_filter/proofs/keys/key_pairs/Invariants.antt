use Rattle.std.specs.List.{AllByRecursion}
use Rattle.vtl_join_filter.specs.Partners.{IsPair}
use Rattle.vtl_join_filter.proofs.keys.key_pairs.Given as goal

abbrev pub invariant-loop-columns : goal.invariant-loop-columns
invariant-loop-columns l = AllByRecursion (IsPair l.asked) l.pairs.items
