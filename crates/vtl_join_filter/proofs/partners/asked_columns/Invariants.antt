use Rattle.std.proofs.Common.{◌≡◌, map, take}
use Rattle.vtl_join_filter.specs.Partners.{asked_column}
use Rattle.vtl_join_filter.proofs.partners.asked_columns.Given as goal

abbrev pub invariant-loop-pair : goal.invariant-loop-pair
invariant-loop-pair l = l.columns.items ≡ map asked_column (take l.pair-index l.pairs)
