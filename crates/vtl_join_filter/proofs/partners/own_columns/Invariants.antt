use Rattle.std.proofs.Common.{◌≡◌, map, take}
use Rattle.vtl_join_filter.specs.Partners.{own_column}
use Rattle.vtl_join_filter.proofs.partners.own_columns.Given as goal

abbrev pub invariant-loop-pair : goal.invariant-loop-pair
invariant-loop-pair l = l.columns.items ≡ map own_column (take l.pair-index l.pairs)
