use Rattle.std.proofs.Common.{◌≡◌, map}
use Rattle.std.specs.List.{range_with_len}
use Rattle.vtl_demo.specs.DataSets.{group_name}
use Rattle.vtl_demo.proofs.data_sets.group_names.Given as goal

abbrev pub invariant-loop-digit : goal.invariant-loop-digit
invariant-loop-digit l = l.names.items ≡ map group_name (range_with_len 0 l.digit)
