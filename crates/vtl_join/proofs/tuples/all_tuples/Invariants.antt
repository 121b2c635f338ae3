use Rattle.std.proofs.Common.{◌≡◌}
use Rattle.std.specs.List.{range_with_len}
use Rattle.vtl_join.specs.Finding.{all_numbers}
use Rattle.vtl_join.proofs.tuples.all_tuples.Given as goal

abbrev pub invariant-loop-i : goal.invariant-loop-i
invariant-loop-i g l = l.tuples.items ≡ all_numbers l.whole l.sources l.lead.rows (range_with_len 0 l.i)
