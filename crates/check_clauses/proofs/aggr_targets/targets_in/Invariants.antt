use Rattle.std.proofs.Common.{◌≡◌, ◌++◌, length}
use Rattle.std.specs.Vec.Iter.{into_iter_items, into_iter_len}
use Rattle.check_clauses.specs.Targets.{targets_in}
use Rattle.check_clauses.proofs.aggr_targets.targets_in.Given as goal

abbrev pub invariant-loop-made : goal.invariant-loop-made
invariant-loop-made l = (l.targets.items ++ targets_in (into_iter_items l.made-iterator) ≡ targets_in l.fn.made.items)
    × (into_iter_len l.made-iterator ≡ length (into_iter_items l.made-iterator))
