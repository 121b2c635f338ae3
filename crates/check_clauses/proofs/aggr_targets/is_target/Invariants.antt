use Rattle.std.proofs.Common.{◌≡◌, drop}
use Rattle.vtl_tree.specs.Names.{is_among}
use Rattle.check_clauses.specs.Targets.{made_names}
use Rattle.check_clauses.proofs.aggr_targets.is_target.Given as goal

abbrev pub invariant-loop-made : goal.invariant-loop-made
invariant-loop-made l = is_among l.name (made_names (drop l.made-index l.done)) ≡ is_among l.name (made_names l.done)
