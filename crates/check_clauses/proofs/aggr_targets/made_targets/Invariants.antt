use Rattle.std.proofs.Common.{◌≡◌, take}
use Rattle.std.specs.Prelude.{map}
use Rattle.check_clauses.specs.Targets.{made_target}
use Rattle.check_clauses.proofs.aggr_targets.made_targets.Given as goal

abbrev pub invariant-loop-made : goal.invariant-loop-made
invariant-loop-made l = l.targets.items ≡ map made_target (take l.made-index l.made)
