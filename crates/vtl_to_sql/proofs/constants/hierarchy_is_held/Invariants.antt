use Rattle.std.proofs.Common.{drop}
use Rattle.std.specs.List.{AllByRecursion}
use Rattle.vtl_to_sql.specs.Accepted.{SidesHoldTexts}
use Rattle.vtl_to_sql.proofs.constants.hierarchy_is_held.Given as goal

abbrev pub invariant-loop-rule : goal.invariant-loop-rule
invariant-loop-rule l = AllByRecursion SidesHoldTexts (drop l.rule-index l.rules) → AllByRecursion SidesHoldTexts l.rules
