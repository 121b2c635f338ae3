use Rattle.std.proofs.Common.{◌≡◌, false, map, take}
use Rattle.std.specs.List.{AllByRecursion}
use Rattle.sql_from.specs.Asking.{asks}
use Rattle.sql_from.specs.Conditions.{trees_of}
use Rattle.sql_from.specs.Standing.{condition_at}
use Rattle.sql_from.specs.Tried.{value_of}
use Rattle.sql_from.proofs.conditions.Conditions.of.Given as goal

abbrev pub invariant-loop-condition : goal.invariant-loop-condition
invariant-loop-condition g l = record {
  values : map value_of l.parts.items ≡ map (condition_at l.p l.sources) (trees_of (take l.condition-index l.conditions));
  same : AllByRecursion (λ x. x.partners ≡ l.sources) l.parts.items;
  steps : AllByRecursion (λ e. asks e ≡ false) (trees_of (take l.condition-index l.conditions)) → l.steps ≡ l.initial.steps;
}
