use Rattle.std.proofs.Common.{drop}
use Rattle.std.specs.List.{AllByRecursion}
use Rattle.vtl_cell.specs.Held.{IsHeld}
use Rattle.vtl_to_sql.proofs.constants.values_are_held.Given as goal

abbrev pub invariant-loop-item : goal.invariant-loop-item
invariant-loop-item l = AllByRecursion (λ i. IsHeld i.value) (drop l.item-index l.values) → AllByRecursion (λ i. IsHeld i.value) l.values
