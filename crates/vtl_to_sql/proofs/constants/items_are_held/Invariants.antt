use Rattle.std.proofs.Common.{drop}
use Rattle.std.specs.List.{AllByRecursion}
use Rattle.vtl_cell.specs.Held.{IsHeld}
use Rattle.vtl_cell.specs.declared.cell.Cell.TheVariants as c
use Rattle.vtl_tree.specs.RuleItems.{signed_item}
use Rattle.vtl_to_sql.proofs.constants.items_are_held.Given as goal

abbrev pub invariant-loop-item : goal.invariant-loop-item
invariant-loop-item l = AllByRecursion (λ x. IsHeld (c.Text (signed_item x))) (drop l.item-index l.items) → AllByRecursion (λ x. IsHeld (c.Text (signed_item x))) l.items
