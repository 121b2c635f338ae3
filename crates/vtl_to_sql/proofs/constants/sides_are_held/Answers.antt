use Rattle.std.proofs.Common.{subst}
use Rattle.std.specs.List.{AllByRecursion}
use Rattle.vtl_cell.specs.Held.{IsHeld}
use Rattle.vtl_cell.specs.declared.cell.Cell.TheVariants as cell
use Rattle.vtl_tree.specs.RuleItems.{signed_item}
use Rattle.vtl_to_sql.proofs.HeldConstants.{items_held}
use Rattle.vtl_to_sql.proofs.constants.sides_are_held.Goals as goal

pub returns : goal.returns
returns c = record {
  name = c.text_is_held.ensures;
  items = items_held c.args.rule.now c.item_is_held.ensures c.item_is_held-2.ensures (subst (AllByRecursion (λ x. IsHeld (cell.Text (signed_item x)))) c.as_slice.ensures c.items_are_held.ensures);
  code = c.text_is_held-2.ensures;
}
