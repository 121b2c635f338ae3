use Rattle.std.proofs.Common.{map, sym, ap, ◌∙◌}
use Rattle.vtl_tree.specs.CompExp.{const}
use Rattle.vtl_expr.proofs.PreparedLemmas.{boxed_first, same_set}
use Rattle.vtl_expr.proofs.prepared.in_set.Goals as goal

pub returns : goal.returns
returns c =
    same_set c.args.is_in c.in_ok-new.field-0 c.args.args.items c.deref.result.now c.in_ok-of.field-0 c.requires.operands
    (boxed_first c.in_ok-new.field-0 c.swap_remove-operand.result c.args.args.items c.in_ok-new.ensures.ok c.swap_remove-operand.ensures.value)
    (c.requires.constant ∙ ap (map const) (sym c.deref.ensures.value)) c.in_ok-of.ensures
