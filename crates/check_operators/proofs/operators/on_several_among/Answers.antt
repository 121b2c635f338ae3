use Rattle.std.proofs.Common.{◌<◌, ◌+◌, ◌∙◌, length, ap, sym, arith, Err}
use Rattle.vtl_tree.specs.View.{comp_exp_of}
use Rattle.check_operators.specs.Typed.{boxed_tree}
use Rattle.check_operators.proofs.OperatorLemmas.{beside_values}
use Rattle.check_operators.proofs.operators.on_several_among.Goals as goal
use Rattle.check_operators.proofs.operators.on_several_among.Goals.{else-is_empty-via-then-is_empty+else-is_empty-2, else-is_empty-via-else-is_empty}

pub returns : goal.returns
returns c =
    let some : 0 < length c.args.before.items + length c.args.after.items = elim c.else-is_empty.branch [
      | else-is_empty-via-then-is_empty+else-is_empty-2 w ↦ grind (arith, w)
      | else-is_empty-via-else-is_empty w ↦ grind (arith, w)
    ] in
    beside_values c.args.op c.args.literals comp_exp_of boxed_tree c.args.before.items c.args.datasets.items c.args.after.items c.requires some ∙ ap Err (sym c.misplaced_rule.ensures)
