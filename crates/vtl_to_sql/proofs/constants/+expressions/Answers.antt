use Rattle.std.proofs.Common.{subst}
use Rattle.std.specs.List.{AllByRecursion}
use Rattle.vtl_tree.specs.View.{comp_exp_of}
use Rattle.expressions_to_sql.specs.Held.{HoldsValues}
use Rattle.vtl_to_sql.proofs.HeldConstants.{apply_held}
use Rattle.vtl_to_sql.proofs.constants.+expressions.Goals as goal

pub expression_is_held-returns-in-Apply : goal.expression_is_held-returns-in-Apply
expression_is_held-returns-in-Apply t c =
    apply_held c.args.e.now c.in-Apply.op c.in-Apply.kind c.in-Apply.args c.in-Apply.is (subst (AllByRecursion (λ x. HoldsValues (comp_exp_of x))) c.deref.ensures.value c.expressions_are_held.ensures)
