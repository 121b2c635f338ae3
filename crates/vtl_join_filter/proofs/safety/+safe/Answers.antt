use Rattle.std.proofs.Common.{◌&&◌, ap, sym, ◌∙◌}
use Rattle.std.specs.List.{list_all}
use Rattle.vtl_tree.specs.View.{comp_exp_of}
use Rattle.vtl_tree.specs.declared.expression.CompExpr.{CompExpr}
use Rattle.vtl_join_filter.specs.Safety.{is_safe}
use Rattle.vtl_join_filter.proofs.SafeValues.{call_safe}
use Rattle.vtl_join_filter.proofs.safety.+safe.Goals as goal

pub is_safe-returns-then-is_total_as : goal.is_safe-returns-then-is_total_as
is_safe-returns-then-is_total_as t c =
    let x = c.in-Apply in
    let truth = sym c.is_total_as.ensures ∙ c.if-is_total_as.true in
    c.are_safe.ensures ∙ ap (list_all (λ e. is_safe (comp_exp_of e))) c.deref.ensures.value
    ∙ ap (λ b. b && list_all (λ e. is_safe (comp_exp_of e)) x.args.items) (sym truth)
    ∙ sym (ap (λ (e : CompExpr). is_safe (comp_exp_of e)) x.is ∙ call_safe x.op x.kind x.args)
