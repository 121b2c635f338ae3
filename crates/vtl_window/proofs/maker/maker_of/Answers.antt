use Rattle.std.proofs.Common.{Some, None, cond, ap, sym, ◌∙◌}
use Rattle.vtl_meaning.specs.Analytics.{measure_call, value_for}
use Rattle.vtl_tree.specs.NodeView.{analytic_tree}
use Rattle.vtl_window.proofs.maker.maker_of.Goals as goal

pub returns-then-is_same_role : goal.returns-then-is_same_role
returns-then-is_same_role c =
    let y = c.args.column.now in
    let v = measure_call c.in-Measures.op c.in-Measures.window y.name in
    sym (ap (λ s. value_for (analytic_tree s) y) c.in-Measures.is ∙ ap (λ b. cond b (Some v) None) (sym c.is_same_role.ensures ∙ c.if-is_same_role.true))

pub returns-else-is_same_role : goal.returns-else-is_same_role
returns-else-is_same_role c =
    let y = c.args.column.now in
    let v = measure_call c.in-Measures.op c.in-Measures.window y.name in
    sym (ap (λ s. value_for (analytic_tree s) y) c.in-Measures.is ∙ ap (λ b. cond b (Some v) None) (sym c.is_same_role.ensures ∙ c.if-is_same_role.false))
