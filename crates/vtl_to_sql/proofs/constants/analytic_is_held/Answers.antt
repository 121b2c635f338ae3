use Rattle.std.proofs.Common.{sym, subst}
use Rattle.std.specs.List.{AllByRecursion}
use Rattle.vtl_tree.specs.NodeView.{analytic_tree, item_tree, value_tree}
use Rattle.vtl_tree.specs.Trees.{ItemTree}
use Rattle.vtl_to_sql.specs.Accepted.{AnalyticHoldsValues, MadeHoldsValues}
use Rattle.vtl_to_sql.proofs.HeldConstants.{of_mapped}
use Rattle.vtl_to_sql.proofs.constants.analytic_is_held.Goals as goal

pub returns-in-Calc : goal.returns-in-Calc
returns-in-Calc c =
    subst (λ s. AnalyticHoldsValues (analytic_tree s)) (sym c.in-Calc.is)
    (of_mapped (λ (i : ItemTree). MadeHoldsValues i.value) item_tree c.in-Calc.targets (subst (AllByRecursion (λ i. MadeHoldsValues (value_tree i.value))) c.as_slice.ensures c.targets_are_held.ensures.made))
