use Rattle.std.proofs.Common.{drop}
use Rattle.std.specs.List.{AllByRecursion}
use Rattle.vtl_tree.specs.View.{comp_exp_of}
use Rattle.expressions_to_sql.specs.Held.{HoldsValues}
use Rattle.vtl_to_sql.proofs.constants.+expressions.Given as goal

abbrev pub invariant-expressions_are_held-loop-e : goal.invariant-expressions_are_held-loop-e
invariant-expressions_are_held-loop-e l = AllByRecursion (λ e. HoldsValues (comp_exp_of e)) (drop l.e-index l.exps) → AllByRecursion (λ e. HoldsValues (comp_exp_of e)) l.exps
