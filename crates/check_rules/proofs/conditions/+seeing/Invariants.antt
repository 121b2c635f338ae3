use Rattle.std.proofs.Common.{◌≡◌, drop}
use Rattle.std.specs.List.{list_all}
use Rattle.vtl_tree.specs.View.{comp_exp_of}
use Rattle.check_rules.specs.Calls.{sees_names}
use Rattle.check_rules.proofs.conditions.+seeing.Given as goal

abbrev pub invariant-all_see_names-loop-e : goal.invariant-all_see_names-loop-e
invariant-all_see_names-loop-e l = list_all (λ e. sees_names (comp_exp_of e)) (drop l.e-index l.exps) ≡ list_all (λ e. sees_names (comp_exp_of e)) l.exps
