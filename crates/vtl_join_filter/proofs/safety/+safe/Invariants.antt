use Rattle.std.proofs.Common.{◌≡◌, true, take}
use Rattle.std.specs.List.{list_all}
use Rattle.vtl_tree.specs.View.{comp_exp_of}
use Rattle.vtl_join_filter.specs.Safety.{is_safe}
use Rattle.vtl_join_filter.proofs.safety.+safe.Given as goal

abbrev pub invariant-are_safe-loop-condition : goal.invariant-are_safe-loop-condition
invariant-are_safe-loop-condition l = list_all (λ e. is_safe (comp_exp_of e)) (take l.condition-index l.conditions) ≡ true
