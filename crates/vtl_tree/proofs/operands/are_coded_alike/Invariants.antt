use Rattle.std.proofs.Common.{◌≡◌, drop}
use Rattle.std.specs.List.{list_all}
use Rattle.vtl_tree.specs.Shown.{shown}
use Rattle.vtl_tree.specs.Operands.{is_coded_alike}
use Rattle.vtl_tree.proofs.operands.are_coded_alike.Given as goal

abbrev pub invariant-loop-other : goal.invariant-loop-other
invariant-loop-other l = list_all (λ s. is_coded_alike l.component s.components) (shown (drop l.other-index l.others)) ≡ list_all (λ s. is_coded_alike l.component s.components) (shown l.others)
