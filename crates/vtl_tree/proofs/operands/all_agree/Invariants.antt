use Rattle.std.proofs.Common.{◌≡◌, drop}
use Rattle.vtl_tree.specs.Shown.{shown}
use Rattle.vtl_tree.specs.Operands.{all_agree}
use Rattle.vtl_tree.proofs.operands.all_agree.Given as goal

abbrev pub invariant-loop-other : goal.invariant-loop-other
invariant-loop-other l = all_agree l.compared l.role l.first (shown (drop l.other-index l.others)) ≡ all_agree l.compared l.role l.first (shown l.others)
