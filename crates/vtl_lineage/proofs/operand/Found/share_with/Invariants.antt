use Rattle.std.proofs.Common.{◌≡◌, take}
use Rattle.vtl_lineage.proofs.operand.Found.share_with.Given as goal

abbrev pub invariant-loop-set : goal.invariant-loop-set
invariant-loop-set l = l.others.items ≡ take l.set-index l.set-items
