use Rattle.std.proofs.Common.{◌≡◌, take}
use Rattle.check_rules.proofs.copies.share_others.Given as goal

abbrev pub invariant-loop-other : goal.invariant-loop-other
invariant-loop-other l = l.copies.items ≡ take l.other-index l.others
