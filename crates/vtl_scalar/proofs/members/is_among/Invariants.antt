use Rattle.std.proofs.Common.{◌≤◌, ◌-◌, length}
use Rattle.vtl_scalar.proofs.MemberLemmas.{AreAbove, AreBelow}
use Rattle.vtl_scalar.proofs.members.is_among.Given as goal

-- the members before `low` are less than the value, and those from `high` on are greater
abbrev pub invariant-loop-low : goal.invariant-loop-low
invariant-loop-low l = (l.low ≤ l.high) × (l.high ≤ length l.members) × AreBelow l.p l.a l.members l.low × AreAbove l.p l.a l.members l.high

abbrev pub decreases-loop-low : goal.decreases-loop-low
decreases-loop-low l = l.high - l.low
