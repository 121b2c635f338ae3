use Rattle.std.proofs.Common.{◌≡◌, Some, drop}
use Rattle.std.specs.Prelude.{◌||◌}
use Rattle.vtl_cell.specs.ScalarComparison.{combined, member_of}
use Rattle.vtl_scalar.proofs.comparison.member.Given as goal

-- one was found, or is among the members that are left
abbrev pub invariant-loop-x : goal.invariant-loop-x
invariant-loop-x l = combined (λ s t. s || t) (Some l.found) (member_of l.p l.a (drop l.x-index l.members)) ≡ member_of l.p l.a l.members
