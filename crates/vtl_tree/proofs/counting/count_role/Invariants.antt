use Rattle.std.proofs.Common.{◌≡◌, ◌≤◌, filter, length, take}
use Rattle.vtl_tree.specs.Structure.{same_role}
use Rattle.vtl_tree.proofs.counting.count_role.Given as goal

abbrev pub invariant-loop-i : goal.invariant-loop-i
invariant-loop-i l = (l.count ≡ length (filter (λ x. same_role x.role l.role) (take l.i l.components))) × (l.count ≤ l.i)
