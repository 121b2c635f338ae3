use Rattle.std.proofs.Common.{◌++◌, take}
use Rattle.vtl_lists.specs.Perm.{Perm}
use Rattle.vtl_scalar.proofs.members.Members.of.Given as goal

abbrev pub invariant-loop-cell : goal.invariant-loop-cell
invariant-loop-cell l = Perm (l.integers.items ++ l.others.items) (take l.cell-index l.listed)
