use Rattle.std.proofs.Common.{◌≡◌, take}
use Rattle.vtl_tree.specs.Declarations.{lists_of}
use Rattle.vtl_tree.proofs.structures.all_lists.Given as goal

abbrev pub invariant-loop-i : goal.invariant-loop-i
invariant-loop-i l = l.lists ≡ lists_of (take l.i l.held)
