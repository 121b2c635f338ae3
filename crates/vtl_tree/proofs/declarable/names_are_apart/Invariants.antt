use Rattle.std.proofs.Common.{◌≡◌, drop}
use Rattle.vtl_lists.specs.Apart.{all_apart}
use Rattle.vtl_tree.specs.Structure.{names_of, same_name}
use Rattle.vtl_tree.proofs.declarable.names_are_apart.Given as goal

abbrev pub invariant-loop-i : goal.invariant-loop-i
invariant-loop-i l = all_apart same_name (names_of (drop l.i l.components)) ≡ all_apart same_name (names_of l.components)
