use Rattle.std.proofs.Common.{◌≡◌, take}
use Rattle.vtl_tree.specs.Structure.{names_of}
use Rattle.check_operators.proofs.places.names_of.Given as goal

abbrev pub invariant-loop-component : goal.invariant-loop-component
invariant-loop-component l = l.out.items ≡ names_of (take l.component-index l.components)
