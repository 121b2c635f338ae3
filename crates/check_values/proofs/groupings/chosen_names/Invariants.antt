use Rattle.std.proofs.Common.{◌≡◌, take}
use Rattle.vtl_tree.specs.Choices.{chosen}
use Rattle.vtl_tree.specs.Structure.{names_of}
use Rattle.check_values.proofs.groupings.chosen_names.Given as goal

abbrev pub invariant-loop-component : goal.invariant-loop-component
invariant-loop-component l = l.out.items ≡ names_of (chosen l.choice l.names (take l.component-index l.components))
