use Rattle.std.proofs.Common.{◌≡◌, ◌++◌, take}
use Rattle.vtl_tree.specs.Choices.{chosen}
use Rattle.vtl_tree.proofs.choices.push_chosen.Given as goal

abbrev pub invariant-loop-component : goal.invariant-loop-component
invariant-loop-component l = l.out.items ≡ l.fn.out.items ++ chosen l.choice l.names (take l.component-index l.components)
