use Rattle.std.proofs.Common.{◌≡◌, map, take}
use Rattle.vtl_tree.specs.Names.{name_of}
use Rattle.check_rules.proofs.names.names_of.Given as goal

abbrev pub invariant-loop-component : goal.invariant-loop-component
invariant-loop-component l = l.names.items ≡ map name_of (take l.component-index l.components)
