use Rattle.std.proofs.Common.{◌≡◌, drop}
use Rattle.vtl_tree.specs.Names.{component_of}
use Rattle.vtl_tree.proofs.names.component_of.Given as goal

abbrev pub invariant-loop-component : goal.invariant-loop-component
invariant-loop-component l = component_of l.name (drop l.component-index l.components) ≡ component_of l.name l.components
