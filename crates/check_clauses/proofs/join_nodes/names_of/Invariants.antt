use Rattle.std.proofs.Common.{◌≡◌, take}
use Rattle.std.specs.Prelude.{map}
use Rattle.vtl_tree.specs.Names.{name_of}
use Rattle.check_clauses.proofs.join_nodes.names_of.Given as goal

abbrev pub invariant-loop-component : goal.invariant-loop-component
invariant-loop-component l = l.names.items ≡ map name_of (take l.component-index l.components)
