use Rattle.std.proofs.Common.{◌≡◌, drop}
use Rattle.std.specs.List.{list_all}
use Rattle.vtl_tree.specs.Structures.{is_declarable_component}
use Rattle.vtl_tree.proofs.declarable.are_declarable.Given as goal

abbrev pub invariant-loop-component : goal.invariant-loop-component
invariant-loop-component l = list_all is_declarable_component (drop l.component-index l.components) ≡ list_all is_declarable_component l.components
