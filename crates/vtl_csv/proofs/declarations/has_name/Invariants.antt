use Rattle.std.proofs.Common.{◌≡◌, drop}
use Rattle.std.specs.List.{list_any}
use Rattle.vtl_tree.specs.Structure.{names_of, same_name}
use Rattle.vtl_csv.proofs.declarations.has_name.Given as goal

abbrev pub invariant-loop-component : goal.invariant-loop-component
invariant-loop-component l = list_any (same_name l.name) (names_of (drop l.component-index l.components)) ≡ list_any (same_name l.name) (names_of l.components)
