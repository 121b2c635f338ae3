use Rattle.std.proofs.Common.{◌≡◌, drop}
use Rattle.std.specs.List.{list_any}
use Rattle.vtl_csv.specs.StructuresFile.{is_identifier}
use Rattle.vtl_csv.proofs.structures.has_identifier.Given as goal

abbrev pub invariant-loop-component : goal.invariant-loop-component
invariant-loop-component l = list_any is_identifier (drop l.component-index l.components) ≡ list_any is_identifier l.components
