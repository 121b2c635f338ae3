use Rattle.std.proofs.Common.{◌≡◌, ◌++◌, flat_map, map, take}
use Rattle.csv.specs.Writing.{default_writer, row_text}
use Rattle.vtl_csv.specs.StructuresText.{component_record}
use Rattle.vtl_csv.proofs.structures_text.write_components.Given as goal

abbrev pub invariant-loop-component : goal.invariant-loop-component
invariant-loop-component l = l.writer ≡ l.initial.writer ++ flat_map (row_text default_writer) (map (component_record l.dataset l.list) (take l.component-index l.components))
