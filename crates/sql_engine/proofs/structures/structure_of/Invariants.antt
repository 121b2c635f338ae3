use Rattle.std.proofs.Common.{◌≡◌, map, take}
use Rattle.sql_engine.specs.Structures.{component_of}
use Rattle.sql_engine.proofs.structures.structure_of.Given as goal

abbrev pub invariant-loop-column : goal.invariant-loop-column
invariant-loop-column l = l.components.items ≡ map (component_of l.input.key) (take l.column-index l.column-items)
