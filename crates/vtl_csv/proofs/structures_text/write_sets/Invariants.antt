use Rattle.std.proofs.Common.{◌≡◌, ◌++◌, flat_map, take}
use Rattle.csv.specs.Writing.{default_writer, row_text}
use Rattle.vtl_csv.specs.StructuresText.{set_records}
use Rattle.vtl_csv.proofs.structures_text.write_sets.Given as goal

abbrev pub invariant-loop-i : goal.invariant-loop-i
invariant-loop-i l = l.writer ≡ l.initial.writer ++ flat_map (row_text default_writer) (flat_map (set_records l.structures.not_null) (take l.i l.structures.sets))
