use Rattle.std.proofs.Common.{◌≡◌, ◌++◌, drop}
use Rattle.std.specs.Prelude.{flat_map, string_bytes}
use Rattle.vtl_check.specs.Checked.{known_of}
use Rattle.vtl_demo.specs.Said.{part_for}
use Rattle.vtl_demo.proofs.demonstration.line_for.Given as goal

abbrev pub invariant-loop-i : goal.invariant-loop-i
invariant-loop-i l = string_bytes l.line ++ flat_map (part_for (known_of l.script)) (drop l.i l.outputs) ≡ l.word ++ flat_map (part_for (known_of l.script)) l.outputs
