use Rattle.std.proofs.Common.{◌≡◌, ◌+◌, ◌≤◌, length}
use Rattle.vtl_csv.specs.Opening.{first_line}
use Rattle.vtl_csv.specs.StructuresFile.{without_identifier}
use Rattle.vtl_csv.proofs.structures.without_identifier.Given as goal

abbrev pub invariant-loop-fields : goal.invariant-loop-fields
invariant-loop-fields l =
    (without_identifier l.version l.line l.structures.sets l.reader ≡ without_identifier l.version (first_line l.version) l.structures.sets l.fn.reader)
    × (l.line + length l.reader ≤ 3 + length l.fn.reader)

abbrev pub decreases-loop-fields : goal.decreases-loop-fields
decreases-loop-fields l = length l.reader
