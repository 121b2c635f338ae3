use Rattle.std.proofs.Common.{◌≡◌, ◌+◌, ◌≤◌, length}
use Rattle.vtl_csv.specs.Opening.{first_line}
use Rattle.vtl_csv.specs.StructuresFile.{lines_declare}
use Rattle.vtl_csv.proofs.structures.add_records.Given as goal

abbrev pub invariant-loop-structures : goal.invariant-loop-structures
invariant-loop-structures l =
    (lines_declare l.version l.line l.structures l.reader ≡ lines_declare l.version (first_line l.version) l.fn.structures l.fn.reader)
    × (l.line + length l.reader ≤ 3 + length l.fn.reader)

abbrev pub decreases-loop-structures : goal.decreases-loop-structures
decreases-loop-structures l = length l.reader
