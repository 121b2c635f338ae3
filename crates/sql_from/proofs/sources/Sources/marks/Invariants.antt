use Rattle.std.proofs.Common.{◌≡◌, take}
use Rattle.sql_from.specs.Joins.{marks_of}
use Rattle.sql_from.specs.Sources.{parts_of}
use Rattle.sql_from.proofs.sources.Sources.marks.Given as goal

abbrev pub invariant-loop-i : goal.invariant-loop-i
invariant-loop-i l = l.marks.items ≡ marks_of (take l.i (parts_of l.self.sources))
