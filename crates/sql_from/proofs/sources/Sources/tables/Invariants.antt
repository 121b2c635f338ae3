use Rattle.std.proofs.Common.{◌≡◌, map, take}
use Rattle.vtl_rows.specs.Tables.{listed}
use Rattle.sql_from.specs.Sources.{parts_of}
use Rattle.sql_from.proofs.sources.Sources.tables.Given as goal

abbrev pub invariant-loop-i : goal.invariant-loop-i
invariant-loop-i l = map (λ t. listed t.now) l.tables.items ≡ take l.i (parts_of l.self.sources)
