use Rattle.std.proofs.Common.{◌≡◌, take}
use Rattle.std.specs.List.{flat_map}
use Rattle.sql_check_parts.specs.Rules.{least}
use Rattle.sql_check_parts.specs.Exists.{equality_breaks}
use Rattle.sql_check_parts.proofs.existence.equalities_fault.Given as goal

abbrev pub invariant-loop-equality : goal.invariant-loop-equality
invariant-loop-equality l = l.least ≡ least (flat_map (equality_breaks l.scope l.group l.inner) (take l.equality-index l.equalities))
