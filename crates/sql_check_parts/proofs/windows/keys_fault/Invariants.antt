use Rattle.std.proofs.Common.{◌≡◌, take}
use Rattle.std.specs.List.{flat_map}
use Rattle.sql_check_parts.specs.Rules.{least}
use Rattle.sql_check_parts.specs.Windows.{key_breaks}
use Rattle.sql_check_parts.proofs.windows.keys_fault.Given as goal

abbrev pub invariant-loop-key : goal.invariant-loop-key
invariant-loop-key l = l.least ≡ least (flat_map (key_breaks l.scope l.group) (take l.key-index l.keys))
