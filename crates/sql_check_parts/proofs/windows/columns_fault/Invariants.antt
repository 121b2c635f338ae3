use Rattle.std.proofs.Common.{◌≡◌, take}
use Rattle.std.specs.List.{flat_map}
use Rattle.sql_check_parts.specs.Rules.{least}
use Rattle.sql_check_parts.specs.Windows.{column_breaks}
use Rattle.sql_check_parts.proofs.windows.columns_fault.Given as goal

abbrev pub invariant-loop-column : goal.invariant-loop-column
invariant-loop-column l = l.least ≡ least (flat_map (column_breaks l.scope l.group) (take l.column-index l.columns))
