use Rattle.std.proofs.Common.{◌≡◌, take}
use Rattle.check_rules.specs.Calls.{seen_columns}
use Rattle.check_rules.proofs.conditions.seen_columns.Given as goal

abbrev pub invariant-loop-column : goal.invariant-loop-column
invariant-loop-column l = l.seen.items ≡ seen_columns l.names (take l.column-index l.fn.columns)
