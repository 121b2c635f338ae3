use Rattle.std.proofs.Common.{◌≡◌, drop}
use Rattle.check_values.specs.Windows.{is_known}
use Rattle.check_values.proofs.windows.is_known.Given as goal

abbrev pub invariant-loop-column : goal.invariant-loop-column
invariant-loop-column l = is_known l.name (drop l.column-index l.columns) ≡ is_known l.name l.columns
