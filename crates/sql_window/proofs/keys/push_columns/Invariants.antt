use Rattle.std.proofs.Common.{◌≡◌, ◌++◌, map}
use Rattle.std.specs.List.{range_with_len}
use Rattle.sql_window.specs.Keys.{rising_key}
use Rattle.sql_window.proofs.keys.push_columns.Given as goal

abbrev pub invariant-loop-column : goal.invariant-loop-column
invariant-loop-column l = l.all.items ≡ l.fn.all.items ++ map rising_key (range_with_len 0 l.column)
