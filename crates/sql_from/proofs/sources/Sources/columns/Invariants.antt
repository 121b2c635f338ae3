use Rattle.std.proofs.Common.{◌≡◌, ◌≤◌, length, take}
use Rattle.sql_from.specs.Columns.{source_columns}
use Rattle.sql_from.specs.Sources.{scope_held}
use Rattle.sql_from.proofs.sources.Sources.columns.Given as goal

abbrev pub invariant-loop-i : goal.invariant-loop-i
invariant-loop-i l = record {
  columns : l.columns.items ≡ source_columns (scope_held (take l.i l.self.sources));
  some : l.i ≤ length l.columns.items;
}
