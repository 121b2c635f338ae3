use Rattle.std.proofs.Common.{◌≡◌, ◌++◌, map}
use Rattle.std.specs.List.{range_with_len}
use Rattle.vtl_cell.specs.Sorted.{rising}
use Rattle.vtl_rows.specs.Keys.{key_of}
use Rattle.sql_engine.proofs.orders.push_first.Given as goal

abbrev pub invariant-loop-column : goal.invariant-loop-column
invariant-loop-column l = map key_of l.keys.items ≡ map key_of l.initial.keys.items ++ map rising (range_with_len 0 l.column)
