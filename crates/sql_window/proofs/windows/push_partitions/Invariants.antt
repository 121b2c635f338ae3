use Rattle.std.proofs.Common.{◌≡◌, ◌++◌, map, take}
use Rattle.std.specs.List.{concat}
use Rattle.sql_from.specs.Standing.{sight_of}
use Rattle.sql_window.specs.Runs.{window_at}
use Rattle.sql_window.proofs.windows.push_partitions.Given as goal

abbrev pub invariant-loop-i : goal.invariant-loop-i
invariant-loop-i l = l.out.items ≡ l.fn.out.items ++ map (window_at (sight_of l.p l.sources) l.window l.table.rows) (concat (take l.i l.partitions))
