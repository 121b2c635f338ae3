use Rattle.std.proofs.Common.{◌≡◌, map, take}
use Rattle.sql_tree.specs.View.{select_tree}
use Rattle.sql_from.specs.FromTables.{from_given}
use Rattle.sql_exec.proofs.from_each.from_each.Given as goal

abbrev pub invariant-loop-select : goal.invariant-loop-select
invariant-loop-select l = l.all.items ≡ map (from_given l.tables) (map select_tree (take l.select-index l.selects))
