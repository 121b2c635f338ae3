use Rattle.std.proofs.Common.{◌≡◌, ◌++◌, drop, map}
use Rattle.sql_tree.specs.View.{select_tree}
use Rattle.sql_plan.specs.Chosen.{equality_joins, equality_joins_behind}
use Rattle.sql_plan.proofs.joins.push_indexed.Given as goal

abbrev pub invariant-loop-select : goal.invariant-loop-select
invariant-loop-select l = l.indexed.items ++ equality_joins_behind l.select (map select_tree (drop l.select l.selects)) ≡ l.initial.indexed.items ++ equality_joins (map select_tree l.selects)
