use Rattle.std.proofs.Common.{◌≡◌, ◌++◌, drop, map}
use Rattle.sql_tree.specs.View.{join_tree}
use Rattle.sql_plan.specs.Chosen.{equality_joins_from}
use Rattle.sql_plan.proofs.joins.push_joins.Given as goal

abbrev pub invariant-loop-join : goal.invariant-loop-join
invariant-loop-join l = l.indexed.items ++ equality_joins_from l.select l.join (map join_tree (drop l.join l.joins)) ≡ l.initial.indexed.items ++ equality_joins_from l.select 0 (map join_tree l.joins)
