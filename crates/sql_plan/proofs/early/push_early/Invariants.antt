use Rattle.std.proofs.Common.{◌≡◌, ◌++◌, drop, map}
use Rattle.sql_tree.specs.View.{select_tree}
use Rattle.sql_plan.specs.EarlyChosen.{early_parts, early_parts_behind}
use Rattle.sql_plan.proofs.early.push_early.Given as goal

abbrev pub invariant-loop-place : goal.invariant-loop-place
invariant-loop-place l = l.early.items ++ early_parts_behind l.place (map select_tree (drop l.place l.selects)) ≡ l.initial.early.items ++ early_parts (map select_tree l.selects)
