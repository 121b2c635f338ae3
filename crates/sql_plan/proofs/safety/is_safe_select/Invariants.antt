use Rattle.std.proofs.Common.{◌≡◌, drop, map}
use Rattle.std.specs.List.{list_all}
use Rattle.sql_tree.specs.View.{join_tree}
use Rattle.sql_meaning.specs.Early.{is_safe_join}
use Rattle.sql_plan.proofs.safety.is_safe_select.Given as goal

abbrev pub invariant-loop-join : goal.invariant-loop-join
invariant-loop-join l = list_all is_safe_join (map join_tree (drop l.join-index l.select.joins)) ≡ list_all is_safe_join (map join_tree l.select.joins)
